use Rattle.std.proofs.Common.{◌<◌, ◌∙◌, length, arith, refl}
use Rattle.std.proofs.lemmas.List.{length-set}
use Rattle.vec_regs.specs.Packed.{word_of}
use Rattle.vec_regs.proofs.Views.{zero_word}
use Rattle.vec_regs.proofs.PackedLanes.{filled, still, one_word}
use Rattle.vec_regs.proofs.packing.pack.Goals as goal

pub loop-i-init : goal.loop-i-init
loop-i-init c = record { count = refl; done = λ k h. absurd (omega arith); rest = λ k h. zero_word 32 k }

pub loop-i-preserved : goal.loop-i-preserved
loop-i-preserved c =
    let within : c.loop-i.i < length c.loop-i.words = omega arith in
    record {
      count = length-set c.loop-i.words c.loop-i.i c.word_of.result ∙ c.loop-i.invariant.count;
      done = filled (word_of c.args.e c.args.lanes.now) c.loop-i.words c.loop-i.i c.word_of.result within (one_word c.args.e c.loop-i.i c.word_of.result c.args.lanes.now c.word_of.ensures) c.loop-i.invariant.done;
      rest = still c.loop-i.words c.loop-i.i c.word_of.result c.loop-i.invariant.rest;
    }
