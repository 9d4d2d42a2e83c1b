use Rattle.std.proofs.Common.{◌<◌, ◌-◌, length, get_or, refl, arith}
use Rattle.active_lanes.proofs.KeptWords.{kept_above}
use Rattle.element_loops.proofs.Repeats.{first_bytes, one_more_repeated}
use Rattle.element_loops.proofs.repeated.repeat_first.Goals as goal

pub loop-i-init : goal.loop-i-init
loop-i-init c = record { done = first_bytes c.args.words.now; above = λ k h. refl }

pub loop-i-preserved : goal.loop-i-preserved
loop-i-preserved c =
    let within : c.loop-i.i < length c.loop-i.words = omega (arith, c.loop-i-test.true, c.requires.long) in
    record {
      done = one_more_repeated c.loop-i.i c.args.words.now c.loop-i.words c.loop-i.auto.i within c.loop-i.invariant.done;
      above = kept_above c.loop-i.i (get_or c.loop-i.words (c.loop-i.i - 2) 0) c.args.words.now c.loop-i.words c.loop-i.invariant.above;
    }
