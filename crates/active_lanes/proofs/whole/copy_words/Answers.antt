use Rattle.std.proofs.Common.{◌<◌, ◌∙◌, length, refl, arith}
use Rattle.active_lanes.proofs.Words.{copied_lanes, kept_above, one_more_copied}
use Rattle.active_lanes.proofs.whole.copy_words.Goals as goal

pub loop-i-init : goal.loop-i-init
loop-i-init c = record { done = λ j h. absurd (omega arith); above = λ k h. refl }

pub loop-i-preserved : goal.loop-i-preserved
loop-i-preserved c =
    let within : c.loop-i.i < length c.loop-i.words = omega (arith, c.loop-i-test.true, c.requires.long) in
    record {
      done = one_more_copied c.args.at c.loop-i.i c.read_u64.result c.args.bytes.now c.loop-i.words (λ k. (c.type_inv.bytes k).fits) within c.read_u64.ensures c.loop-i.invariant.done;
      above = kept_above c.loop-i.i c.read_u64.result c.args.words.now c.loop-i.words c.loop-i.invariant.above;
    }

pub returns-clause-bytes : goal.returns-clause-bytes
returns-clause-bytes c = λ j b.
    c.loop-i.invariant.done j (omega (arith, c.loop-i-test.false, b)) ∙ copied_lanes c.args.e c.args.n c.args.at j c.args.bytes.now c.requires.size c.requires.same (λ k. (c.type_inv.bytes k).fits)
