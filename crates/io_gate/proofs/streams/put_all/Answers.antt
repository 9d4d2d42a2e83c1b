use Rattle.std.proofs.Common.{arith, ◌∙◌}
use Rattle.std.proofs.lemmas.Grind.{common_steps}
use Rattle.io_gate.proofs.Gained.{gained_more, take_rest}
use Rattle.io_gate.proofs.streams.put_all.Goals as goal

pub loop-at-preserved : goal.loop-at-preserved
loop-at-preserved g c = record {
  unchanged = λ e. absurd (omega (arith, c.in_ok-count.ensures.some));
  within = grind (arith, common_steps, c.in_ok-count.ensures);
  gained = gained_more _ _ _ c.args.piece.now _ c.loop-at.at c.in_ok-count.count (take_rest c.args.piece.now c.loop-at.at) c.loop-at.invariant.gained c.in_ok-count.ensures.bytes;
  kept = c.in_ok-count.ensures.cause.kept ∙ c.loop-at.invariant.kept;
}
