use Rattle.std.proofs.Common.{◌≡◌, ◌*◌, length}
use Rattle.element_loops.specs.Layouts.{layout_of}
use Rattle.element_loops.specs.Planned.{stored_by}
use Rattle.element_loops.specs.Runs.{AreFilled, stored_in_turn}
use Rattle.element_loops.proofs.line_store.fill_each.Given as goal

abbrev pub invariant-loop-k : goal.invariant-loop-k
invariant-loop-k l = record {
  count : length l.bytes ≡ length l.fn.bytes;
  filled : AreFilled l.plan.bytes (stored_in_turn (stored_by l.plan.target (layout_of l.plan l.vec) l.vec) l.plan l.vec) (l.k * l.plan.registers) l.bytes;
}
