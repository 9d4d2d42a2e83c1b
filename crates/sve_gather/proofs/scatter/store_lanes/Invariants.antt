use Rattle.std.proofs.Common.{◌≡◌, ◌≤◌, length}
use Rattle.sve_effects.specs.VectorElements.{elements_below}
use Rattle.guest_mem.specs.ReachLaws.{AreStored}
use Rattle.element_loops.specs.Layouts.{layout_of}
use Rattle.element_loops.specs.Planned.{stored_by}
use Rattle.sve_gather.proofs.scatter.store_lanes.Given as goal

abbrev pub invariant-loop-k : goal.invariant-loop-k
invariant-loop-k g l = record {
  count : length l.log.items ≤ l.k;
  stored : AreStored (stored_by l.plan.target (layout_of l.plan l.vec) l.vec) l.fn.mem.memory (elements_below (layout_of l.plan l.vec) l.k) l.mem.memory l.log.items;
  marks : l.mem.marks ≡ l.fn.mem.marks;
}
