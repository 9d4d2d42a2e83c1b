use Rattle.std.proofs.Common.{sym, ◌∙◌}
use Rattle.element_loops.specs.Layouts.{layout_of}
use Rattle.element_loops.specs.Planned.{stored_by}
use Rattle.element_loops.proofs.Stores.{lanes_skipped}
use Rattle.element_loops.proofs.run_store.put_next.Goals as goal

pub idle_lanes-requires-clause-off : goal.idle_lanes-requires-clause-off
idle_lanes-requires-clause-off c = sym c.is_on.ensures ∙ c.if-not-is_on.true

pub returns-then-not-is_on-clause-stored : goal.returns-then-not-is_on-clause-stored
returns-then-not-is_on-clause-stored c = λ m given.
    lanes_skipped (stored_by c.args.plan.now.target (layout_of c.args.plan.now c.args.vec.now) c.args.vec.now) (layout_of c.args.plan.now c.args.vec.now) m c.args.k c.idle_lanes.result c.args.mem.now.memory c.args.log.now.items
    c.idle_lanes.ensures.off given
