use Rattle.std.proofs.Common.{◌≤◌, ◌*◌, length, refl, subst, arith}
use Rattle.element_loops.specs.Layouts.{layout_of}
use Rattle.element_loops.specs.Planned.{stored_by}
use Rattle.active_lanes.proofs.Kept.{most_lanes}
use Rattle.element_loops.proofs.Stores.{stores_begin, log_count}
use Rattle.element_loops.proofs.run_store.store_run.Goals as goal

pub loop-k-init : goal.loop-k-init
loop-k-init c = record {
  few = omega arith;
  stored = stores_begin (stored_by c.args.plan.now.target (layout_of c.args.plan.now c.args.vec.now) c.args.vec.now) (layout_of c.args.plan.now c.args.vec.now) c.args.mem.now.memory c.args.log.now.items c.requires.empty;
  marks = refl;
}

pub put_next-requires-clause-count : goal.put_next-requires-clause-count
put_next-requires-clause-count c =
    let n : length c.loop-k.log.items ≤ c.loop-k.k * c.args.plan.now.registers
    = log_count (stored_by c.args.plan.now.target (layout_of c.args.plan.now c.args.vec.now) c.args.vec.now) (layout_of c.args.plan.now c.args.vec.now) c.args.mem.now.memory c.loop-k.k c.loop-k.mem.memory c.loop-k.log.items c.loop-k.invariant.stored in
    let m : length c.loop-k.log.items ≤ c.loop-k.k * 1 = subst (λ r. length c.loop-k.log.items ≤ c.loop-k.k * r) c.requires.run.one n in
    omega (arith, m)

pub overflow_add-k : goal.overflow_add-k
overflow_add-k c =
    let most : c.args.plan.now.lanes ≤ 256 = most_lanes c.args.plan.now.bits c.args.vec.now.bits c.args.plan.now.lanes c.requires.plan.size c.length-length.ensures.length c.requires.plan.lanes in
    record { fits = omega (arith, c.in-Ok.ensures.few, most) }
