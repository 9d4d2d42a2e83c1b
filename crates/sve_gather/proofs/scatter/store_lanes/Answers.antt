use Rattle.std.proofs.Common.{◌≡◌, length, refl, ap, subst, arith}
use Rattle.sve_effects.specs.VectorElements.{Layout, elements_below}
use Rattle.guest_mem.specs.ReachLaws.{AreStored}
use Rattle.element_loops.specs.Layouts.{layout_of}
use Rattle.element_loops.specs.Planned.{stored_by}
use Rattle.element_loops.proofs.Stores.{stores_begin}
use Rattle.sve_gather.proofs.scatter.store_lanes.Goals as goal

pub loop-k-init : goal.loop-k-init
loop-k-init g c =
    let l : Layout = layout_of c.args.plan.now c.args.vec.now in
    let empty : length c.args.log.now.items ≡ 0 = ap length c.requires.empty in
    record { count = omega (arith, empty); stored = stores_begin (stored_by c.args.plan.now.target l c.args.vec.now) l c.args.mem.now.memory c.args.log.now.items c.requires.empty; marks = refl }

pub returns-clause-stored : goal.returns-clause-stored
returns-clause-stored g c =
    let l : Layout = layout_of c.args.plan.now c.args.vec.now in
    let end : c.loop-k.k ≡ c.args.plan.now.lanes = omega (arith, c.loop-k-test.false, c.loop-k.auto.k-end) in
    subst (λ k. AreStored (stored_by c.args.plan.now.target l c.args.vec.now) c.args.mem.now.memory (elements_below l k) c.loop-k.mem.memory c.loop-k.log.items) end c.loop-k.invariant.stored
