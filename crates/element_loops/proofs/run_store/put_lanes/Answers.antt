use Rattle.std.proofs.Common.{◌≡◌, ◌/◌, ◌+◌, ◌%◌, ◌^◌, ap, refl, subst}
use Rattle.emu_model.specs.Access.{address}
use Rattle.element_loops.specs.declared.plan.Target.{Target}
use Rattle.element_loops.specs.Layouts.{IsTarget, layout_of}
use Rattle.element_loops.specs.Planned.{stored_by}
use Rattle.element_loops.proofs.RunStores.{lanes_put}
use Rattle.element_loops.proofs.run_store.put_lanes.Goals as goal

pub returns-then-put_bytes-clause-stored : goal.returns-then-put_bytes-clause-stored
returns-then-put_bytes-clause-stored c = λ m given.
    let lanes : c.args.plan.now.lanes ≡ c.args.vec.now.bits / c.args.plan.now.bits = subst (λ (t : Target). IsTarget t c.args.plan.now c.args.vec.now) c.requires.run.target c.requires.plan.target in
    lanes_put c.args.run.now.base c.args.run.now.pg c.args.run.now.whole c.args.plan.now c.args.vec.now c.requires.run c.requires.plan.size c.length-length.ensures.length lanes (stored_by c.args.plan.now.target (layout_of c.args.plan.now c.args.vec.now) c.args.vec.now)
    (ap (λ t. stored_by t (layout_of c.args.plan.now c.args.vec.now) c.args.vec.now) c.requires.run.target)
    m c.args.mem.now.memory c.put_bytes.new.mem.memory c.args.log.now.items c.push_run.new.self.items c.args.k c.args.d ((c.args.run.now.base + c.from.result) % 2 ^ 64) _ _ c.args.bytes.now _
    given c.requires.whole c.requires.bytes (λ k. (c.type_inv.bytes k).fits) c.requires.long c.requires.within refl refl refl (ap (λ x. address (c.args.run.now.base + x)) c.from.ensures)
    c.requires.on (c.if-put_bytes.ensures.allowed refl) (c.if-put_bytes.ensures.written refl) c.push_run.ensures.items
