use Rattle.std.proofs.Common.{◌≡◌, ◌+◌, ◌*◌, ◌++◌, ◌∷◌, [], ℕ, None, Some, true, length, length-append, ap, sym, ◌∙◌, arith}
use Rattle.emu_model.specs.declared.access.Kind.TheVariants.{Write}
use Rattle.emu_model.specs.Access.{refused, stored}
use Rattle.emu_model.specs.Elements.{Element}
use Rattle.emu_model.specs.Lanes.{lane, read_z}
use Rattle.sve_effects.specs.VectorElements.{Layout}
use Rattle.element_loops.specs.Layouts.{layout_of}
use Rattle.element_loops.specs.Planned.{stored_by}
use Rattle.element_loops.specs.SoFar.{element_of_lane}
use Rattle.element_loops.proofs.Stores.{lane_skipped}
use Rattle.sve_gather.proofs.Lanes.{lane_stored, store_stopped, value_stored}
use Rattle.sve_gather.proofs.scatter.store_lane.Goals as goal

pub returns-then-not-is_on-clause-stored : goal.returns-then-not-is_on-clause-stored
returns-then-not-is_on-clause-stored g c = λ m given.
    lane_skipped (stored_by c.args.plan.now.target (layout_of c.args.plan.now c.args.vec.now) c.args.vec.now) (layout_of c.args.plan.now c.args.vec.now) m c.args.k c.args.mem.now.memory c.args.log.now.items
    (sym c.is_on.ensures ∙ c.if-not-is_on.true) given

pub store_here-requires-clause-room : goal.store_here-requires-clause-room
store_here-requires-clause-room g c =
    let all : c.args.plan.now.lanes * c.args.plan.now.registers ≡ c.args.plan.now.lanes = ap (λ r. c.args.plan.now.lanes * r) c.requires.gather.one ∙ omega arith in
    omega (arith, all, c.position-room.ensures.room, c.requires.within, c.requires.count)

pub returns-in-Ok-clause-count : goal.returns-in-Ok-clause-count
returns-in-Ok-clause-count g c =
    let longer : length c.store_here.new.log.items ≡ length c.args.log.now.items + 1 = ap length c.in-Ok.ensures.log ∙ length-append _ _ in
    omega (arith, longer, c.requires.count)

pub returns-in-Ok-clause-stored : goal.returns-in-Ok-clause-stored
returns-in-Ok-clause-stored g c = λ m given.
    let l : Layout = layout_of c.args.plan.now c.args.vec.now in
    let f : Element → ℕ = stored_by c.args.plan.now.target l c.args.vec.now in
    let allowed : refused c.args.mem.now.memory (l.address c.args.k 0) c.args.plan.now.bytes Write ≡ None = cc (c.in-Ok.ensures.result, c.address-at.ensures, c.requires.bytes) in
    let more : c.store_here.new.log.items ≡ c.args.log.now.items ++ record { address = l.address c.args.k 0; bytes = c.args.plan.now.bytes; write = true } ∷ []
    = cc (c.in-Ok.ensures.log, c.address-at.ensures, c.requires.bytes) in
    let value : c.lane-v.result ≡ f (element_of_lane l c.args.k 0)
    = value_stored c.args.plan.now c.args.vec.now c.args.k c.register_at.result c.lane-v.result c.requires.gather.target c.register_at.ensures
    (c.lane-v.ensures.value ∙ ap (λ e. lane e (read_z c.args.vec.now c.register_at.result) c.args.k) c.requires.bits) in
    let is : c.store_here.new.mem.memory ≡ stored c.args.mem.now.memory (l.address c.args.k 0) c.args.plan.now.bytes (f (element_of_lane l c.args.k 0)) = cc (c.in-Ok.ensures.memory, c.address-at.ensures, c.from.ensures, value, c.requires.bytes) in
    lane_stored l m c.args.k c.requires.gather.one f c.args.mem.now.memory c.store_here.new.mem.memory c.args.log.now.items c.store_here.new.log.items (sym c.is_on.ensures ∙ c.if-not-is_on.false) given allowed is more

pub returns-in-Err-clause-stored : goal.returns-in-Err-clause-stored
returns-in-Err-clause-stored g c = λ m given.
    let l : Layout = layout_of c.args.plan.now c.args.vec.now in
    let denied : refused c.args.mem.now.memory (l.address c.args.k 0) c.args.plan.now.bytes Write ≡ Some c.in-Err.trap.address = cc (c.in-Err.ensures.result.1, c.address-at.ensures, c.requires.bytes) in
    store_stopped l m c.args.k c.requires.gather.one (stored_by c.args.plan.now.target l c.args.vec.now) c.args.mem.now.memory c.store_here.new.mem.memory c.args.log.now.items c.store_here.new.log.items c.in-Err.trap
    (sym c.is_on.ensures ∙ c.if-not-is_on.false) c.requires.within given c.in-Err.ensures.result.0 denied c.in-Err.ensures.memory c.in-Err.ensures.log
