use Rattle.std.proofs.Common.{◌≡◌, ◌≤◌, ◌*◌, ◌++◌, ◌∷◌, [], None, Some, false, length, ap, sym, ◌∙◌, arith}
use Rattle.emu_model.specs.declared.access.Kind.TheVariants.{Read}
use Rattle.emu_model.specs.Access.{refused, value}
use Rattle.sve_effects.specs.Lane.{extended_by}
use Rattle.sve_effects.specs.VectorElements.{Layout}
use Rattle.element_loops.specs.Layouts.{layout_of}
use Rattle.element_loops.proofs.Loads.{lane_skipped, loaded_value, no_value}
use Rattle.sve_gather.proofs.Lanes.{few_loaded, lane_loaded, lane_stopped}
use Rattle.sve_gather.proofs.gather.load_lane.Goals as goal

pub load_number-requires-clause-room : goal.load_number-requires-clause-room
load_number-requires-clause-room g c =
    let few : length c.args.log.now.items ≤ c.args.k = few_loaded (layout_of c.args.plan.now c.args.vec.now) c.args.mem.now.memory c.args.k c.requires.one c.args.log.now.items c.requires.loaded in
    let all : c.args.plan.now.lanes * c.args.plan.now.registers ≡ c.args.plan.now.lanes = ap (λ r. c.args.plan.now.lanes * r) c.requires.one ∙ omega arith in
    omega (arith, few, all, c.position-room.ensures.room, c.requires.within)

pub returns-then-not-is_on-clause-loaded : goal.returns-then-not-is_on-clause-loaded
returns-then-not-is_on-clause-loaded g c =
    lane_skipped (layout_of c.args.plan.now c.args.vec.now) c.args.mem.now.memory c.args.k c.args.log.now.items (sym c.is_on.ensures ∙ c.if-not-is_on.true) c.requires.loaded

pub returns-then-not-is_on-clause-value : goal.returns-then-not-is_on-clause-value
returns-then-not-is_on-clause-value g c =
    sym (no_value c.args.plan.now.is_signed (layout_of c.args.plan.now c.args.vec.now) c.args.mem.now.memory c.args.k 0 (sym c.is_on.ensures ∙ c.if-not-is_on.true))

pub returns-in-Ok-clause-loaded : goal.returns-in-Ok-clause-loaded
returns-in-Ok-clause-loaded g c =
    let l : Layout = layout_of c.args.plan.now c.args.vec.now in
    let allowed : refused c.args.mem.now.memory (l.address c.args.k 0) c.args.plan.now.bytes Read ≡ None = cc (c.in-Ok.ensures.result.0, c.address-at.ensures, c.requires.bytes) in
    let more : c.load_number.new.log.items ≡ c.args.log.now.items ++ record { address = l.address c.args.k 0; bytes = c.args.plan.now.bytes; write = false } ∷ []
    = cc (c.in-Ok.ensures.log, c.address-at.ensures, c.requires.bytes) in
    lane_loaded l c.args.mem.now.memory c.args.k c.requires.one c.args.log.now.items c.load_number.new.log.items (sym c.is_on.ensures ∙ c.if-not-is_on.false) c.requires.loaded allowed more

pub returns-in-Ok-clause-value : goal.returns-in-Ok-clause-value
returns-in-Ok-clause-value g c =
    let l : Layout = layout_of c.args.plan.now c.args.vec.now in
    let is : c.in-Ok.v ≡ value c.args.mem.now.memory (l.address c.args.k 0) c.args.plan.now.bytes = cc (c.in-Ok.ensures.result.1, c.address-at.ensures, c.requires.bytes) in
    let extended : c.extended.result ≡ extended_by c.args.plan.now.is_signed c.args.plan.now.bits (8 * c.args.plan.now.bytes) c.in-Ok.v
    = c.extended.ensures ∙ ap (λ e. extended_by c.args.plan.now.is_signed e (8 * g.row.N) c.in-Ok.v) c.requires.bits ∙ ap (λ n. extended_by c.args.plan.now.is_signed c.args.plan.now.bits (8 * n) c.in-Ok.v) c.requires.bytes in
    loaded_value c.args.plan.now.is_signed l c.args.mem.now.memory c.args.k 0 c.extended.result c.in-Ok.v (sym c.is_on.ensures ∙ c.if-not-is_on.false) is extended

pub returns-in-Err-clause-loaded : goal.returns-in-Err-clause-loaded
returns-in-Err-clause-loaded g c =
    let l : Layout = layout_of c.args.plan.now c.args.vec.now in
    let denied : refused c.args.mem.now.memory (l.address c.args.k 0) c.args.plan.now.bytes Read ≡ Some c.in-Err.trap.address = cc (c.in-Err.ensures.result.1, c.address-at.ensures, c.requires.bytes) in
    lane_stopped l c.args.mem.now.memory c.args.k c.requires.one c.args.log.now.items c.load_number.new.log.items c.in-Err.trap (sym c.is_on.ensures ∙ c.if-not-is_on.false) c.requires.within
    c.requires.loaded c.in-Err.ensures.result.0 denied c.in-Err.ensures.log
