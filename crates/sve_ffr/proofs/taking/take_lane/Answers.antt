use Rattle.std.proofs.Common.{◌*◌, ◌≡◌, ◌<◌, ◌+◌, ◌++◌, ◌∷◌, [], ℕ, List, Some, None, false, get_or, length, refl, sym, ap, ◌∙◌, arith}
use Rattle.emu_model.specs.declared.access.Kind.TheVariants.{Read}
use Rattle.emu_model.specs.Access.{refused, value}
use Rattle.sve_ffr.proofs.Takes.{element_of, take_none, take_loaded, take_refused}
use Rattle.sve_ffr.proofs.taking.take_lane.Goals as goal
use Rattle.sve_effects.specs.Lane.{extended_by}

pub returns-then-not-is_next-clause-lane : goal.returns-then-not-is_next-clause-lane
returns-then-not-is_next-clause-lane c = λ r n h.
    take_none r c.args.e n c.args.list.now c.args.mem.now.memory c.args.k c.args.taken.now _ c.args.log.now.items h
    (sym (c.is_next.ensures.value r) ∙ c.if-not-is_next.true) refl refl c.push.ensures.items

pub offset_bounds-deref-taken : goal.offset_bounds-deref-taken
offset_bounds-deref-taken c =
    let within : c.args.taken.now.next < length c.args.list.now.lanes.items = c.is_next.ensures.within c.if-not-is_next.false in
    let same : length c.deref.result.now ≡ length c.args.list.now.lanes.items = ap (λ (ps : List (ℕ × ℕ)). length ps) c.deref.ensures.0 in
    omega (arith, c.deref.type_inv.1)

pub bounds-deref-taken : goal.bounds-deref-taken
bounds-deref-taken c =
    let within : c.args.taken.now.next < length c.args.list.now.lanes.items = c.is_next.ensures.within c.if-not-is_next.false in
    let same : length c.deref.result.now ≡ length c.args.list.now.lanes.items = ap (λ (ps : List (ℕ × ℕ)). length ps) c.deref.ensures.0 in
    omega arith

pub overflow_add-taken : goal.overflow_add-taken
overflow_add-taken c =
    let within : c.args.taken.now.next < length c.args.list.now.lanes.items = c.is_next.ensures.within c.if-not-is_next.false in
    let same : length c.deref.result.now ≡ length c.args.list.now.lanes.items = ap (λ (ps : List (ℕ × ℕ)). length ps) c.deref.ensures.0 in
    omega (arith, c.deref.type_inv.1)

pub returns-in-Ok-clause-lane : goal.returns-in-Ok-clause-lane
returns-in-Ok-clause-lane c = λ r n h.
    let at : (get_or c.deref.result.now c.args.taken.now.next (0, 0)).1 ≡ (element_of r c.args.list.now c.args.taken.now.next).address
    = ap (λ (ps : List (ℕ × ℕ)). (get_or ps c.args.taken.now.next (0, 0)).1) c.deref.ensures.0 in
    let allowed : refused c.args.mem.now.memory (element_of r c.args.list.now c.args.taken.now.next).address c.args.list.now.bytes Read ≡ None
    = ap (λ a. refused c.args.mem.now.memory a c.args.list.now.bytes Read) (sym at) ∙ c.in-Ok.ensures.result.0 in
    let is : c.extended.result ≡ extended_by c.args.list.now.signed c.args.e (8 * c.args.list.now.bytes) (value c.args.mem.now.memory (element_of r c.args.list.now c.args.taken.now.next).address c.args.list.now.bytes)
    = c.extended.ensures ∙ ap (extended_by c.args.list.now.signed c.args.e (8 * c.args.list.now.bytes)) (c.in-Ok.ensures.result.1 ∙ ap (λ a. value c.args.mem.now.memory a c.args.list.now.bytes) at) in
    take_loaded r c.args.e n c.args.list.now c.args.mem.now.memory c.args.k c.args.taken.now
    (record { values = c.push-in-Ok.new.self; next = c.args.taken.now.next + 1; suppressed = c.args.taken.now.suppressed }) c.args.log.now.items h
    (sym (c.is_next.ensures.value r) ∙ c.if-not-is_next.false) (c.is_next.ensures.within c.if-not-is_next.false) c.load_u64.new.log.items c.extended.result allowed is refl refl c.push-in-Ok.ensures.items
    (c.in-Ok.ensures.log ∙ ap (λ (a : ℕ). c.args.log.now.items ++ record { address = a; bytes = c.args.list.now.bytes; write = false } ∷ []) at)

pub returns-in-Err-clause-lane : goal.returns-in-Err-clause-lane
returns-in-Err-clause-lane c = λ r n h.
    let at : (get_or c.deref.result.now c.args.taken.now.next (0, 0)).1 ≡ (element_of r c.args.list.now c.args.taken.now.next).address
    = ap (λ (ps : List (ℕ × ℕ)). (get_or ps c.args.taken.now.next (0, 0)).1) c.deref.ensures.0 in
    let denied : refused c.args.mem.now.memory (element_of r c.args.list.now c.args.taken.now.next).address c.args.list.now.bytes Read ≡ Some c.in-Err.field-0.address
    = ap (λ a. refused c.args.mem.now.memory a c.args.list.now.bytes Read) (sym at) ∙ c.in-Err.ensures.result.1 in
    take_refused r c.args.e n c.args.list.now c.args.mem.now.memory c.args.k c.args.taken.now
    (record { values = c.push-in-Err.new.self; next = c.args.taken.now.next + 1; suppressed = c.first_of-taken.result }) c.args.log.now.items h
    (sym (c.is_next.ensures.value r) ∙ c.if-not-is_next.false) (c.is_next.ensures.within c.if-not-is_next.false) c.load_u64.new.log.items c.in-Err.field-0.address denied refl c.first_of-taken.ensures
    c.push-in-Err.ensures.items c.in-Err.ensures.log
