use Rattle.std.proofs.Common.{◌≡◌, ◌++◌, ◌+◌, ◌≤◌, ℕ, List, true, false, Some, None, Result, Err, OnOk, IfSome, Option, length, take, drop, sym, ap, ◌∙◌, subst, arith}
use Rattle.std.specs.List.{AllByRecursion}
use Rattle.std.specs.FinMap.{FinMap}
use Rattle.std.specs.Vec.{vec_len}
use Rattle.std.proofs.lemmas.List.{length-map}
use Rattle.std.specs.Ordering.{nat_cmp}
use Rattle.emu_model.specs.Access.{Memory, Page}
use Rattle.emu_model.specs.Pages.{mapped}
use Rattle.guest_pages.specs.declared.pages.MapFault.{MapFault}
use Rattle.guest_pages.specs.declared.pages.MapFault.TheVariants.{Full}
use Rattle.plain_pages.specs.declared.pages.MapError.{MapError}
use Rattle.plain_pages.specs.declared.pages.MapError.TheVariants.{Refused, OutOfMemory}
use Rattle.plain_pages.specs.declared.pages.Pages.TheInside.{Inside}
use Rattle.plain_pages.specs.declared.slots.Slot.{Slot}
use Rattle.guest_pages.specs.MapFault.{map_fault}
use Rattle.plain_pages.specs.Slots.{pages_of, AreInOrder, entry_of, IsBelow, IsFrom, entries_of, zeroed_entries}
use Rattle.guest_pages.proofs.Faults.{over, fits}
use Rattle.plain_pages.proofs.Faults.{fault_is}
use Rattle.guest_pages.proofs.Parts.{put_is, order_put}
use Rattle.plain_pages.proofs.Parts.{put_entries}
use Rattle.plain_pages.proofs.pages.Pages.map.Goals as goal
use Rattle.plain_pages.proofs.pages.Pages.map.Goals.{in-Ok-insert_slots, in-Err}

-- as many slots as the length says, and at most the limit
module _ (a : Inside) (n : ℕ) (is : n ≡ vec_len a.slots) (h : AreInOrder a.limit (entries_of a.slots.items)) where
  counted : n ≡ length a.slots.items
  counted = is ∙ a.slots.ok.0

  enough : length a.slots.items ≤ a.limit
  enough = omega (arith, h.within, length-map a.slots.items entry_of)

pub returns-then-self-len-clause-wanting : goal.returns-then-self-len-clause-wanting
returns-then-self-len-clause-wanting c none =
    let full : map_fault c.args.self.now c.args.first c.args.count ≡ Some Full =
    fault_is c.self.inside c.args.self.now c.args.first c.args.count c.deref-2.result.now c.taken.result true c.self.view_is c.self.invariant.ascending c.deref-2.ensures.value c.taken.ensures.least c.in_default.is
    (over c.self.inside.limit (length c.self.inside.slots.items) c.args.count (omega (arith, c.if-self-len.true, counted c.self.inside c.len.result c.len.ensures c.self.invariant)) (enough c.self.inside c.len.result c.len.ensures c.self.invariant)) in
    let no : Some Full ≡ None = sym full ∙ none in
    cc

not_refused : (o : Option MapFault) (r : Result (Unit {0}) MapError) → o ≡ None → IfSome o (λ fault. r ≡ Err (Refused fault))
not_refused None r h = tt
not_refused (Some fault) r h = cc

-- none of the range is mapped, and there is room
free : (c : goal.In_default-zeroed_slots) → map_fault c.args.self.now c.args.first c.args.count ≡ None
free c =
    fault_is c.self.inside c.args.self.now c.args.first c.args.count c.deref-2.result.now c.taken.result false c.self.view_is c.self.invariant.ascending c.deref-2.ensures.value c.taken.ensures.least c.in_default.is
    (fits c.self.inside.limit (length c.self.inside.slots.items) c.args.count (omega (arith, c.if-self-len.false, counted c.self.inside c.len.result c.len.ensures c.self.invariant)) (enough c.self.inside c.len.result c.len.ensures c.self.invariant))

pub returns-in_default-zeroed_slots-clause-refused : goal.returns-in_default-zeroed_slots-clause-refused
returns-in_default-zeroed_slots-clause-refused c = not_refused _ (Err OutOfMemory) (free c)

module _ (c : goal.Joined-insert_slots) where
  room : length c.self.inside.slots.items + c.args.count ≤ c.self.inside.limit
  room = omega (arith, c.if-self-len.false, counted c.self.inside c.len.result c.len.ensures c.self.invariant, enough c.self.inside c.len.result c.len.ensures c.self.invariant)

  nothing : map_fault c.args.self.now c.args.first c.args.count ≡ None
  nothing =
      fault_is c.self.inside c.args.self.now c.args.first c.args.count c.deref-2.result.now c.taken.result false c.self.view_is c.self.invariant.ascending c.deref-2.ensures.value c.taken.ensures.least c.in_default.is
      (fits c.self.inside.limit (length c.self.inside.slots.items) c.args.count (omega (arith, room)) (omega (arith, room)))

  below : AllByRecursion (IsBelow c.args.first) (take c.place-at.result (entries_of c.self.inside.slots.items))
  below = subst (λ (l : List Slot). AllByRecursion (IsBelow c.args.first) (take c.place-at.result (entries_of l))) c.deref.ensures.value c.place-at.ensures.below

  past : AllByRecursion (IsFrom (c.args.first + c.args.count)) (drop c.place-at.result (entries_of c.self.inside.slots.items))
  past = subst (λ (l : List Slot). AllByRecursion (IsFrom (c.args.first + c.args.count)) (drop c.place-at.result (entries_of l))) c.deref-2.ensures.value c.in_default.ensures.past

  after : c.insert_slots.new.slots.items ≡ take c.place-at.result c.self.inside.slots.items ++ (c.in-Ok.fresh.items ++ drop c.place-at.result c.self.inside.slots.items)
      → entries_of c.insert_slots.new.slots.items ≡ take c.place-at.result (entries_of c.self.inside.slots.items) ++ (zeroed_entries c.args.first c.args.count c.args.rights ++ drop c.place-at.result (entries_of c.self.inside.slots.items))
  after is =
      ap entries_of is
      ∙ put_entries c.self.inside.slots.items c.in-Ok.fresh.items c.place-at.result
      ∙ ap (λ es. take c.place-at.result (entries_of c.self.inside.slots.items) ++ (es ++ drop c.place-at.result (entries_of c.self.inside.slots.items))) c.in-Ok.ensures

  kept : AreInOrder c.self.inside.limit (entries_of c.insert_slots.new.slots.items)
  kept = elim c.match-insert_slots.branch [
    | in-Ok-insert_slots w ↦ subst (λ es. AreInOrder c.self.inside.limit es) (sym (after w.in-Ok-insert_slots.ensures.ok))
        (order_put c.args.first c.args.count c.args.rights (entries_of c.self.inside.slots.items) c.place-at.result below past c.self.inside.limit c.requires.begins c.requires.ends (omega (arith, room, length-map c.self.inside.slots.items entry_of)) c.self.invariant)
    | in-Err w ↦ subst (λ (l : List Slot). AreInOrder c.self.inside.limit (entries_of l)) (sym w.in-Err.ensures.err) c.self.invariant
  ]

  done : OnOk c.match-insert_slots.result (record { pages = pages_of (entries_of c.insert_slots.new.slots.items); limit = c.self.inside.limit } ≡ mapped c.args.self.now c.args.first c.args.count c.args.rights)
  done = elim c.match-insert_slots.branch [
    | in-Ok-insert_slots w ↦ subst (λ (r : Result (Unit {0}) MapError). OnOk r (record { pages = pages_of (entries_of c.insert_slots.new.slots.items); limit = c.self.inside.limit } ≡ mapped c.args.self.now c.args.first c.args.count c.args.rights)) (sym w.result-is) (
        ap (λ es. record { pages = pages_of es; limit = c.self.inside.limit }) (after w.in-Ok-insert_slots.ensures.ok)
        ∙ ap (λ (p : FinMap nat_cmp Page). record { pages = p; limit = c.self.inside.limit }) (put_is c.args.first c.args.count c.args.rights (entries_of c.self.inside.slots.items) c.place-at.result below past)
        ∙ ap (λ (m : Memory). mapped m c.args.first c.args.count c.args.rights) c.self.view_is)
    | in-Err w ↦ subst (λ (r : Result (Unit {0}) MapError). OnOk r (record { pages = pages_of (entries_of c.insert_slots.new.slots.items); limit = c.self.inside.limit } ≡ mapped c.args.self.now c.args.first c.args.count c.args.rights)) (sym w.result-is) tt
  ]

pub invariant_of-self : goal.invariant_of-self
invariant_of-self c = kept c

pub returns-clause-refused : goal.returns-clause-refused
returns-clause-refused c = not_refused _ c.match-insert_slots.result (nothing c)

pub returns-clause-mapped : goal.returns-clause-mapped
returns-clause-mapped c = done c
