use Rattle.std.proofs.Common.{◌≡◌, List, Some, length, sym, ap, ◌∙◌, subst}
use Rattle.std.specs.FinMap.{get, find}
use Rattle.std.specs.Ordering.{nat_cmp}
use Rattle.emu_model.specs.Access.{Memory}
use Rattle.plain_pages.specs.declared.slots.Slot.{Slot}
use Rattle.page_list.specs.Bytes.{as_bytes, as_bytes-same}
use Rattle.plain_pages.specs.Slots.{page_in, entries_of, IsAt}
use Rattle.guest_pages.proofs.Maps.{get_is, whole}
use Rattle.plain_pages.proofs.Ordered.{find_is}
use Rattle.plain_pages.proofs.pages.Pages.find.Goals as goal

pub returns-in-None-clause-found : goal.returns-in-None-clause-found
returns-in-None-clause-found c =
    ap (λ (m : Memory). get m.pages c.args.page) (sym c.self.view_is)
    ∙ get_is (entries_of c.self.inside.slots.items) c.args.page
    ∙ ap (λ (l : List Slot). find nat_cmp c.args.page (entries_of l)) (sym c.deref.ensures.value)
    ∙ c.in-None.ensures

-- the page of the slot
there : (c : goal.After-told_bytes) → get c.args.self.now.pages c.args.page ≡ Some (page_in c.index-slot.result.now)
there c =
    ap (λ (m : Memory). get m.pages c.args.page) (sym c.self.view_is)
    ∙ get_is (entries_of c.self.inside.slots.items) c.args.page
    ∙ find_is c.self.inside.slots.items c.self.invariant.ascending c.args.page c.in-Some.at c.index-slot.result.now (subst (λ (l : List Slot). IsAt l c.args.page c.in-Some.at) c.deref.ensures.value c.in-Some.ensures)
    ∙ ap (λ (s : Slot). Some (page_in s)) (sym c.index-slot.ensures)

-- its bytes are those that are lent
bytes : (c : goal.After-told_bytes) → as_bytes c.index-slot.result.now.bytes.items ≡ c.told_bytes.result.now
bytes c = ap as_bytes (sym c.deref-in-Some.ensures.value) ∙ as_bytes-same c.deref-in-Some.result.now c.told_bytes.ensures.bytes ∙ sym c.told_bytes.ensures.same

pub returns-in-Some-clause-found : goal.returns-in-Some-clause-found
returns-in-Some-clause-found c = there c ∙ ap (λ bytes. Some (record { rights = c.index-slot.result.now.rights; bytes = bytes })) (bytes c)

pub returns-in-Some-clause-whole : goal.returns-in-Some-clause-whole
returns-in-Some-clause-whole c =
    ap length (sym (bytes c))
    ∙ whole (entries_of c.self.inside.slots.items) c.args.page (page_in c.index-slot.result.now) c.self.invariant.each (ap (λ (m : Memory). get m.pages c.args.page) c.self.view_is ∙ there c)
