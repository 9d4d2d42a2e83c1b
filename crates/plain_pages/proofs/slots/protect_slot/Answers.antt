use Rattle.std.proofs.Common.{get_or, sym, ap}
use Rattle.std.proofs.lemmas.List.{get_or_default}
use Rattle.plain_pages.specs.declared.slots.Slot.{Slot}
use Rattle.page_list.specs.Bytes.{as_bytes}
use Rattle.plain_pages.specs.Slots.{entries_of, page_with_rights}
use Rattle.guest_pages.proofs.Maps.{none_changed}
use Rattle.plain_pages.proofs.Maps.{set_changed}
use Rattle.plain_pages.proofs.slots.protect_slot.Goals as goal

pub returns-in-Some : goal.returns-in-Some
returns-in-Some c =
    let old = get_or c.args.slots.now c.in-Some.i c.index-slots-i.result in
    let new : Slot = record { number = old.number; rights = c.args.rights; bytes = old.bytes } in
    set_changed c.args.slots.now (page_with_rights c.args.rights) c.args.page c.in-Some.i new c.in-Some.ensures c.requires
    (c.in-Some.ensures.number c.index-slots-i.result)
    (ap (λ (s : Slot). record { rights = c.args.rights; bytes = as_bytes s.bytes.items }) (get_or_default c.args.slots.now c.in-Some.i c.index-slots-i.result new c.in-Some.ensures.within))

pub returns-in_default : goal.returns-in_default
returns-in_default c = sym (none_changed (page_with_rights c.args.rights) (entries_of c.args.slots.now) c.args.page c.in_default.ensures)
