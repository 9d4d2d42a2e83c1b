use Rattle.std.proofs.Common.{◌≡◌, length, get_or, sym, ap, ◌∙◌, arith}
use Rattle.std.specs.Vec.{with_items}
use Rattle.std.proofs.lemmas.List.{with_items_is, get_or_default}
use Rattle.emu_model.specs.Access.{page_size}
use Rattle.emu_model.specs.WithinPage.{overwritten, page_with_bytes, length_overwritten}
use Rattle.plain_pages.specs.declared.slots.Slot.{Slot}
use Rattle.page_list.specs.Bytes.{as_bytes, as_bytes-same}
use Rattle.page_list.proofs.Bytes.{are_bytes}
use Rattle.plain_pages.proofs.Bytes.{as_bytes-overwritten}
use Rattle.plain_pages.proofs.Ordered.{whole_at}
use Rattle.plain_pages.proofs.Maps.{set_changed}
use Rattle.plain_pages.proofs.slots.write_at.Goals as goal

-- the bytes of the slot before
before : (c : goal.After-slots-1) → length (get_or c.args.slots.now c.args.i c.index-slots-i.result).bytes.items ≡ page_size
before c = whole_at c.args.slots.now c.requires.whole c.args.i c.index-slots-i.result c.requires.place.within

after : (c : goal.After-slots-1) → (with_items (get_or c.args.slots.now c.args.i c.index-slots-i.result).bytes c.overwrite.new.bytes).items ≡ overwritten c.args.at c.args.bytes.now (get_or c.args.slots.now c.args.i c.index-slots-i.result).bytes.items
after c =
    let old = (get_or c.args.slots.now c.args.i c.index-slots-i.result).bytes in
    let is : c.overwrite.new.bytes ≡ overwritten c.args.at c.args.bytes.now old.items = c.overwrite.ensures ∙ ap (λ bytes. overwritten c.args.at c.args.bytes.now bytes) c.deref_mut.ensures.value in
    with_items_is old c.overwrite.new.bytes (ap length is ∙ length_overwritten c.args.at c.args.bytes.now old.items (omega (arith, before c, c.requires.within)) ∙ sym old.ok.0) ∙ is

bytes_after : (c : goal.After-slots-1) → as_bytes (with_items (get_or c.args.slots.now c.args.i c.index-slots-i.result).bytes c.overwrite.new.bytes).items ≡ overwritten c.args.at c.args.bytes.now (as_bytes (get_or c.args.slots.now c.args.i c.index-slots-i.result).bytes.items)
bytes_after c =
    let old = (get_or c.args.slots.now c.args.i c.index-slots-i.result).bytes.items in
    ap as_bytes (after c)
    ∙ as_bytes-overwritten c.args.at c.args.bytes.now old
    ∙ ap (λ piece. overwritten c.args.at piece (as_bytes old)) (as_bytes-same c.args.bytes.now (are_bytes c.args.bytes.now (λ k. (c.type_inv.bytes k).fits)))

pub returns : goal.returns
returns c =
    let old = get_or c.args.slots.now c.args.i c.index-slots-i.result in
    let new : Slot = record { number = old.number; rights = old.rights; bytes = with_items old.bytes c.overwrite.new.bytes } in
    set_changed c.args.slots.now (page_with_bytes c.args.at c.args.bytes.now) c.args.page c.args.i new c.requires.place c.requires.ascending
    (c.requires.place.number c.index-slots-i.result)
    (ap (λ bytes. record { rights = old.rights; bytes = bytes }) (bytes_after c)
    ∙ ap (λ (s : Slot). record { rights = s.rights; bytes = overwritten c.args.at c.args.bytes.now (as_bytes s.bytes.items) }) (get_or_default c.args.slots.now c.args.i c.index-slots-i.result new c.requires.place.within))

pub overwrite-requires : goal.overwrite-requires
overwrite-requires c = omega (arith, c.requires.within, ap length c.deref_mut.ensures.value, whole_at c.args.slots.now c.requires.whole c.args.i c.index-slots-i.result c.requires.place.within)
