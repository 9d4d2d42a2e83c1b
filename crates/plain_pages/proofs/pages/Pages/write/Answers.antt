use Rattle.std.proofs.Common.{◌≡◌, ◌+◌, ◌*◌, List, sym, ap, ◌∙◌, subst}
use Rattle.std.specs.Vec.{with_items}
use Rattle.emu_model.specs.Access.{Memory, page_size}
use Rattle.emu_model.specs.Pages.{with_bytes}
use Rattle.emu_model.specs.WithinPage.{page_with_bytes}
use Rattle.plain_pages.specs.declared.slots.Slot.{Slot}
use Rattle.plain_pages.specs.Slots.{pages_of, AreInOrder, entries_of, changed}
use Rattle.guest_pages.proofs.Maps.{length_changed}
use Rattle.page_list.proofs.Bytes.{are_bytes}
use Rattle.plain_pages.proofs.Written.{written_back, order_written, written_is}
use Rattle.plain_pages.proofs.pages.Pages.write.Goals as goal

-- the entries after the call
after : (c : goal.After-self-1) → entries_of (with_items c.self.inside.slots c.write_slot.new.slots).items ≡ changed (page_with_bytes c.args.at c.args.bytes.now) c.args.page (entries_of c.self.inside.slots.items)
after c =
    written_back c.self.inside c.write_slot.new.slots _
    (c.write_slot.ensures ∙ ap (λ (l : List Slot). changed (page_with_bytes c.args.at c.args.bytes.now) c.args.page (entries_of l)) c.deref_mut.ensures.value)
    (length_changed (page_with_bytes c.args.at c.args.bytes.now) c.args.page (entries_of c.self.inside.slots.items))

pub invariant_of-self : goal.invariant_of-self
invariant_of-self c = subst (λ es. AreInOrder c.self.inside.limit es) (sym (after c)) (order_written c.self.inside c.args.page c.args.at c.args.bytes.now c.requires.number c.requires.within (are_bytes c.args.bytes.now (λ k. (c.type_inv.bytes k).fits)) c.self.invariant)

pub returns : goal.returns
returns c =
    ap (λ es. record { pages = pages_of es; limit = c.self.inside.limit }) (after c)
    ∙ written_is c.self.inside c.args.page c.args.at c.args.bytes.now c.requires.number c.requires.within (are_bytes c.args.bytes.now (λ k. (c.type_inv.bytes k).fits)) c.self.invariant
    ∙ ap (λ (m : Memory). with_bytes m (c.args.page * page_size + c.args.at) c.args.bytes.now) c.self.view_is
