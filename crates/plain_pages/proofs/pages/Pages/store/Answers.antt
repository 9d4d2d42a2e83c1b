use Rattle.std.proofs.Common.{◌≡◌, ◌+◌, ◌*◌, List, cond, sym, ap, ◌∙◌, subst}
use Rattle.std.specs.FinMap.{get, find}
use Rattle.std.specs.Ordering.{nat_cmp}
use Rattle.std.specs.Vec.{with_items}
use Rattle.emu_model.specs.declared.access.Kind.TheVariants.{Write}
use Rattle.emu_model.specs.Access.{Memory, page_size}
use Rattle.emu_model.specs.ByPage.{page_gives}
use Rattle.emu_model.specs.Pages.{with_bytes}
use Rattle.emu_model.specs.WithinPage.{page_with_bytes}
use Rattle.plain_pages.specs.declared.slots.Slot.{Slot}
use Rattle.plain_pages.specs.Slots.{pages_of, AreInOrder, entries_of, changed}
use Rattle.guest_pages.proofs.Maps.{get_is}
use Rattle.page_list.proofs.Bytes.{are_bytes}
use Rattle.plain_pages.proofs.Written.{stored_back, order_stored, stored_is}
use Rattle.plain_pages.proofs.pages.Pages.store.Goals as goal

-- the entries after the call
after : (c : goal.After-self-1) → entries_of (with_items c.self.inside.slots c.store_slot.new.slots).items ≡ cond c.store_slot.result (changed (page_with_bytes c.args.at c.args.bytes.now) c.args.page (entries_of c.self.inside.slots.items)) (entries_of c.self.inside.slots.items)
after c =
    stored_back c.self.inside c.args.page c.args.at c.args.bytes.now c.requires.number c.requires.within (are_bytes c.args.bytes.now (λ k. (c.type_inv.bytes k).fits)) c.self.invariant c.store_slot.result c.store_slot.new.slots
    (c.store_slot.ensures.entries ∙ ap (λ (l : List Slot). cond c.store_slot.result (changed (page_with_bytes c.args.at c.args.bytes.now) c.args.page (entries_of l)) (entries_of l)) c.deref_mut.ensures.value)

pub invariant_of-self : goal.invariant_of-self
invariant_of-self c = subst (λ es. AreInOrder c.self.inside.limit es) (sym (after c)) (order_stored c.self.inside c.args.page c.args.at c.args.bytes.now c.requires.number c.requires.within (are_bytes c.args.bytes.now (λ k. (c.type_inv.bytes k).fits)) c.self.invariant c.store_slot.result)

pub returns-clause-allowed : goal.returns-clause-allowed
returns-clause-allowed c =
    c.store_slot.ensures.allowed
    ∙ ap (λ (l : List Slot). page_gives (find nat_cmp c.args.page (entries_of l)) Write) c.deref_mut.ensures.value
    ∙ ap (λ o. page_gives o Write) (sym (get_is (entries_of c.self.inside.slots.items) c.args.page))
    ∙ ap (λ (m : Memory). page_gives (get m.pages c.args.page) Write) c.self.view_is

pub returns-clause-bytes : goal.returns-clause-bytes
returns-clause-bytes c =
    ap (λ es. record { pages = pages_of es; limit = c.self.inside.limit }) (after c)
    ∙ stored_is c.self.inside c.args.page c.args.at c.args.bytes.now c.requires.number c.requires.within (are_bytes c.args.bytes.now (λ k. (c.type_inv.bytes k).fits)) c.self.invariant c.store_slot.result
    ∙ ap (λ (m : Memory). cond c.store_slot.result (with_bytes m (c.args.page * page_size + c.args.at) c.args.bytes.now) m) c.self.view_is
