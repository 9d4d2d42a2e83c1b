use Rattle.std.proofs.Common.{◌≡◌, List, sym, ap, ◌∙◌, subst}
use Rattle.std.specs.FinMap.{FinMap}
use Rattle.std.specs.Ordering.{nat_cmp}
use Rattle.std.specs.Vec.{with_items}
use Rattle.emu_model.specs.Access.{Memory, Page}
use Rattle.emu_model.specs.Pages.{protected}
use Rattle.plain_pages.specs.declared.slots.Slot.{Slot}
use Rattle.plain_pages.specs.Slots.{pages_of, AreInOrder, entries_of, all_changed, page_with_rights}
use Rattle.guest_pages.proofs.Removed.{protected_is, order_protected, length_all_changed}
use Rattle.plain_pages.proofs.Written.{written_back}
use Rattle.plain_pages.proofs.pages.Pages.protect.Goals as goal

-- the entries after the call
after : (c : goal.After-self-1) → entries_of (with_items c.self.inside.slots c.protect_slots.new.slots).items ≡ all_changed (page_with_rights c.args.rights) c.args.first c.args.count (entries_of c.self.inside.slots.items)
after c =
    written_back c.self.inside c.protect_slots.new.slots _
    (c.protect_slots.ensures ∙ ap (λ (l : List Slot). all_changed (page_with_rights c.args.rights) c.args.first c.args.count (entries_of l)) c.deref_mut.ensures.value)
    (length_all_changed (page_with_rights c.args.rights) c.args.count c.args.first (entries_of c.self.inside.slots.items))

pub invariant_of-self : goal.invariant_of-self
invariant_of-self c = subst (λ es. AreInOrder c.self.inside.limit es) (sym (after c)) (order_protected c.args.count c.args.first c.self.inside.limit c.args.rights (entries_of c.self.inside.slots.items) c.self.invariant)

pub returns-clause-protected : goal.returns-clause-protected
returns-clause-protected c =
    ap (λ es. record { pages = pages_of es; limit = c.self.inside.limit }) (after c)
    ∙ ap (λ (p : FinMap nat_cmp Page). record { pages = p; limit = c.self.inside.limit }) (protected_is c.args.count c.args.first c.args.rights (entries_of c.self.inside.slots.items))
    ∙ ap (λ (m : Memory). protected m c.args.first c.args.count c.args.rights) c.self.view_is
