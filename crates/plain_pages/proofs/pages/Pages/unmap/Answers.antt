use Rattle.std.proofs.Common.{not, sym, ap, ◌∙◌, subst}
use Rattle.std.specs.FinMap.{FinMap}
use Rattle.std.specs.Ordering.{nat_cmp}
use Rattle.emu_model.specs.Access.{Memory, Page}
use Rattle.emu_model.specs.Pages.{is_page_in, unmapped}
use Rattle.plain_pages.specs.Slots.{pages_of, AreInOrder, entries_of}
use Rattle.guest_pages.proofs.Removed.{removed_is, order_filter}
use Rattle.plain_pages.proofs.pages.Pages.unmap.Goals as goal

pub invariant_of-self : goal.invariant_of-self
invariant_of-self c = subst (λ es. AreInOrder c.self.inside.limit es) (sym c.remove_slots.ensures) (order_filter c.self.inside.limit (λ page. not (is_page_in c.args.first c.args.count page)) (entries_of c.self.inside.slots.items) c.self.invariant)

pub returns : goal.returns
returns c =
    ap (λ es. record { pages = pages_of es; limit = c.self.inside.limit }) c.remove_slots.ensures
    ∙ ap (λ (p : FinMap nat_cmp Page). record { pages = p; limit = c.self.inside.limit }) (removed_is c.args.first c.args.count (entries_of c.self.inside.slots.items))
    ∙ ap (λ (m : Memory). unmapped m c.args.first c.args.count) c.self.view_is
