-- A page at hand is open.
use Rattle.std.proofs.Common.{◌≡◌, ℕ, List, Some, sym, ap, ◌∙◌}
use Rattle.std.specs.FinMap.{find, get}
use Rattle.std.specs.Ordering.{nat_cmp}
use Rattle.emu_model.specs.Access.{Memory}
use Rattle.emu_model.specs.declared.access.Kind.{Kind}
use Rattle.page_list.specs.Entries.{IsGiven}
use Rattle.guest_pages.specs.Open.{IsOpen}
use Rattle.guest_pages.specs.Places.{IsAscending, entry_at, memory_of}
use Rattle.guest_pages.specs.declared.pages.Pages.TheInside.{Inside}
use Rattle.guest_pages.proofs.Maps.{get_is}
use Rattle.guest_pages.proofs.Ordered.{find_is}

module _ (a : Inside) (m : Memory) (is : memory_of a ≡ m) (page : ℕ) where
  pub found : get m.pages page ≡ find nat_cmp page a.list.pages
  found = ap (λ (m : Memory). get m.pages page) (sym is) ∙ get_is a.list.pages page

  -- a page that gives the right is open
  pub open_at : IsAscending a.list.pages → (kind : Kind) (bytes : List ℕ) → IsGiven a.list.pages kind page bytes → IsOpen (get m.pages page) kind bytes
  open_at ascending kind bytes at = record {
    rights = (entry_at a.list.pages at.place).1.rights;
    is = found ∙ find_is a.list.pages ascending page at.place (record { within = at.within; number = at.number }) ∙ ap (λ b. Some (record { rights = (entry_at a.list.pages at.place).1.rights; bytes = b })) at.bytes_are;
    allowed = at.allowed;
  }
