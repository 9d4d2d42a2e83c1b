-- Slots taken out, and pages that are found.
use Rattle.std.proofs.Common.{◌≡◌, ℕ, Bool, true, false, List, [], ◌∷◌, Option, refl, ap, ◌∙◌, cond, arith, is_some}
use Rattle.std.specs.List.{filter}
use Rattle.std.specs.FinMap.{get}
use Rattle.emu_model.specs.Access.{Page}
use Rattle.plain_pages.specs.declared.slots.Slot.{Slot}
use Rattle.plain_pages.specs.Slots.{pages_of, IsAscending, IsAt, entry_of, entries_of}
use Rattle.plain_pages.proofs.Ordered.{find_is}
use Rattle.guest_pages.proofs.Maps.{get_is}

-- ---- entries whose number passes a test

pub entries_filter : (p : ℕ → Bool) (l : List Slot) → entries_of (filter (λ s. p s.number) l) ≡ filter (λ e. p e.0) (entries_of l)
entries_filter p [] = refl
entries_filter p (s ∷ l) =
    elim (p s.number) as (λ b. entries_of (cond b (s ∷ filter (λ s. p s.number) l) (filter (λ s. p s.number) l)) ≡ cond b (entry_of s ∷ filter (λ e. p e.0) (entries_of l)) (filter (λ e. p e.0) (entries_of l))) [
      | true ↦ ap (λ es. entry_of s ∷ es) (entries_filter p l)
      | false ↦ entries_filter p l
    ]

-- ---- pages that are found

-- a page whose slot is at a place is found
pub at_found : (l : List Slot) (page i : ℕ) → IsAscending (entries_of l) → IsAt l page i → is_some (get (pages_of (entries_of l)) page) ≡ true
at_found [] page i h at = absurd (omega (arith, at.within))
at_found (s ∷ l) page i h at = ap (λ (o : Option Page). is_some o) (get_is (entries_of (s ∷ l)) page ∙ find_is (s ∷ l) h page i s at)
