-- Lists of slots cut at places, and put together.
use Rattle.std.proofs.Common.{◌≡◌, ◌<◌, ◌≤◌, ◌+◌, ℕ, zero, suc, List, [], ◌∷◌, ◌++◌, length, take, drop, get_or, Some, ap, ◌∙◌, arith}
use Rattle.std.specs.List.{AllByRecursion}
use Rattle.std.proofs.lemmas.List.{map-append}
use Rattle.emu_model.specs.Pages.{least_mapped}
use Rattle.emu_model.specs.PageLaws.{least_mapped_is}
use Rattle.plain_pages.specs.declared.slots.Slot.{Slot}
use Rattle.plain_pages.specs.Slots.{pages_of, Entry, IsAscending, IsAbove, IsBelow, IsFrom, entry_of, entries_of, page_in}
use Rattle.plain_pages.proofs.Bytes.{map_take, map_drop}
use Rattle.guest_pages.proofs.Ordered.{all_map}
use Rattle.plain_pages.proofs.Ordered.{find_at}
use Rattle.guest_pages.proofs.Maps.{get_is}
use Rattle.guest_pages.proofs.Parts.{free}

-- from the slot at a place on, no number is less than its own
pub rest_from : (l : List Slot) (i : ℕ) (d : Slot) → IsAscending (entries_of l) → i < length l → AllByRecursion (IsFrom (get_or l i d).number) (drop i (entries_of l))
rest_from [] i d h lt = absurd (omega arith)
rest_from (s ∷ l) zero d h lt = (omega arith, all_map (IsAbove s.number) (IsFrom s.number) (entries_of l) (λ e a. omega (arith, a)) h.0)
rest_from (s ∷ l) (suc i) d h lt = rest_from l i d h.1 (omega arith)

pub nothing_past : (P : Entry → Type 0) (l : List Slot) (i : ℕ) → length l ≤ i → AllByRecursion P (drop i (entries_of l))
nothing_past P [] zero h = tt
nothing_past P [] (suc i) h = tt
nothing_past P (s ∷ l) zero h = absurd (omega arith)
nothing_past P (s ∷ l) (suc i) h = nothing_past P l i (omega arith)

-- the slot at a place is the first of the range that is mapped
pub first_taken : (l : List Slot) (at first count : ℕ) (d : Slot) → IsAscending (entries_of l) → at < length l → AllByRecursion (IsBelow first) (take at (entries_of l)) → AllByRecursion (IsFrom first) (drop at (entries_of l)) → (get_or l at d).number < first + count → least_mapped (pages_of (entries_of l)) first count ≡ Some (get_or l at d).number
first_taken l at first count d h lt below from near =
    let n = (get_or l at d).number in
    least_mapped_is (pages_of (entries_of l)) count first n (page_in (get_or l at d)) (here l at d lt from) near
    (get_is (entries_of l) n ∙ find_at l h at d lt)
    (free (entries_of l) at first n below (rest_from l at d h lt))
  where
    here : (l : List Slot) (at : ℕ) (d : Slot) → at < length l → AllByRecursion (IsFrom first) (drop at (entries_of l)) → first ≤ (get_or l at d).number
    here [] at d lt from = absurd (omega arith)
    here (s ∷ l) zero d lt from = from.0
    here (s ∷ l) (suc at) d lt from = here l at d (omega arith) from

-- the entries of slots that are put in at a place
pub put_entries : (l fresh : List Slot) (at : ℕ) → entries_of (take at l ++ (fresh ++ drop at l)) ≡ take at (entries_of l) ++ (entries_of fresh ++ drop at (entries_of l))
put_entries l fresh at =
    map-append entry_of (take at l) (fresh ++ drop at l)
    ∙ ap (λ es. es ++ entries_of (fresh ++ drop at l)) (map_take entry_of l at)
    ∙ ap (λ es. take at (entries_of l) ++ es) (map-append entry_of fresh (drop at l))
    ∙ ap (λ es. take at (entries_of l) ++ (entries_of fresh ++ es)) (map_drop entry_of l at)
