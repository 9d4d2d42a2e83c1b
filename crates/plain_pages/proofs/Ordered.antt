-- Slots in order: what holds before and after a place, and what is found.
use Rattle.std.proofs.Common.{◌≡◌, ◌<◌, ◌≤◌, ◌%◌, ℕ, zero, suc, true, false, List, [], ◌∷◌, map, length, take, drop, get_or, Option, Some, None, is_some, nat_lt, nat_eq, refl, sym, ap, ◌∙◌, subst, cond, arith, ltb}
use Rattle.std.specs.List.{AllByRecursion}
use Rattle.std.specs.List.Sorted.{IsPartitionPoint}
use Rattle.std.specs.Ordering.{nat_cmp}
use Rattle.std.specs.FinMap.{find}
use Rattle.std.proofs.lemmas.List.{length-map, get_or_default}
use Rattle.std.proofs.lemmas.Bool.{eqb-true}
use Rattle.std.proofs.lemmas.Bool.Decides.{nat_tests}
use Rattle.emu_model.specs.Access.{page_size}
use Rattle.plain_pages.specs.declared.slots.Slot.{Slot}
use Rattle.plain_pages.specs.Slots.{IsEntry, IsAscending, IsAbove, IsBelow, IsFrom, IsAt, entries_of, entry_of, page_in}
use Rattle.guest_pages.proofs.Ordered.{all_map, tied_same, tied_apart, IsApart, find_apart}

-- what holds of each element holds at each place
pub all_at : {X Y : Type 0} (P : Y → Type 0) (f : X → Y) (l : List X) → AllByRecursion P (map f l) → (i : ℕ) (d : X) → i < length l → P (f (get_or l i d))
all_at P f [] h i d lt = absurd (omega arith)
all_at P f (s ∷ l) h zero d lt = h.0
all_at P f (s ∷ l) h (suc i) d lt = all_at P f l h.1 i d (omega arith)

-- a slot has 4,096 bytes
pub whole_at : (l : List Slot) → AllByRecursion IsEntry (entries_of l) → (i : ℕ) (d : Slot) → i < length l → length (get_or l i d).bytes.items ≡ page_size
whole_at l h i d lt = sym (length-map (get_or l i d).bytes.items (λ b. b % 256)) ∙ (all_at IsEntry entry_of l h i d lt).count

pub all_take : {X Y : Type 0} (P : Y → Type 0) (f : X → Y) (l : List X) (i : ℕ) → ((k : ℕ) (d : X) → k < i → k < length l → P (f (get_or l k d))) → AllByRecursion P (take i (map f l))
all_take P f [] zero h = tt
all_take P f [] (suc i) h = tt
all_take P f (s ∷ l) zero h = tt
all_take P f (s ∷ l) (suc i) h = (h 0 s (omega arith) (omega arith), all_take P f l i (λ k d a b. h (suc k) d (omega arith) (omega arith)))

pub all_drop : {X Y : Type 0} (P : Y → Type 0) (f : X → Y) (l : List X) (i : ℕ) → ((k : ℕ) (d : X) → i ≤ k → k < length l → P (f (get_or l k d))) → AllByRecursion P (drop i (map f l))
all_drop P f [] zero h = tt
all_drop P f [] (suc i) h = tt
all_drop P f (s ∷ l) zero h = (h 0 s (omega arith) (omega arith), all_drop P f l zero (λ k d a b. h (suc k) d (omega arith) (omega arith)))
all_drop P f (s ∷ l) (suc i) h = all_drop P f l i (λ k d a b. h (suc k) d (omega arith) (omega arith))

-- the numbers rise, as a search asks
pub numbers_rise : (l : List Slot) → IsAscending (entries_of l) → (i j : ℕ) (d : Slot) → i ≤ j → j < length l → (get_or l i d).number ≤ (get_or l j d).number
numbers_rise [] h i j d le lt = absurd (omega arith)
numbers_rise (s ∷ l) h zero zero d le lt = omega arith
numbers_rise (s ∷ l) h zero (suc j) d le lt = let above : s.number < (get_or l j d).number = all_at (IsAbove s.number) entry_of l h.0 j d (omega arith) in omega arith
numbers_rise (s ∷ l) h (suc i) zero d le lt = absurd (omega arith)
numbers_rise (s ∷ l) h (suc i) (suc j) d le lt = numbers_rise l h.1 i j d (omega arith) (omega arith)

-- a page with a slot is found
pub find_at : (l : List Slot) → IsAscending (entries_of l) → (i : ℕ) (d : Slot) → i < length l → find nat_cmp (get_or l i d).number (entries_of l) ≡ Some (page_in (get_or l i d))
find_at [] h i d lt = absurd (omega arith)
find_at (s ∷ l) h zero d lt = ap (λ t. cond t (Some (page_in s)) (find nat_cmp s.number (entries_of l))) (tied_same s.number s.number refl)
find_at (s ∷ l) h (suc i) d lt =
    let above : s.number < (get_or l i d).number = all_at (IsAbove s.number) entry_of l h.0 i d (omega arith) in
    ap (λ t. cond t (Some (page_in s)) (find nat_cmp (get_or l i d).number (entries_of l))) (tied_apart (get_or l i d).number s.number (λ e. omega arith)) ∙ find_at l h.1 i d (omega arith)

pub find_is : (l : List Slot) → IsAscending (entries_of l) → (page i : ℕ) (d : Slot) → IsAt l page i → find nat_cmp page (entries_of l) ≡ Some (page_in (get_or l i d))
find_is l h page i d at = subst (λ n. find nat_cmp n (entries_of l) ≡ Some (page_in (get_or l i d))) (at.number d) (find_at l h i d at.within)

-- a search ends before the first number that isn't below
pub ends_below : (l : List Slot) (page i : ℕ) → IsPartitionPoint (λ (s : Slot). ltb s.number page ≡ true) (λ (s : Slot). ltb s.number page ≡ false) l i → AllByRecursion (IsBelow page) (take i (entries_of l))
ends_below l page i h = all_take (IsBelow page) entry_of l i (λ k d a b. grind (arith, nat_tests, h.0 k d (omega arith) a))

pub ends_from : (l : List Slot) (page i : ℕ) → IsPartitionPoint (λ (s : Slot). ltb s.number page ≡ true) (λ (s : Slot). ltb s.number page ≡ false) l i → AllByRecursion (IsFrom page) (drop i (entries_of l))
ends_from l page i h = all_drop (IsFrom page) entry_of l i (λ k d a b. grind (arith, nat_tests, h.1 k d a b))

-- where the slot at the place of a page isn't its own, the page isn't found
pub missing : (l : List Slot) → IsAscending (entries_of l) → (page i : ℕ) → AllByRecursion (IsBelow page) (take i (entries_of l)) → AllByRecursion (IsFrom page) (drop i (entries_of l)) → ((d : Slot) → i < length l → (get_or l i d).number ≡ page → ⊥) → find nat_cmp page (entries_of l) ≡ None
missing [] h page i below from ne = refl
missing (s ∷ l) h page zero below from ne =
    find_apart page (entries_of (s ∷ l)) (λ e. ne s (omega arith) (sym e), all_map (IsAbove s.number) (IsApart page) (entries_of l) (λ x a e. ne s (omega arith) (omega (arith, from.0))) h.0)
missing (s ∷ l) h page (suc i) below from ne =
    ap (λ t. cond t (Some (page_in s)) (find nat_cmp page (entries_of l))) (tied_apart page s.number (λ e. omega (arith, below.0)))
    ∙ missing l h.1 page i below.1 from (λ d lt e. ne d (omega arith) e)

absent : {X : Type 0} (o : Option X) → o ≡ None → is_some o ≡ true → ⊥
absent None e is = cc
absent (Some x) e is = cc

-- the place of a page that is found is that of its slot
pub present : (l : List Slot) → IsAscending (entries_of l) → (page i : ℕ) → AllByRecursion (IsBelow page) (take i (entries_of l)) → AllByRecursion (IsFrom page) (drop i (entries_of l)) → is_some (find nat_cmp page (entries_of l)) ≡ true → IsAt l page i
present l h page i below from is =
    let there : ((d : Slot) → i < length l → (get_or l i d).number ≡ page → ⊥) → ⊥ = λ ne. absent (find nat_cmp page (entries_of l)) (missing l h page i below from ne) is in
    record {
      within = elim (nat_lt i (length l)) as (λ b. nat_lt i (length l) ≡ b → i < length l) [
        | true ↦ λ e. grind (arith, nat_tests)
        | false ↦ λ e. absurd (there (λ d lt x. grind (arith, nat_tests)))
      ] refl;
      number = λ d. elim (nat_eq (get_or l i d).number page) as (λ b. nat_eq (get_or l i d).number page ≡ b → (get_or l i d).number ≡ page) [
        | true ↦ λ e. eqb-true (get_or l i d).number page e
        | false ↦ λ e. absurd (there (λ t lt x. let same = ap (λ (s : Slot). s.number) (get_or_default l i d t lt) ∙ x in grind (arith, nat_tests)))
      ] refl;
    }
