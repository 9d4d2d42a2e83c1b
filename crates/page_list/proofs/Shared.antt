-- Slots that are shared: those of a mark beside those of the pages.
use Rattle.std.proofs.Common.{◌≡◌, ◌<◌, ◌≤◌, ◌+◌, ◌==◌, ◌&&◌, not, Bool, false, ℕ, zero, suc, List, [], ◌∷◌, ◌++◌, set, take, drop, length, get_or, Option, Some, None, IfSome, refl, ap, ◌∙◌, arith}
use Rattle.std.proofs.lemmas.Bool.{eqb-true, eqb-false}
use Rattle.std.proofs.lemmas.List.{length-map}
use Rattle.std.proofs.lemmas.List.Sums.{sum_by-cons, sum_by_more}
use Rattle.frame_arena.proofs.Callers.{by_bool, count-insert_same, count-insert_other, bytes-shared}
use Rattle.frame_arena.specs.Frames.{Frames, Block, Live, bytes_of, count_of}
use Rattle.page_list.specs.declared.slots.Slot.{Slot}
use Rattle.page_list.specs.declared.slots.Hold.{Hold}
use Rattle.page_list.specs.declared.slots.Hold.TheVariants.{Bare, Own, Shared}
use Rattle.page_list.specs.Slots.{bytes_in, entries_in, frame_of, hold_frame, hold_own, is_own, shared_hold, one, has, is_frame, holders, is_sole, no_slot, shared_if, shared_slot, shared_slots, AreOwn}
use Rattle.page_list.proofs.Held.{first, one_most}

-- ---- one frame more

module _ (a : Frames) where
  pub shared_if-counts : (o : Option ℕ) (f : ℕ) → count_of (shared_if a o).live f ≡ count_of a.live f + has f o
  shared_if-counts None f = omega arith
  shared_if-counts (Some g) f =
      let b : Block = record { bytes = bytes_of a.live g; count = count_of a.live g + 1 } in
      by_bool (f == g)
      (λ t.
      let e = eqb-true f g t in let n = ap (count_of (shared_if a (Some g)).live) e ∙ count-insert_same a.live g b in let m = ap (count_of a.live) e in let k = ap one t in
      omega (arith, n, m, k))
      (λ t. let n = count-insert_other a.live g b f (eqb-false f g t) in let k = ap one t in omega (arith, n, k))

  pub shared_if-bytes : (o : Option ℕ) (f : ℕ) → bytes_of (shared_if a o).live f ≡ bytes_of a.live f
  shared_if-bytes None f = refl
  shared_if-bytes (Some g) f = bytes-shared a g f

  pub shared_if-spare : (o : Option ℕ) → (shared_if a o).spare ≡ a.spare
  shared_if-spare None = refl
  shared_if-spare (Some g) = refl

  pub shared_if-total : (o : Option ℕ) → (shared_if a o).total ≡ a.total
  shared_if-total None = refl
  shared_if-total (Some g) = refl

-- ---- the first i of them are shared already

pub next_slot : (xs : List Slot) (i : ℕ) → i < length xs → get_or (shared_slots (take i xs) ++ drop i xs) i no_slot ≡ get_or xs i no_slot
next_slot [] i l = absurd (omega (arith, l))
next_slot (x ∷ xs) zero l = refl
next_slot (x ∷ xs) (suc i) l = next_slot xs i (omega (arith, l))

set_next : (xs : List Slot) (i : ℕ) → i < length xs → set (shared_slots (take i xs) ++ drop i xs) i (shared_slot (get_or xs i no_slot)) ≡ shared_slots (take (suc i) xs) ++ drop (suc i) xs
set_next [] i l = absurd (omega (arith, l))
set_next (x ∷ []) zero l = refl
set_next (x ∷ y ∷ xs) zero l = refl
set_next (x ∷ xs) (suc i) l = ap (λ r. shared_slot x ∷ r) (set_next xs i (omega (arith, l)))

one_more : (i : ℕ) → suc i ≡ i + 1
one_more i = omega arith

pub shared_next : (xs ys : List Slot) (i : ℕ) → i < length xs → ys ≡ shared_slots (take i xs) ++ drop i xs → set ys i (shared_slot (get_or ys i no_slot)) ≡ shared_slots (take (i + 1) xs) ++ drop (i + 1) xs
shared_next xs ys i l e =
    ap (λ (r : List Slot). set r i (shared_slot (get_or r i no_slot))) e
    ∙ ap (λ (s : Slot). set (shared_slots (take i xs) ++ drop i xs) i (shared_slot s)) (next_slot xs i l)
    ∙ set_next xs i l
    ∙ ap (λ n. shared_slots (take n xs) ++ drop n xs) (one_more i)

push_next : (xs : List Slot) (i : ℕ) → i < length xs → shared_slots (take i xs) ++ shared_slot (get_or xs i no_slot) ∷ [] ≡ shared_slots (take (suc i) xs)
push_next [] i l = absurd (omega (arith, l))
push_next (x ∷ []) zero l = refl
push_next (x ∷ y ∷ xs) zero l = refl
push_next (x ∷ xs) (suc i) l = ap (λ r. shared_slot x ∷ r) (push_next xs i (omega (arith, l)))

pub pushed_next : (xs : List Slot) (i : ℕ) → i < length xs → shared_slots (take i xs) ++ shared_slot (get_or xs i no_slot) ∷ [] ≡ shared_slots (take (i + 1) xs)
pushed_next xs i l = push_next xs i l ∙ ap (λ n. shared_slots (take n xs)) (one_more i)

pub holders_next : (f : ℕ) (xs : List Slot) (i : ℕ) → i < length xs → holders f (take (i + 1) xs) ≡ holders f (take i xs) + has f (frame_of (get_or xs i no_slot))
holders_next f xs i l = sum_by_more (λ (s : Slot). has f (frame_of s)) xs i no_slot l

pub holders_most : (f : ℕ) (xs : List Slot) → holders f xs ≤ length xs
holders_most f [] = omega arith
holders_most f (x ∷ xs) = let a = first f x xs in let b = one_most (is_frame f (frame_of x)) in let c = holders_most f xs in omega (arith, a, b, c)

pub holders-take_most : (f : ℕ) (xs : List Slot) (i : ℕ) → holders f (take i xs) ≤ i
holders-take_most f [] zero = omega arith
holders-take_most f [] (suc i) = omega arith
holders-take_most f (x ∷ xs) zero = omega arith
holders-take_most f (x ∷ xs) (suc i) = let a = first f x (take i xs) in let b = one_most (is_frame f (frame_of x)) in let c = holders-take_most f xs i in omega (arith, a, b, c)

pub if_frame : {P : ℕ → Type 0} (o : Option ℕ) → ((f : ℕ) → P f) → IfSome o P
if_frame None h = tt
if_frame (Some f) h = h f

-- ---- a shared slot stands for the same page, has the same frame, and says of nothing that it is its own

shared-frame : (h : Hold) → hold_frame (shared_hold h) ≡ hold_frame h
shared-frame Bare = refl
shared-frame (Own f) = refl
shared-frame (Shared f) = refl

shared-own : (h : Hold) → hold_own (shared_hold h) ≡ false
shared-own Bare = refl
shared-own (Own f) = refl
shared-own (Shared f) = refl

shared_again : (h : Hold) → shared_hold (shared_hold h) ≡ shared_hold h
shared_again Bare = refl
shared_again (Own f) = refl
shared_again (Shared f) = refl

pub entries-shared : (live : Live) (xs : List Slot) → entries_in live (shared_slots xs) ≡ entries_in live xs
entries-shared live [] = refl
entries-shared live (x ∷ xs) = λ i. (x.number, record { rights = x.rights; bytes = bytes_in live (shared-frame x.hold i) }) ∷ entries-shared live xs i

pub holders-shared : (f : ℕ) (xs : List Slot) → holders f (shared_slots xs) ≡ holders f xs
holders-shared f [] = refl
holders-shared f (x ∷ xs) =
    let a = first f (shared_slot x) (shared_slots xs) in let b = first f x xs in let c = holders-shared f xs in let d = ap (has f) (shared-frame x.hold) in omega (arith, a, b, c, d)

pub own-shared : (live : Live) (xs : List Slot) → AreOwn live (shared_slots xs)
own-shared live [] = refl
own-shared live (x ∷ xs) =
    let a = sum_by-cons (λ (s : Slot). one (is_own s && not (is_sole live (frame_of s)))) (shared_slot x) (shared_slots xs) in let b = own-shared live xs in
    let c : one (is_own (shared_slot x) && not (is_sole live (frame_of (shared_slot x)))) ≡ 0 = ap (λ (p : Bool). one (p && not (is_sole live (frame_of (shared_slot x))))) (shared-own x.hold) in
    omega (arith, a, b, c)

pub length-shared : (xs : List Slot) → length (shared_slots xs) ≡ length xs
length-shared xs = length-map xs shared_slot

pub shared_twice : (xs : List Slot) → shared_slots (shared_slots xs) ≡ shared_slots xs
shared_twice [] = refl
shared_twice (x ∷ xs) = λ i. (record { number = x.number; rights = x.rights; hold = shared_again x.hold i }) ∷ shared_twice xs i
