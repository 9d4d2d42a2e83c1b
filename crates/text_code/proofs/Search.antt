-- A binary search among entries whose texts ascend finds what a search from the front does.
use Rattle.std.proofs.Common.{◌≡◌, ℕ, zero, suc, ◌<◌, ◌≤◌, ◌&&◌, if◌then◌else◌, Bool, true, false, Option, Some, None, Result, Ok, Err, MatchResult, List, [], ◌∷◌, length, get_or, refl, sym, ap, ◌∙◌, subst, arith, inl, inr, ◌⊎◌}
use Rattle.std.proofs.lemmas.Bool.{cases_Bool, cases_lt, and_parts, false≢true}
use Rattle.std.proofs.lemmas.Cmp.{nat_list_cmp_total}
use Rattle.std.proofs.lemmas.Slice.Eq.{bytes_eq-Decides}
use Rattle.std.proofs.lemmas.Map.Text.{is_eq-slice_cmp}
use Rattle.std.specs.Cmp.Lexicographic.{slice_cmp}
use Rattle.std.specs.List.Sorted.{IsNonDecreasingBy, IsBinarySearchResult, IsSearchInRange}
use Rattle.std.specs.Ordering.{nat_cmp, ordering_index, ordering_reverse, is_eq, is_lt}
use Rattle.std.specs.Str.{bytes_eq}
use Rattle.std.specs.declared.cmp.Ordering.{Ordering}
use Rattle.std.specs.declared.cmp.Ordering.TheVariants.{Less, Equal, Greater}

-- the first entry of a text
abbrev pub find_by : {E : Type 0} → (E → List ℕ) → List E → List ℕ → Option E
find_by text [] t = None
find_by text (e ∷ es) t = if bytes_eq t (text e) then Some e else find_by text es t

abbrev pub order : List ℕ → List ℕ → Ordering
order s t = slice_cmp nat_cmp s t

-- each text is before the next
abbrev pub are_ascending : {E : Type 0} → (E → List ℕ) → List E → Bool
are_ascending text [] = true
are_ascending text (x ∷ []) = true
are_ascending text (x ∷ y ∷ ys) = is_lt (order (text x) (text y)) && are_ascending text (y ∷ ys)

less_of : (o : Ordering) → is_lt o ≡ true → o ≡ Less
less_of Less h = refl
less_of Equal h = absurd (false≢true h)
less_of Greater h = absurd (false≢true h)

equal_of : (o : Ordering) → is_eq o ≡ true → o ≡ Equal
equal_of Less h = absurd (false≢true h)
equal_of Equal h = refl
equal_of Greater h = absurd (false≢true h)

trans : (a b c : List ℕ) → order a b ≡ Less → order b c ≡ Less → order a c ≡ Less
trans a b c h k = nat_list_cmp_total.trans a b c h k

-- ---- in order

-- a text is before each later one
before : {E : Type 0} (text : E → List ℕ) (x : E) (xs : List E) (k : ℕ) (d : E) → are_ascending text (x ∷ xs) ≡ true → k < length xs → order (text x) (text (get_or xs k d)) ≡ Less
before text x [] k d h l = absurd (omega arith)
before text x (y ∷ ys) zero d h l = less_of _ (and_parts (is_lt (order (text x) (text y))) _ h).0
before text x (y ∷ ys) (suc k) d h l =
    let h2 = and_parts (is_lt (order (text x) (text y))) (are_ascending text (y ∷ ys)) h in
    trans (text x) (text y) (text (get_or ys k d)) (less_of _ h2.0) (before text y ys k d h2.1 (omega arith))

tail : {E : Type 0} (text : E → List ℕ) (x : E) (xs : List E) → are_ascending text (x ∷ xs) ≡ true → are_ascending text xs ≡ true
tail text x [] h = refl
tail text x (y ∷ ys) h = (and_parts (is_lt (order (text x) (text y))) (are_ascending text (y ∷ ys)) h).1

ordered : {E : Type 0} (text : E → List ℕ) (xs : List E) (i j : ℕ) (d : E) → are_ascending text xs ≡ true → i < j → j < length xs → order (text (get_or xs i d)) (text (get_or xs j d)) ≡ Less
ordered text [] i j d h l m = absurd (omega arith)
ordered text (x ∷ xs) i zero d h l m = absurd (omega arith)
ordered text (x ∷ xs) zero (suc j) d h l m = before text x xs j d h (omega arith)
ordered text (x ∷ xs) (suc i) (suc j) d h l m = ordered text xs i j d (tail text x xs h) (omega arith) (omega arith)

-- what is below t stays so before it
at_most : (o : Ordering) → ordering_index o ≤ ordering_index Greater
at_most Less = omega arith
at_most Equal = omega arith
at_most Greater = omega arith

falls : (a b t : List ℕ) (o : Ordering) → order a b ≡ Less → o ≡ order b t → ordering_index (order a t) ≤ ordering_index o
falls a b t Less h e = let l : order a t ≡ Less = trans a b t h (sym e) in subst (λ (o : Ordering). ordering_index o ≤ ordering_index Less) (sym l) (omega arith)
falls a b t Equal h e =
    let c : order b a ≡ order t a = nat_list_cmp_total.congr b t a (sym e) in
    let l : order a t ≡ Less = nat_list_cmp_total.antisymm a t ∙ ap ordering_reverse (sym c) ∙ sym (nat_list_cmp_total.antisymm a b) ∙ h in
    subst (λ (o : Ordering). ordering_index o ≤ ordering_index Equal) (sym l) (omega arith)
falls a b t Greater h e = at_most (order a t)

lt_or_same : (i j : ℕ) → i ≤ j → (i < j) ⊎ (i ≡ j)
lt_or_same i j h = elim (cases_lt i j) [
  | inl l ↦ inl l
  | inr l ↦ inr (omega arith)
]

falling : {E : Type 0} (text : E → List ℕ) (xs : List E) (t : List ℕ) → are_ascending text xs ≡ true → IsNonDecreasingBy (λ (y : E). ordering_index (order (text y) t)) xs
falling {E} text xs t h = λ (i j : ℕ) (d : E) (l : i ≤ j) (m : j < length xs). elim (lt_or_same i j l) [
  | inl e ↦ falls (text (get_or xs i d)) (text (get_or xs j d)) t (order (text (get_or xs j d)) t) (ordered text xs i j d h e m) refl
  | inr e ↦ subst (λ (k : ℕ). ordering_index (order (text (get_or xs i d)) t) ≤ ordering_index (order (text (get_or xs k d)) t)) e (omega arith)
]

-- ---- what is found

same_text : (s t : List ℕ) → order s t ≡ Equal → t ≡ s
same_text s t h = sym ((bytes_eq-Decides s t).0 (sym (is_eq-slice_cmp s t) ∙ ap is_eq h))

not_same : (s t : List ℕ) (o : Ordering) → order s t ≡ o → is_eq o ≡ false → bytes_eq t s ≡ false
not_same s t o h e = elim (cases_Bool (bytes_eq t s)) [
  | inl f ↦ (let k : t ≡ s = (bytes_eq-Decides t s).0 f in
      absurd (false≢true (sym e ∙ ap is_eq (sym h) ∙ is_eq-slice_cmp s t ∙ (bytes_eq-Decides s t).1 (sym k))))
  | inr f ↦ f
]

found : {E : Type 0} (text : E → List ℕ) (xs : List E) (t : List ℕ) (i : ℕ) (d : E) → are_ascending text xs ≡ true → i < length xs → order (text (get_or xs i d)) t ≡ Equal
    → find_by text xs t ≡ Some (get_or xs i d)
found text [] t i d h l e = absurd (omega arith)
found text (x ∷ xs) t zero d h l e = ap (λ (b : Bool). if b then Some x else find_by text xs t) ((bytes_eq-Decides t (text x)).1 (same_text (text x) t e))
found text (x ∷ xs) t (suc i) d h l e =
    let s : t ≡ text (get_or xs i d) = same_text (text (get_or xs i d)) t e in
    let b : order (text x) t ≡ Less = ap (order (text x)) s ∙ before text x xs i d h (omega arith) in
    ap (λ (b : Bool). if b then Some x else find_by text xs t) (not_same (text x) t Less b refl) ∙ found text xs t i d (tail text x xs h) (omega arith) e

missing : {E : Type 0} (text : E → List ℕ) (xs : List E) (t : List ℕ) → ((k : ℕ) (d : E) → k < length xs → is_eq (order (text (get_or xs k d)) t) ≡ false) → find_by text xs t ≡ None
missing text [] t h = refl
missing {E} text (x ∷ xs) t h =
    ap (λ (b : Bool). if b then Some x else find_by text xs t) (not_same (text x) t (order (text x) t) refl (h 0 x (omega arith)))
    ∙ missing text xs t (λ (k : ℕ) (d : E) (l : k < length xs). h (suc k) d (omega arith))

-- What a binary search for t answers.
pub searched : {E : Type 0} (text : E → List ℕ) (xs : List E) (t : List ℕ) (r : Result ℕ ℕ) → are_ascending text xs ≡ true → IsSearchInRange r (length xs)
    → IsBinarySearchResult (λ (y : E). slice_cmp nat_cmp (text y) t) xs r → MatchResult r (λ i. (d : E) → find_by text xs t ≡ Some (get_or xs i d)) (λ i. find_by text xs t ≡ None)
searched {E} text xs t (Ok i) h l s = λ (d : E). found text xs t i d h l (s d)
searched {E} text xs t (Err i) h l s =
    let p = s (falling text xs t h) in
    missing text xs t (λ (k : ℕ) (d : E) (m : k < length xs). elim (cases_lt k i) [
      | inl n ↦ ap is_eq (p.0 k d (omega arith) n)
      | inr n ↦ ap is_eq (p.1 k d n m)
    ])
