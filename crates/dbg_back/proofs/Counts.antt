-- How many marks aren't none.
use Rattle.std.proofs.Common.{◌≡◌, ◌≢◌, ◌≤◌, ℕ, zero, suc, ◌+◌, Bool, true, false, List, [], ◌∷◌, length, get_or, cond, Option, Some, None, is_some, inl, inr, refl, sym, ap, ◌∙◌, arith}
use Rattle.std.specs.List.{count_by}
use Rattle.std.proofs.lemmas.Bool.{cases_eq}
use Rattle.std.proofs.lemmas.List.Sums.{sum_by-cons}

one_most : (b : Bool) → cond b 1 0 ≤ 1
one_most true = omega arith
one_most false = omega arith

module _ {A : Type 0} where
  counted : (x : Option A) (xs : List (Option A)) → count_by is_some (x ∷ xs) ≡ cond (is_some x) 1 0 + count_by is_some xs
  counted x xs = sum_by-cons (λ (o : Option A). cond (is_some o) 1 0) x xs

  no_one : (x : Option A) → x ≡ None → ◌≡◌ {A = ℕ} (cond (is_some x) 1 0) 0
  no_one x none = ap {B = ℕ} (λ (o : Option A). cond (is_some o) 1 0) none

  -- all are none
  pub none_left : (xs : List (Option A)) → ((k : ℕ) → get_or xs k None ≡ None) → count_by is_some xs ≡ 0
  none_left [] h = refl
  none_left (x ∷ xs) h =
      let here = no_one x (h 0) in
      let rest = none_left xs (λ k. h (suc k)) in
      let sum = counted x xs in
      omega (arith, here, rest, sum)

  -- all but one
  pub one_left : (xs : List (Option A)) (j : ℕ) → ((k : ℕ) → k ≢ j → get_or xs k None ≡ None) → count_by is_some xs ≤ 1
  one_left [] j h = omega arith
  one_left (x ∷ xs) zero h =
      let here = one_most (is_some x) in
      let rest = none_left xs (λ k. h (suc k) (λ (e : suc k ≡ zero). cc)) in
      let sum = counted x xs in
      omega (arith, here, rest, sum)
  one_left (x ∷ xs) (suc j) h =
      let here = no_one x (h 0 (λ (e : zero ≡ suc j). cc)) in
      let rest = one_left xs j (λ k other. h (suc k) (λ (e : suc k ≡ suc j). let same : k ≡ j = cc in other same)) in
      let sum = counted x xs in
      omega (arith, here, rest, sum)

  -- all but the first and another
  pub two_left : (xs : List (Option A)) (j : ℕ) → ((k : ℕ) → k ≢ 0 → k ≢ j → get_or xs k None ≡ None) → count_by is_some xs ≤ 2
  two_left [] j h = omega arith
  two_left (x ∷ xs) zero h =
      let here = one_most (is_some x) in
      let rest = none_left xs (λ k. h (suc k) (λ (e : suc k ≡ zero). cc) (λ (e : suc k ≡ zero). cc)) in
      let sum = counted x xs in
      omega (arith, here, rest, sum)
  two_left (x ∷ xs) (suc j) h =
      let here = one_most (is_some x) in
      let rest = one_left xs j (λ k other. h (suc k) (λ (e : suc k ≡ zero). cc) (λ (e : suc k ≡ suc j). let same : k ≡ j = cc in other same)) in
      let sum = counted x xs in
      omega (arith, here, rest, sum)

  -- where none is counted, each is none
  pub all_none : (xs : List (Option A)) (k : ℕ) → count_by is_some xs ≡ 0 → get_or xs k None ≡ None
  all_none [] k h = refl
  all_none (None ∷ xs) zero h = refl
  all_none (None ∷ xs) (suc k) h = let sum = counted None xs in let rest : count_by is_some xs ≡ 0 = omega (arith, h, sum) in all_none xs k rest
  all_none (Some x ∷ xs) k h = let sum : count_by is_some (Some x ∷ xs) ≡ 1 + count_by is_some xs = counted (Some x) xs in absurd (omega (arith, h, sum))

  -- a mark that isn't some is none
  pub is_none_by : (x : Option A) → is_some x ≡ false → x ≡ None
  is_none_by None h = refl
  is_none_by (Some x) h = cc

  pub is_some_by : (x : Option A) (y : A) → x ≡ Some y → is_some x ≡ true
  is_some_by x y h = ap (λ (o : Option A). is_some o) h

  -- behind the last
  pub none_behind : (xs : List (Option A)) (k : ℕ) → length xs ≤ k → get_or xs k None ≡ None
  none_behind [] k h = refl
  none_behind (x ∷ xs) zero h = absurd (omega (arith, h))
  none_behind (x ∷ xs) (suc k) h = none_behind xs k (omega (arith, h))

  -- a list that is none where it isn't as another is kept where it is some
  pub kept_by : (xs ys : List (Option A)) (j : ℕ) → get_or ys 0 None ≡ get_or xs 0 None → get_or ys j None ≡ get_or xs j None → ((k : ℕ) → k ≢ 0 → k ≢ j → get_or ys k None ≡ None)
      → (k : ℕ) → is_some (get_or ys k None) ≡ true → get_or ys k None ≡ get_or xs k None
  kept_by xs ys j first other dropped k set = elim (cases_eq k 0) as (λ _. get_or ys k None ≡ get_or xs k None) [
    | inl same ↦ ap (λ (i : ℕ). get_or ys i None) same ∙ first ∙ ap (λ (i : ℕ). get_or xs i None) (sym same)
    | inr apart ↦ elim (cases_eq k j) as (λ _. get_or ys k None ≡ get_or xs k None) [
      | inl same ↦ ap (λ (i : ℕ). get_or ys i None) same ∙ other ∙ ap (λ (i : ℕ). get_or xs i None) (sym same)
      | inr away ↦ let both : true ≡ false = sym set ∙ ap (λ (o : Option A). is_some o) (dropped k apart away) in cc
    ]
  ]
