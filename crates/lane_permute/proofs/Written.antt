-- Lanes that are written one by one, by their numbers.
use Rattle.std.proofs.Common.{◌≡◌, ◌≢◌, ◌<◌, ◌≤◌, ◌+◌, ◌*◌, ◌%◌, ◌^◌, ℕ, List, map, length, set, get_or, sym, ◌∙◌, ap, arith, below_more}
use Rattle.std.proofs.lemmas.List.{map-set, length-map, length-set, get_or-map, get_or-set_same, get_or-set_other}
use Rattle.lane_permute.specs.Slices.{number_at}

module _ {T : Type 0} (f : T → ℕ) where
  pub number_same : (xs : List T) (k : ℕ) (x : T) → k < length xs → number_at f (set xs k x) k ≡ f x
  number_same xs k x h =
      let within : k < length (map f xs) = omega (arith, length-map xs f) in
      ap (λ (ys : List ℕ). get_or ys k 0) (map-set f xs k x) ∙ get_or-set_same (map f xs) k (f x) 0 within

  pub number_other : (xs : List T) (k i : ℕ) (x : T) → i ≢ k → number_at f (set xs k x) i ≡ number_at f xs i
  number_other xs k i x ne = ap (λ (ys : List ℕ). get_or ys i 0) (map-set f xs k x) ∙ get_or-set_other (map f xs) k i (f x) 0 ne

  pub number_read : (xs : List T) (j : ℕ) (d : T) → j < length xs → number_at f xs j ≡ f (get_or xs j d)
  number_read xs j d h = get_or-map f xs j d 0 h

  -- a lane that was read
  pub read_at : (xs : List T) (j : ℕ) (x : T) → j < length xs → x ≡ get_or xs j x → f x ≡ number_at f xs j
  read_at xs j x h is = ap f is ∙ sym (number_read xs j x h)

  -- one lane more
  pub written_more : (F : ℕ → ℕ) (xs : List T) (k : ℕ) (x : T) → k < length xs → ((i : ℕ) → i < k → number_at f xs i ≡ F i) → f x ≡ F k → (i : ℕ) → i < k + 1 → number_at f (set xs k x) i ≡ F i
  written_more F xs k x h below here =
      below_more (λ i. number_at f (set xs k x) i ≡ F i) k
      (λ i b. let ne : i ≢ k = omega arith in number_other xs k i x ne ∙ below i b)
      (number_same xs k x h ∙ here)

  -- two lanes more
  pub pair_more : (F : ℕ → ℕ) (xs : List T) (j : ℕ) (x y : T) → 2 * j + 1 < length xs → ((i : ℕ) → i < 2 * j → number_at f xs i ≡ F i) → f x ≡ F (2 * j) → f y ≡ F (2 * j + 1)
      → (i : ℕ) → i < 2 * (j + 1) → number_at f (set (set xs (2 * j) x) (2 * j + 1) y) i ≡ F i
  pair_more F xs j x y room below first second i b =
      let within : 2 * j < length xs = omega arith in
      let more : 2 * j + 1 < length (set xs (2 * j) x) = omega (arith, length-set xs (2 * j) x) in
      let last : i < 2 * j + 1 + 1 = omega arith in
      written_more F (set xs (2 * j) x) (2 * j + 1) y more (written_more F xs (2 * j) x within below first) second i last

  -- one lane more, from some lane on
  pub written_from : (F : ℕ → ℕ) (xs : List T) (from k : ℕ) (x : T) → k < length xs → ((i : ℕ) → from ≤ i → i < k → number_at f xs i ≡ F i) → f x ≡ F k → (i : ℕ) → from ≤ i → i < k + 1 → number_at f (set xs k x) i ≡ F i
  written_from F xs from k x h below here i b u =
      below_more (λ i. from ≤ i → number_at f (set xs k x) i ≡ F i) k
      (λ i v w. let ne : i ≢ k = omega arith in number_other xs k i x ne ∙ below i w v)
      (λ w. number_same xs k x h ∙ here) i u b

pub zero_lane : (b : ℕ) → 0 % 2 ^ b ≡ 0
zero_lane b = omega arith
