-- What the places of permutes of two sources name.
use Rattle.std.proofs.Common.{◌≡◌, ◌<◌, ◌≤◌, ◌+◌, ◌-◌, ◌*◌, ◌%◌, ℕ, true, false, nat_eq, nat_lt, if◌then◌else◌, ap, ◌∙◌, arith}
use Rattle.std.proofs.lemmas.Bool.Decides.{nat_tests}
use Rattle.lane_model.specs.declared.places.LaneSource.TheVariants.{FirstLane, SecondLane}
use Rattle.lane_model.specs.Permute.{taken, by_parity, concatenated}

module _ (a b : ℕ → ℕ) (scalar : ℕ) where
  pub turn_even : (k m : ℕ) → k % 2 ≡ 0 → taken a b scalar 0 (by_parity k m) ≡ a m
  turn_even k m e = let t : nat_eq (k % 2) 0 ≡ true = grind (arith, nat_tests) in ap (λ t. taken a b scalar 0 (if t then FirstLane m else SecondLane m)) t

  pub turn_odd : (k m : ℕ) → k % 2 ≡ 1 → taken a b scalar 0 (by_parity k m) ≡ b m
  turn_odd k m e = let t : nat_eq (k % 2) 0 ≡ false = grind (arith, nat_tests) in ap (λ t. taken a b scalar 0 (if t then FirstLane m else SecondLane m)) t

  -- lanes 2j and 2j + 1 of two in turn
  pub turn_first : (j m n : ℕ) → m ≡ n → taken a b scalar 0 (by_parity (2 * j) m) ≡ a n
  turn_first j m n e = turn_even (2 * j) m (omega arith) ∙ ap a e

  pub turn_second : (j m n : ℕ) → m ≡ n → taken a b scalar 0 (by_parity (2 * j + 1) m) ≡ b n
  turn_second j m n e = turn_odd (2 * j + 1) m (omega arith) ∙ ap b e

  pub joined_first : (n m k : ℕ) → m < n → m ≡ k → taken a b scalar 0 (concatenated n m) ≡ a k
  joined_first n m k h e = let t : nat_lt m n ≡ true = grind (arith, nat_tests) in ap (λ t. taken a b scalar 0 (if t then FirstLane m else SecondLane (m - n))) t ∙ ap a e

  pub joined_second : (n m k : ℕ) → n ≤ m → m - n ≡ k → taken a b scalar 0 (concatenated n m) ≡ b k
  joined_second n m k h e = let t : nat_lt m n ≡ false = grind (arith, nat_tests) in ap (λ t. taken a b scalar 0 (if t then FirstLane m else SecondLane (m - n))) t ∙ ap b e
