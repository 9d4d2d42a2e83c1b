-- A line of a table in four parts: in which it stands, by its number.
use Rattle.std.proofs.Common.{◌≡◌, ℕ, ◌+◌, ◌-◌, ◌≤◌, ◌<◌, List, [], ◌++◌, length, get_or, ◌∙◌, sym, ap, subst, arith}
use Rattle.std.proofs.lemmas.List.{get_or_append_left, get_or-append_right}
use Rattle.text_model.specs.Reading.{Pattern}

-- a line of the first of two parts
in_first : (a b : List (List Pattern)) (n k : ℕ) → length a ≡ n → k < n → get_or a k [] ≡ get_or (a ++ b) k []
in_first a b n k e h = sym (get_or_append_left a b [] k (subst (λ (m : ℕ). k < m) (sym e) h))

-- a line behind it
behind_first : (a b : List (List Pattern)) (n k : ℕ) → length a ≡ n → n ≤ k → get_or b (k - n) [] ≡ get_or (a ++ b) k []
behind_first a b n k e h = sym (get_or-append_right a b n k [] e h)

less_twice : (k n m : ℕ) → k - (n + m) ≡ k - n - m
less_twice k n m = omega arith

module _ (a b c d : List (List Pattern)) (n m o k : ℕ) (first : length a ≡ n) (second : length b ≡ m) (third : length c ≡ o) where
  pub in_first_part : k < n → get_or a k [] ≡ get_or (a ++ (b ++ (c ++ d))) k []
  in_first_part h = in_first a (b ++ (c ++ d)) n k first h

  pub in_second_part : n ≤ k → k < n + m → get_or b (k - n) [] ≡ get_or (a ++ (b ++ (c ++ d))) k []
  in_second_part l h = in_first b (c ++ d) m (k - n) second (omega (arith, l, h)) ∙ behind_first a (b ++ (c ++ d)) n k first l

  behind_second : n + m ≤ k → get_or (c ++ d) (k - (n + m)) [] ≡ get_or (a ++ (b ++ (c ++ d))) k []
  behind_second l =
      ap (λ (i : ℕ). get_or (c ++ d) i []) (less_twice k n m)
      ∙ behind_first b (c ++ d) m (k - n) second (omega (arith, l))
      ∙ behind_first a (b ++ (c ++ d)) n k first (omega (arith, l))

  pub in_third_part : n + m ≤ k → k < n + m + o → get_or c (k - (n + m)) [] ≡ get_or (a ++ (b ++ (c ++ d))) k []
  in_third_part l h = in_first c d o (k - (n + m)) third (omega (arith, l, h)) ∙ behind_second l

  pub in_last_part : n + m + o ≤ k → get_or d (k - (n + m + o)) [] ≡ get_or (a ++ (b ++ (c ++ d))) k []
  in_last_part l =
      ap (λ (i : ℕ). get_or d i []) (less_twice k (n + m) o)
      ∙ behind_first c d o (k - (n + m)) third (omega (arith, l))
      ∙ behind_second (omega (arith, l))
