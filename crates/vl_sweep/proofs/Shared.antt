-- The bytes that two outputs share from a place on.
use Rattle.std.proofs.Common.{◌≡◌, ◌<◌, ◌≤◌, ◌+◌, ℕ, true, false, cond, nat_eq, List, ◌∷◌, length, drop, get_or, min, ap, ◌∙◌, arith}
use Rattle.std.proofs.lemmas.Bool.Decides.{nat_tests}
use Rattle.std.proofs.lemmas.List.{at_drop_more, length-drop}
use Rattle.std.proofs.lemmas.List.Sums.{common_prefix_len-le}
use Rattle.std.specs.List.{common_prefix_len}

equal_numbers : (x y : ℕ) → x ≡ y → nat_eq x y ≡ true
equal_numbers x y e = grind (arith, nat_tests)

other_numbers : (x y : ℕ) → (x ≡ y → ⊥) → nat_eq x y ≡ false
other_numbers x y e = grind (arith, nat_tests)

module _ (xs ys : List ℕ) (i : ℕ) where
  heads : i < length xs → i < length ys → common_prefix_len nat_eq (drop i xs) (drop i ys) ≡ cond (nat_eq (get_or xs i 0) (get_or ys i 0)) (1 + common_prefix_len nat_eq (drop (i + 1) xs) (drop (i + 1) ys)) 0
  heads a b = at_drop_more (λ (ls : List ℕ). common_prefix_len nat_eq ls (drop i ys)) xs i 0 a ∙ at_drop_more (λ (ls : List ℕ). common_prefix_len nat_eq (get_or xs i 0 ∷ drop (i + 1) xs) ls) ys i 0 b

  pub share_more : i < length xs → i < length ys → get_or xs i 0 ≡ get_or ys i 0 → common_prefix_len nat_eq (drop i xs) (drop i ys) ≡ 1 + common_prefix_len nat_eq (drop (i + 1) xs) (drop (i + 1) ys)
  share_more a b e = heads a b ∙ ap (λ t. cond t (1 + common_prefix_len nat_eq (drop (i + 1) xs) (drop (i + 1) ys)) 0) (equal_numbers (get_or xs i 0) (get_or ys i 0) e)

  pub share_none : i < length xs → i < length ys → (get_or xs i 0 ≡ get_or ys i 0 → ⊥) → common_prefix_len nat_eq (drop i xs) (drop i ys) ≡ 0
  share_none a b e = heads a b ∙ ap (λ t. cond t (1 + common_prefix_len nat_eq (drop (i + 1) xs) (drop (i + 1) ys)) 0) (other_numbers (get_or xs i 0) (get_or ys i 0) e)

  pub share_end : min (length xs) (length ys) ≤ i → common_prefix_len nat_eq (drop i xs) (drop i ys) ≡ 0
  share_end end =
      let le = common_prefix_len-le nat_eq (drop i xs) (drop i ys) in
      omega (arith, le.0, le.1, length-drop i xs, length-drop i ys)
