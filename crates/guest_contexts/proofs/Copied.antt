-- Registers that are copied one after the other.
use Rattle.std.proofs.Common.{◌≡◌, ◌<◌, ◌≤◌, ◌⊎◌, ℕ, zero, suc, ◌+◌, List, [], ◌∷◌, length, get_or, set, inl, inr, refl, sym, ap, ◌∙◌, arith}
use Rattle.std.proofs.lemmas.List.{get_or-set_same, get_or-set_other, length-set}
use Rattle.emu_bits.specs.Fields.{field}

-- as many elements, of which the first n are the same
pub record AreCopied {X : Type 0} (n : ℕ) (xs ys : List X) (d : X) : Type 0 where
  pub count : length xs ≡ length ys
  pub same : (k : ℕ) → k < n → get_or xs k d ≡ get_or ys k d

at_or_before : (k n : ℕ) → k < n + 1 → (k < n) ⊎ (k ≡ n)
at_or_before zero zero h = inr refl
at_or_before zero (suc n) h = inl (omega arith)
at_or_before (suc k) zero h = absurd (omega (arith, h))
at_or_before (suc k) (suc n) h =
    elim (at_or_before k n (omega (arith, h))) [
      | inl below ↦ inl (omega (arith, below))
      | inr same ↦ inr (ap (λ (j : ℕ). suc j) same)
    ]

module _ {X : Type 0} (d : X) where
  pub one_more : (n : ℕ) (xs ys : List X) (x : X) → AreCopied n xs ys d → n < length ys → x ≡ get_or ys n d → AreCopied (n + 1) (set xs n x) ys d
  one_more n xs ys x c h is = record {
    count = length-set xs n x ∙ c.count;
    same = λ k below.
        elim (at_or_before k n below) [
          | inl before ↦ get_or-set_other xs n k x d (λ e. omega (arith, before, e)) ∙ c.same k before
          | inr at ↦
              ap (λ (j : ℕ). get_or (set xs n x) j d) at ∙ get_or-set_same xs n x d (let e = c.count in omega (arith, h, e)) ∙ is
              ∙ ap (λ (j : ℕ). get_or ys j d) (sym at)
        ];
  }

  pub all_same : (xs ys : List X) → length xs ≡ length ys → ((k : ℕ) → k < length ys → get_or xs k d ≡ get_or ys k d) → xs ≡ ys
  all_same [] [] e h = refl
  all_same [] (y ∷ ys) e h = cc
  all_same (x ∷ xs) [] e h = cc
  all_same (x ∷ xs) (y ∷ ys) e h =
      ap (λ (z : X). z ∷ xs) (h 0 (omega arith)) ∙ ap (λ (l : List X). y ∷ l) (all_same xs ys (omega (arith, e)) (λ k below. h (suc k) (omega (arith, below))))

  pub are_same : (n : ℕ) (xs ys : List X) → AreCopied n xs ys d → length ys ≤ n → xs ≡ ys
  are_same n xs ys c all = all_same xs ys c.count (λ k below. c.same k (omega (arith, below, all)))

-- the register of a number below 32
pub at_number : (n : ℕ) → n < 32 → field n 0 5 ≡ n
at_number n h = omega (arith, h)

pub at_number_below : (n : ℕ) → n < 8 → field n 0 5 ≡ n
at_number_below n h = at_number n (omega (arith, h))
