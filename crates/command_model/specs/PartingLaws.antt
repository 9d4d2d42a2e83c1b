-- Where two outputs part is where the bytes that they share end.
use Rattle.std.proofs.Common.{◌≡◌, ◌+◌, inl, inr, ℕ, suc, true, false, cond, List, [], ◌∷◌, nat_eq, refl, ap, ap₂, subst, arith}
use Rattle.std.specs.List.{common_prefix_len}
use Rattle.std.proofs.lemmas.Bool.Decides.{nat_tests}
use Rattle.command_model.specs.Partings.{IsParting}

same_number : (x y : ℕ) → nat_eq x y ≡ true → x ≡ y
same_number x y e = grind (arith, nat_tests)

other_number : (x y : ℕ) → nat_eq x y ≡ false → x ≡ y → ⊥
other_number x y e same = grind (arith, nat_tests)

one_further : (x y : ℕ) (xs ys : List ℕ) (n : ℕ) → x ≡ y → IsParting xs ys n → IsParting (x ∷ xs) (y ∷ ys) (suc n)
one_further x y xs ys n e p = record {
  in_first = (let le = p.in_first in omega arith);
  in_output = (let le = p.in_output in omega arith);
  same = ap₂ (λ z zs. z ∷ zs) e p.same;
  apart = elim p.apart [ inl end ↦ inl (ap suc end) | inr more ↦ inr (elim more [ inl end ↦ inl (ap suc end) | inr other ↦ inr other ]) ];
}

pub parts_there : (first output : List ℕ) → IsParting first output (common_prefix_len nat_eq first output)
parts_there [] ys = record { in_first = omega arith; in_output = omega arith; same = refl; apart = inl refl }
parts_there (x ∷ xs) [] = record { in_first = omega arith; in_output = omega arith; same = refl; apart = inr (inl refl) }
parts_there (x ∷ xs) (y ∷ ys) =
    elim (nat_eq x y) as (λ b. nat_eq x y ≡ b → IsParting (x ∷ xs) (y ∷ ys) (cond b (1 + common_prefix_len nat_eq xs ys) 0)) [
      | true ↦ λ e. subst (λ n. IsParting (x ∷ xs) (y ∷ ys) n) (omega arith) (one_further x y xs ys (common_prefix_len nat_eq xs ys) (same_number x y e) (parts_there xs ys))
      | false ↦ λ e. record { in_first = omega arith; in_output = omega arith; same = refl; apart = inr (inr (other_number x y e)) }
    ] refl
