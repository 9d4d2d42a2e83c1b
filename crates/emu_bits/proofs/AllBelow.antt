-- Tests of all numbers below some bound, which the checker computes.
use Rattle.std.proofs.Common.{◌≡◌, ℕ, zero, suc, ◌<◌, ◌==◌, ◌&&◌, eqb, Bool, true, false, Option, Some, None, refl, sym, subst, ap, ◌∙◌, inl, inr, arith}
use Rattle.std.proofs.lemmas.Bool.{eqb-true, eq-eqb}
use Rattle.std.proofs.lemmas.Bool.Decides.{eqb_tells}
use Rattle.std.specs.Option.{option_eq}
use Rattle.emu_bits.proofs.Encoding.{both}

abbrev pub all_below : ℕ → (ℕ → Bool) → Bool
all_below zero p = true
all_below (suc k) p = p k && all_below k p

pub each_below : (k : ℕ) (p : ℕ → Bool) (i : ℕ) → all_below k p ≡ true → i < k → p i ≡ true
each_below zero p i a h = absurd (omega arith)
each_below (suc k) p i a h =
    let a2 = both (p k) (all_below k p) a in
    elim (eqb_tells i k) [
      | inl e ↦ subst (λ (x : ℕ). p x ≡ true) (sym e.1) a2.0
      | inr e ↦ (let d : i ≡ k → ⊥ = e.1 in each_below k p i a2.1 (omega arith))
    ]

-- an answer is this number
abbrev pub gives : Option ℕ → ℕ → Bool
gives None v = false
gives (Some x) v = x == v

pub given : (o : Option ℕ) (v : ℕ) → gives o v ≡ true → o ≡ Some v
given None v e = absurd (cc)
given (Some x) v e = ap (λ (y : ℕ). Some y) (eqb-true x v e)

pub option_is : (o : Option ℕ) (v : ℕ) → option_eq eqb o (Some v) ≡ true → o ≡ Some v
option_is None v e = absurd (cc)
option_is (Some x) v e = ap (λ (y : ℕ). Some y) (eqb-true x v e)

pub is_option : (o : Option ℕ) (v : ℕ) → o ≡ Some v → option_eq eqb o (Some v) ≡ true
is_option o v e = ap (λ (x : Option ℕ). option_eq eqb x (Some v)) e ∙ eq-eqb v v refl
