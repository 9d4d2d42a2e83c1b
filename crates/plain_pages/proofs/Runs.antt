-- The greatest number that meets a test, as a loop goes down.
use Rattle.std.proofs.Common.{◌≡◌, ◌<◌, ℕ, zero, suc, ◌-◌, Bool, true, false, Some, None, if◌then◌else◌, ap, ◌∙◌, arith}
use Rattle.emu_model.specs.Pages.{greatest}
use Rattle.emu_model.specs.PageEquations.{greatest-zero, greatest-suc}

module _ (meets : ℕ → Bool) where
  pub found : (n : ℕ) → 0 < n → meets n ≡ true → greatest n meets ≡ Some n
  found zero h is = let none : ⊥ = omega (arith, h) in absurd none
  found (suc n) h is = greatest-suc n meets ∙ ap (λ (b : Bool). if b then Some (suc n) else greatest n meets) is

  pub lower : (n : ℕ) → 0 < n → meets n ≡ false → greatest n meets ≡ greatest (n - 1) meets
  lower zero h is = let none : ⊥ = omega (arith, h) in absurd none
  lower (suc n) h is =
      let e : n ≡ suc n - 1 = omega arith in
      greatest-suc n meets ∙ ap (λ (b : Bool). if b then Some (suc n) else greatest n meets) is ∙ ap (λ (k : ℕ). greatest k meets) e

  pub none_left : (n : ℕ) → n ≡ 0 → greatest n meets ≡ None
  none_left n is = ap (λ (k : ℕ). greatest k meets) is ∙ greatest-zero meets
