-- Addresses as keys of a map.
use Rattle.std.proofs.Common.{◌≡◌, ℕ, true, false, refl, sym, ◌∙◌}
use Rattle.std.proofs.lemmas.Bool.{eqb-true, eq-eqb}
use Rattle.std.specs.Ordering.{nat_cmp, eq_by_cmp}
use Rattle.std.specs.Cmp.{unsigned_tied}

pub tied : (a b : ℕ) → eq_by_cmp nat_cmp a b ≡ true → a ≡ b
tied a b h = eqb-true a b (sym (unsigned_tied a b) ∙ h)

pub same : (a b : ℕ) → a ≡ b → eq_by_cmp nat_cmp a b ≡ true
same a b h = unsigned_tied a b ∙ eq-eqb a b h

pub untied : (a b : ℕ) → eq_by_cmp nat_cmp a b ≡ false → a ≡ b → ⊥
untied a b h e = let f : true ≡ false = sym (same a b e) ∙ h in cc

pub apart : (a b : ℕ) → (a ≡ b → ⊥) → eq_by_cmp nat_cmp a b ≡ false
apart a b ne = elim (eq_by_cmp nat_cmp a b) as (λ t. eq_by_cmp nat_cmp a b ≡ t → t ≡ false) [
  | true ↦ λ e. absurd (ne (tied a b e))
  | false ↦ λ e. refl
] refl
