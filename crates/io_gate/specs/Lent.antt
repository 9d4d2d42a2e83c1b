-- Lent bytes, and a place among them.
use Rattle.std.specs.Prelude.{ℕ, List, refl}
use Rattle.std.specs.Coded.{Coded, code_by, coded×, coded_ℕ, coded_list}

-- the bytes, and how many of them were given out
pub record Lent : Type 0 where
  pub bytes : List ℕ
  pub place : ℕ

abbrev pub coded_lent : Coded Lent
coded_lent = code_by (List ℕ × ℕ) (coded× (coded_list coded_ℕ) coded_ℕ) (λ l. (l.bytes, l.place)) (λ t. record { bytes = t.0; place = t.1 }) (λ _. refl)
