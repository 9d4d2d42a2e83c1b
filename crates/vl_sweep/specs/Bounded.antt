-- What a bounded sink holds.
use Rattle.std.specs.Prelude.{◌≡◌, ◌<◌, ◌≤◌, ℕ, List, length, refl}
use Rattle.std.specs.Coded.{Coded, code_by, coded×, coded_ℕ, coded_list}

-- the bytes that it holds, and how often it failed
pub record Bounded : Type 0 where
  pub held : List ℕ
  pub faults : ℕ

abbrev pub coded_bounded : Coded Bounded
coded_bounded = code_by (List ℕ × ℕ) (coded× (coded_list coded_ℕ) coded_ℕ) (λ s. (s.held, s.faults)) (λ p. record { held = p.0; faults = p.1 }) (λ _. refl)

-- it holds no more than the limit, for which it has the room, and it is full once it has failed
pub record IsBounded (limit : ℕ) (held : List ℕ) (faults capacity : ℕ) : Type 0 where
  pub most : length held ≤ limit
  pub room : limit ≤ capacity
  pub full : 0 < faults → length held ≡ limit
