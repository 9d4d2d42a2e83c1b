-- The first lanes of a register, where they alone are active.
use Rattle.std.specs.Prelude.{◌≡◌, ◌<◌, ◌≤◌, ◌+◌, ℕ, ◌/◌, true, false, nat_lt}
use Rattle.emu_model.specs.State.{Vectors}
use Rattle.sve_effects.specs.LaneLoop.{is_active}

-- the first n lanes of e bits are active, and no other is
abbrev pub AreLeading : ℕ → ℕ → ℕ → Vectors → Type 0
AreLeading n e pg v = (k : ℕ) → k < v.bits / e → is_active e v pg k ≡ nat_lt k n

-- A lane of e bits from lane k on is active.
pub record HasActive (k e pg : ℕ) (v : Vectors) : Type 0 where
  pub lane : ℕ
  pub from : k ≤ lane
  pub within : lane < v.bits / e
  pub on : is_active e v pg lane ≡ true

-- An active lane of e bits is behind one that isn't.
pub record HasGap (e pg : ℕ) (v : Vectors) : Type 0 where
  pub gap : ℕ
  pub off : is_active e v pg gap ≡ false
  pub behind : HasActive (gap + 1) e pg v
