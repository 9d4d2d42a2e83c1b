-- Elements at equal distances among bytes.
use Rattle.std.specs.Prelude.{ℕ, ◌+◌, ◌*◌, Bool, List}
use Rattle.emu_model.specs.WithinPage.{number_in}
use Rattle.sve_effects.specs.Lane.{extended_by}

-- what lane k of e bits is made of: the element of n bytes at place at + k * step
abbrev pub lane_at : Bool → ℕ → ℕ → List ℕ → ℕ → ℕ → ℕ → ℕ
lane_at is_signed e n bytes at step k = extended_by is_signed e (8 * n) (number_in bytes (at + k * step) n)
