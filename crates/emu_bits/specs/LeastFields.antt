-- Which fields give a bitmask immediate its value, and which of them are the least.
use Rattle.std.specs.Prelude.{ℕ, ◌<◌, ◌≤◌, ◌≡◌, Some}
use Rattle.emu_bits.specs.Bitmask.{bitmask_of}

-- fields that give a value
pub record GivesBitmask (width value n immr imms : ℕ) : Type 0 where
  pub flag : n < 2
  pub rotation : immr < 64
  pub size : imms < 64
  pub gives : bitmask_of width n immr imms ≡ Some value

-- the fields with the least immr that give a value: all others have the same N and imms
pub record IsLeastFields (width value n immr imms : ℕ) : Type 0 where
  pub gives : GivesBitmask width value n immr imms
  pub least : (m r s : ℕ) → GivesBitmask width value m r s → (m ≡ n) × (immr ≤ r) × (s ≡ imms)
