-- The registers by places, so that an operand is found with no test of register 31: places 0 to 30 are x0 to x30, 31 is
-- SP, 32 has 0, and 33 is for what no register keeps. These places are this project's own.
use Rattle.std.specs.Prelude.{ℕ, nat_eq, if◌then◌else◌}

-- the place of a register that is read, and the register of such a place
abbrev pub source_place : ℕ → ℕ
source_place r = if nat_eq r 31 then 32 else r

abbrev pub source_register : ℕ → ℕ
source_register place = if nat_eq place 32 then 31 else place

-- the same of a register that is written
abbrev pub target_place : ℕ → ℕ
target_place r = if nat_eq r 31 then 33 else r

abbrev pub target_register : ℕ → ℕ
target_register place = if nat_eq place 33 then 31 else place
