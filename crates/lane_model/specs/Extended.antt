-- Numbers of lanes, extended. From the shared pseudocode of the Arm Architecture Reference Manual for A-profile
-- (DDI 0487), J1: SignExtend and ZeroExtend.
use Rattle.std.specs.Prelude.{ℕ, Bool, if◌then◌else◌}
use Rattle.emu_bits.specs.Numbers.{sign_extended}

-- a number of n bits, extended to e bits by its sign or by zeros
abbrev pub extended_by : Bool → ℕ → ℕ → ℕ → ℕ
extended_by is_signed e n a = if is_signed then sign_extended e n a else a
