-- Numbers of b bits: read as unsigned and as signed, extensions, quotients, saturation, and sums with flags. From the
-- shared pseudocode of the Arm Architecture Reference Manual for A-profile (DDI 0487), J1: UInt, SInt, SignExtend,
-- ZeroExtend, ExtendReg, SignedSatQ, UnsignedSatQ, RoundTowardsZero and AddWithCarry.
use Rattle.std.specs.Prelude.{ℕ, ◌+◌, ◌-◌, ◌*◌, ◌%◌, ◌^◌, ◌==◌, ◌||◌, Bool, cond, if◌then◌else◌, nat_lt, nat_le, ℤ, pos, negsuc, ◌+ℤ◌, ◌-ℤ◌, neg_ℤ, int_lt, int_div, unsigned_abs}
use Rattle.emu_bits.specs.declared.flags.Flags.{Flags}
use Rattle.emu_bits.specs.Fields.{bit}

-- a number modulo 2^b
abbrev pub unsigned : ℕ → ℕ → ℕ
unsigned n b = n % 2 ^ b

-- the bits of a general register by sf: 64 of x registers, 32 of w registers
abbrev pub width_of : Bool → ℕ
width_of sf = if sf then 64 else 32

-- any whole number modulo 2^b
abbrev pub unsigned_int : ℤ → ℕ → ℕ
unsigned_int (pos n) b = n % 2 ^ b
unsigned_int (negsuc n) b = 2 ^ b - 1 - n % 2 ^ b

-- the same, less 2^b where that is 2^(b-1) or more
abbrev pub signed : ℕ → ℕ → ℤ
signed n b = cond (nat_lt (unsigned n b) (2 ^ (b - 1))) (pos (unsigned n b)) (pos (unsigned n b) -ℤ pos (2 ^ b))

-- the low n bits of a number, extended by their sign to w bits
abbrev pub sign_extended : ℕ → ℕ → ℕ → ℕ
sign_extended w n a = unsigned_int (signed a n) w

-- the bits that an extension takes, 8, 16, 32 or 64: 0 uxtb, 1 uxth, 2 uxtw, 3 uxtx, 4 sxtb, 5 sxth, 6 sxtw, 7 sxtx
abbrev pub extended_bits : ℕ → ℕ
extended_bits ext = 8 * 2 ^ (ext % 4)

-- these low bits of a, extended to 64 bits
abbrev pub extended : ℕ → ℕ → ℕ
extended ext a = if nat_lt ext 4 then a % 2 ^ extended_bits ext else sign_extended 64 (extended_bits ext) a

-- the quotient towards zero, and 0 where the divisor is 0
abbrev pub quotient : ℤ → ℤ → ℤ
quotient a b = cond (unsigned_abs b == 0) (pos 0) (int_div a b)

-- a number, or the nearer end of a range where it is outside
abbrev pub saturated : ℤ → ℤ → ℤ → ℤ
saturated z least greatest = cond (int_lt z least) least (cond (int_lt greatest z) greatest z)

-- the sum of two numbers and a carry, at w bits
abbrev pub sum_of : ℕ → ℕ → ℕ → Bool → ℕ
sum_of w a b carry = unsigned (a + b + bit carry) w

-- a whole number is no signed number of w bits
abbrev pub is_out_of_range : ℕ → ℤ → Bool
is_out_of_range w z = int_lt z (neg_ℤ (pos (2 ^ (w - 1)))) || int_lt (pos (2 ^ (w - 1) - 1)) z

-- The flags of the sum: N is its top bit, Z that it is 0, C that the unsigned sum is 2^w or more, V that the signed sum
-- is out of range.
abbrev pub flags_of_sum : ℕ → ℕ → ℕ → Bool → Flags
flags_of_sum w a b carry = record {
  n = nat_le (2 ^ (w - 1)) (sum_of w a b carry);
  z = sum_of w a b carry == 0;
  c = nat_le (2 ^ w) (a + b + bit carry);
  v = is_out_of_range w (signed a w +ℤ signed b w +ℤ pos (bit carry));
}
