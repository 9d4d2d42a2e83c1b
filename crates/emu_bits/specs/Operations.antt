-- Operations on operands of w bits: complements, shifts, fields, products, quotients, and bits and bytes in another
-- order. From the Arm Architecture Reference Manual for A-profile (DDI 0487): LSL, LSR, ASR, ROR, ShiftReg,
-- CountLeadingZeroBits and CountLeadingSignBits of J1, and of C6.2 the entries EXTR, SBFM, BFM, UBFM, SMADDL, SMULH,
-- UMULH, SDIV, UDIV, RBIT and REV.
use Rattle.std.specs.Prelude.{ℕ, zero, suc, ◌+◌, ◌-◌, ◌*◌, ◌/◌, ◌%◌, ◌^◌, Bool, false, nat_eq, nat_le, if◌then◌else◌, ◌*ℤ◌}
use Rattle.std.specs.Int.{int_shr}
use Rattle.std.specs.Int.Count.{count_leading_zeros}
use Rattle.emu_bits.specs.Numbers.{signed, unsigned_int, quotient}
use Rattle.emu_bits.specs.declared.flags.Flags.{Flags}

-- NOT of w bits
abbrev pub complement : ℕ → ℕ → ℕ
complement w a = 2 ^ w - 1 - a

-- a less b modulo 2^w: a + NOT b + 1
abbrev pub difference : ℕ → ℕ → ℕ → ℕ
difference w a b = (a + complement w (b % 2 ^ w) + 1) % 2 ^ w

-- ---- flags

-- the top bit of w bits is 1
abbrev pub top_bit : ℕ → ℕ → Bool
top_bit w a = nat_le (2 ^ (w - 1)) a

-- N and Z of a result of w bits, C and V 0
abbrev pub flags_of_result : ℕ → ℕ → Flags
flags_of_result w v = record { n = top_bit w v; z = nat_eq v 0; c = false; v = false }

-- ---- shifts

-- the w bits from place s on of `high` followed by `low`
abbrev pub extracted : ℕ → ℕ → ℕ → ℕ → ℕ
extracted w high low s = (high * 2 ^ w + low) / 2 ^ s % 2 ^ w

-- to the left
abbrev pub lsl : ℕ → ℕ → ℕ → ℕ
lsl w a k = a * 2 ^ k % 2 ^ w

-- to the right, zeros above
abbrev pub lsr : ℕ → ℕ → ℕ
lsr a k = a / 2 ^ k

-- to the right, copies of the top bit above
abbrev pub asr : ℕ → ℕ → ℕ → ℕ
asr w a k = unsigned_int (int_shr (signed a w) k) w

-- rotated right: the w bits from place k on of a followed by itself
abbrev pub ror : ℕ → ℕ → ℕ → ℕ
ror w a k = extracted w a a (k % w)

-- the shift of a field: 0 lsl, 1 lsr, 2 asr, 3 ror
abbrev pub shifted : ℕ → ℕ → ℕ → ℕ → ℕ
shifted w shift a k =
    if nat_eq shift 0 then lsl w a k
    else (if nat_eq shift 1 then lsr a k else (if nat_eq shift 2 then asr w a k else ror w a k))

-- ---- fields

-- the n bits from a place on, replaced
abbrev pub replaced : ℕ → ℕ → ℕ → ℕ → ℕ
replaced a place n v = a % 2 ^ place + v * 2 ^ place + a / 2 ^ (place + n) * 2 ^ (place + n)

-- In a bitfield move bits s:r go to place 0 where s ≥ r, else bits s:0 go to place w - r. This is the place that the
-- bits come from.
abbrev pub field_from : ℕ → ℕ → ℕ
field_from r s = if nat_le r s then r else 0

-- how many bits a bitfield move moves
abbrev pub field_bits : ℕ → ℕ → ℕ
field_bits r s = if nat_le r s then s - r + 1 else s + 1

-- the place that a bitfield move moves them to
abbrev pub field_to : ℕ → ℕ → ℕ → ℕ
field_to w r s = if nat_le r s then 0 else w - r

-- ---- products and quotients

-- the 64-bit product of two 32-bit numbers, signed
abbrev pub signed_product : ℕ → ℕ → ℕ
signed_product a b = unsigned_int (signed a 32 *ℤ signed b 32) 64

-- the upper 64 bits of a product of two 64-bit numbers, unsigned
abbrev pub upper_product : ℕ → ℕ → ℕ
upper_product a b = a * b / 2 ^ 64

-- the same of the signed product
abbrev pub signed_upper_product : ℕ → ℕ → ℕ
signed_upper_product a b = unsigned_int (int_shr (signed a 64 *ℤ signed b 64) 64) 64

-- quotients towards zero, and 0 where the divisor is 0
abbrev pub unsigned_quotient : ℕ → ℕ → ℕ
unsigned_quotient a b = if nat_eq b 0 then 0 else a / b

-- the same of signed numbers; the least by -1 is itself
abbrev pub signed_quotient : ℕ → ℕ → ℕ → ℕ
signed_quotient w a b = unsigned_int (quotient (signed a w) (signed b w)) w

-- ---- bits and bytes in another order, and counts

-- the number of n bits, bit j of them f j
unfoldable pub number_of_bits : ℕ → (ℕ → ℕ) → ℕ
number_of_bits zero f = 0
number_of_bits (suc n) f = number_of_bits n f + f n * 2 ^ n

-- bit j of w bits is bit w - 1 - j of a
abbrev pub reversed_bits : ℕ → ℕ → ℕ
reversed_bits w a = number_of_bits w (λ j. a / 2 ^ (w - 1 - j) % 2)

-- byte j, the lowest byte 0
abbrev pub byte : ℕ → ℕ → ℕ
byte a j = a / 256 ^ j % 256

-- the number of n bytes, byte j of them f j
abbrev pub number_of_bytes : ℕ → (ℕ → ℕ) → ℕ
number_of_bytes zero f = 0
number_of_bytes (suc n) f = number_of_bytes n f + f n * 256 ^ n

-- the place that mirrors place j within its group of g
abbrev pub mirrored : ℕ → ℕ → ℕ
mirrored g j = j / g * g + (g - 1 - j % g)

-- n bytes, reversed in each group of g
abbrev pub reversed_bytes : ℕ → ℕ → ℕ → ℕ
reversed_bytes g n a = number_of_bytes n (λ j. byte a (mirrored g j))

-- the leading zeros of w bits
abbrev pub leading_zeros : ℕ → ℕ → ℕ
leading_zeros w a = count_leading_zeros w a

-- the leading copies of the top bit after it: leading zeros, or leading ones where the top bit is 1, less the top bit
abbrev pub leading_copies : ℕ → ℕ → ℕ
leading_copies w a = leading_zeros w (if top_bit w a then complement w a else a) - 1
