-- The lines' conditions: functions of a row's name and of fields. From the Arm Architecture Reference
-- Manual for A-profile (DDI 0487), C8.2 'Alphabetical list of SVE instructions': a condition leaves out what the
-- decoding of an entry has as UNDEFINED, and what C4 has as unallocated.
use Rattle.std.specs.Prelude.{ℕ, ◌==◌, ◌&&◌, ◌||◌, Bool, true, false, not, nat_lt, nat_le, is_some}
use Rattle.emu_bits.specs.Bitmask.{bitmask_of}
use Rattle.sve_insn.specs.declared.ops.BinaryOp.{BinaryOp}
use Rattle.sve_insn.specs.declared.ops.BinaryOp.TheVariants as binary
use Rattle.sve_insn.specs.declared.ops.ReduceOp.{ReduceOp}
use Rattle.sve_insn.specs.declared.ops.ReduceOp.TheVariants as reduce
use Rattle.sve_insn.specs.declared.ops.UnaryOp.{UnaryOp}
use Rattle.sve_insn.specs.declared.ops.UnaryOp.TheVariants as unary
use Rattle.sve_insn.specs.declared.ops.WriteFfrOp.{WriteFfrOp}
use Rattle.sve_insn.specs.declared.ops.WriteFfrOp.TheVariants as write_ffr

-- Lanes or elements of memory aren't bytes: their size, 0 b, 1 h, 2 s or 3 d, isn't 0.
unfoldable pub is_no_byte : ℕ → Bool
is_no_byte size = not (size == 0)

-- Lanes or elements of memory don't have 64 bits.
unfoldable pub is_no_doubleword : ℕ → Bool
is_no_doubleword size = not (size == 3)

-- Lanes have 32 or 64 bits.
unfoldable pub is_word_or_doubleword : ℕ → Bool
is_word_or_doubleword size = nat_le 2 size

-- Elements of memory have 16 or 32 bits.
unfoldable pub is_halfword_or_word : ℕ → Bool
is_halfword_or_word size = size == 1 || size == 2

abbrev is_division : BinaryOp → Bool
is_division binary.Sdiv = true
is_division binary.Udiv = true
is_division binary.Sdivr = true
is_division binary.Udivr = true
is_division op = false

-- Divisions have lanes of 32 or 64 bits.
unfoldable pub binary_holds_for : BinaryOp → ℕ → Bool
binary_holds_for op size = is_word_or_doubleword size || not (is_division op)

-- tszh:tszl isn't 0: its highest bit that is set gives the size of lanes.
unfoldable pub has_tsz : ℕ → ℕ → Bool
has_tsz tszh tszl = not (tszh == 0) || not (tszl == 0)

-- The least size of lanes: a part that is extended or reversed, of 8, 16 or 32 bits, is shorter than the lane.
unfoldable pub unary_least_size : UnaryOp → ℕ
unary_least_size unary.Sxtb = 1
unary_least_size unary.Uxtb = 1
unary_least_size unary.Revb = 1
unary_least_size unary.Sxth = 2
unary_least_size unary.Uxth = 2
unary_least_size unary.Revh = 2
unary_least_size unary.Sxtw = 3
unary_least_size unary.Uxtw = 3
unary_least_size unary.Revw = 3
unary_least_size op = 0

-- Lanes have the least size of the name, or a greater one.
unfoldable pub unary_holds_for : UnaryOp → ℕ → Bool
unary_holds_for op size = nat_le (unary_least_size op) size

-- An immediate isn't shifted by 8 in lanes of bytes.
unfoldable pub shifts_no_byte : ℕ → ℕ → Bool
shifts_no_byte size sh = not (size == 0) || sh == 0

-- The fields of a bitmask immediate have a value of 64 bits.
unfoldable pub has_bitmask : ℕ → ℕ → ℕ → Bool
has_bitmask n immr imms = is_some (bitmask_of 64 n immr imms)

-- saddv has no lanes of 64 bits.
unfoldable pub reduce_holds_for : ReduceOp → ℕ → Bool
reduce_holds_for reduce.Saddv size = is_no_doubleword size
reduce_holds_for op size = true

-- tsz isn't 0: its lowest bit that is set gives the size of lanes.
unfoldable pub has_lane_size : ℕ → Bool
has_lane_size tsz = not (tsz == 0)

-- Flags aren't set where inactive bits are kept.
unfoldable pub break_first_holds_for : ℕ → ℕ → Bool
break_first_holds_for s m = s == 0 || m == 0

-- setffr has 0 in the place of Pn.
unfoldable pub write_ffr_holds_for : WriteFfrOp → ℕ → Bool
write_ffr_holds_for write_ffr.Setffr pn = pn == 0
write_ffr_holds_for write_ffr.Wrffr pn = true

-- The offset's register isn't XZR.
unfoldable pub is_register : ℕ → Bool
is_register rm = not (rm == 31)

-- An element of memory isn't longer than a lane.
unfoldable pub fits_lane : ℕ → ℕ → Bool
fits_lane msz size = nat_le msz size

-- An element isn't longer than a lane, and an offset is in a register.
unfoldable pub store_reg_holds_for : ℕ → ℕ → ℕ → Bool
store_reg_holds_for msz size rm = fits_lane msz size && is_register rm

-- An element whose sign is extended to 32 bits (u is 0) is shorter.
unfoldable pub extends_to_word : ℕ → ℕ → Bool
extends_to_word msz u = u == 1 || nat_lt msz 2

-- An element whose sign is extended to 64 bits (u is 0) is shorter.
unfoldable pub extends_to_doubleword : ℕ → ℕ → Bool
extends_to_doubleword msz u = u == 1 || nat_lt msz 3

-- An element has 8, 16 or 32 bits, and one whose sign is extended is shorter than a lane of 32 bits.
unfoldable pub gather_word_holds_for : ℕ → ℕ → Bool
gather_word_holds_for msz u = is_no_doubleword msz && extends_to_word msz u

-- An element has 16 or 32 bits, and one whose sign is extended is shorter than a lane of 32 bits.
unfoldable pub gather_scaled_word_holds_for : ℕ → ℕ → Bool
gather_scaled_word_holds_for msz u = is_halfword_or_word msz && extends_to_word msz u

-- An element isn't a byte, and one whose sign is extended is shorter than a lane of 64 bits.
unfoldable pub gather_scaled_doubleword_holds_for : ℕ → ℕ → Bool
gather_scaled_doubleword_holds_for msz u = is_no_byte msz && extends_to_doubleword msz u
