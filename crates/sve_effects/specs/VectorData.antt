-- Parts of the SVE instructions that work lane by lane: immediates and their shifts, indices, dot products with one
-- lane of each 128 bits, and copies. From the Arm Architecture Reference Manual for A-profile (DDI 0487), C8.2
-- 'Alphabetical list of SVE instructions': the entries of integer arithmetic, shifts, moves and copies, of which these
-- are the parts that decode immediates and indices.
use Rattle.std.specs.Prelude.{ℕ, ◌+◌, ◌-◌, ◌*◌, ◌/◌, ◌^◌, Bool, true, false, if◌then◌else◌, unwrap_or, ℤ, pos, ◌*ℤ◌}
use Rattle.sve_insn.specs.declared.ops.IndexOp.{IndexOp}
use Rattle.sve_insn.specs.declared.ops.IndexOp.TheVariants.{ImmImm, RegImm, ImmReg, RegReg}
use Rattle.sve_insn.specs.declared.ops.DotIndexedOp.{DotIndexedOp}
use Rattle.sve_insn.specs.declared.ops.DotIndexedOp.TheVariants.{SdotS, UdotS, SdotD, UdotD}
use Rattle.sve_effects.specs.declared.lane_functions.LaneOp.{LaneOp}
use Rattle.sve_effects.specs.declared.lane_functions.LaneOp.TheVariants.{Lsl}
use Rattle.emu_bits.specs.Bitmask.{highest_set}
use Rattle.emu_bits.specs.Numbers.{signed, unsigned_int}
use Rattle.emu_model.specs.State.{Core, Vectors, read_x}
use Rattle.sve_effects.specs.Lane.{lane_op, dot_product}
use Rattle.sve_effects.specs.LaneLoop.{lane_bits, lane_of, every_lane, merging, zeroing}

-- ---- immediate shifts

-- tszh:tszl
abbrev pub tsz_of : ℕ → ℕ → ℕ
tsz_of tszh tszl = tszh * 4 + tszl

-- the bits of lanes: 8 times 2 to the place of tsz's highest set bit, which each instruction of the rows has
abbrev pub shift_bits : ℕ → ℕ
shift_bits tsz = lane_bits (unwrap_or (highest_set 3 tsz) 0)

-- of tsz:imm3, a shift to the left is by this number less e, and one to the right by 2·e less this number
abbrev pub shift_amount : LaneOp → ℕ → ℕ → ℕ
shift_amount Lsl tsz imm3 = tsz * 8 + imm3 - shift_bits tsz
shift_amount op tsz imm3 = 2 * shift_bits tsz - (tsz * 8 + imm3)

-- a shift of lanes of register zn by such an amount
abbrev pub shifted_by : LaneOp → ℕ → ℕ → ℕ → Vectors → ℕ → ℕ
shifted_by op tsz imm3 zn v k = lane_op op (shift_bits tsz) (lane_of (shift_bits tsz) v zn k) (shift_amount op tsz imm3)

-- ---- immediates

-- imm8, which sh shifts by 8
abbrev pub wide_unsigned : Bool → ℕ → ℕ
wide_unsigned sh imm = imm * (if sh then 2 ^ 8 else 1)

-- the same of the signed imm8, in lanes of e bits
abbrev pub wide_signed : ℕ → Bool → ℕ → ℕ
wide_signed e sh imm = unsigned_int (signed imm 8 *ℤ pos (if sh then 2 ^ 8 else 1)) e

-- the first number of an index and its step: a register, or a signed immediate of 5 bits
abbrev pub index_start : IndexOp → Core → ℕ → ℤ
index_start ImmImm c x = signed x 5
index_start RegImm c x = pos (read_x c x)
index_start ImmReg c x = signed x 5
index_start RegReg c x = pos (read_x c x)

abbrev pub index_step : IndexOp → Core → ℕ → ℤ
index_step ImmImm c y = signed y 5
index_step RegImm c y = signed y 5
index_step ImmReg c y = pos (read_x c y)
index_step RegReg c y = pos (read_x c y)

-- ---- dot products with one lane of each 128 bits

-- of a name: the bits of its lanes; those of Zm in the field i:Zm; and whether quarters of lanes are signed
pub record DotIndexed : Type 0 where
  pub bits : ℕ
  pub zm_bits : ℕ
  pub is_signed : Bool

abbrev pub dot_of : DotIndexedOp → DotIndexed
dot_of SdotS = record { bits = 32; zm_bits = 3; is_signed = true }
dot_of UdotS = record { bits = 32; zm_bits = 3; is_signed = false }
dot_of SdotD = record { bits = 64; zm_bits = 4; is_signed = true }
dot_of UdotD = record { bits = 64; zm_bits = 4; is_signed = false }

-- lane i of the 128 bits that lane k of e bits is in
abbrev pub indexed_lane : ℕ → ℕ → ℕ → ℕ
indexed_lane e i k = k / (128 / e) * (128 / e) + i

-- lane k of e bits, with lane i of the same 128 bits of Zm
abbrev pub dot_indexed_lanes : Bool → ℕ → ℕ → ℕ → ℕ → ℕ → Vectors → Vectors
dot_indexed_lanes is_signed e i zm zn zda v =
    every_lane e (λ k.
    dot_product is_signed e (lane_of e v zda k) (lane_of e v zn k) (lane_of e v zm (indexed_lane e i k))) zda v

-- ---- copies

-- active lanes are copied; the others keep their value where `merges` is true (/m), else they are 0 (/z)
abbrev pub merging_or_zeroing : Bool → ℕ → ℕ → (ℕ → ℕ) → ℕ → Vectors → Vectors
merging_or_zeroing merges e pg f zd v = if merges then merging e pg f zd v else zeroing e pg f zd v
