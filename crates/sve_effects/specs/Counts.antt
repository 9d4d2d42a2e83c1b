-- Counts of lanes by a pattern, added to registers and lanes or subtracted, and multiples of the vector length. From
-- the Arm Architecture Reference Manual for A-profile (DDI 0487), C8.2 'Alphabetical list of SVE instructions': the
-- operations of the entries CNTB, INCB, DECB, SQINCB, UQINCB, SQDECB, UQDECB and their kin, ADDVL, ADDPL and RDVL, with
-- the shared pseudocode DecodePredCount and SatQ.
use Rattle.std.specs.Prelude.{ℕ, ◌+◌, ◌*◌, ◌/◌, ◌%◌, ◌^◌, Bool, true, false, ℤ, pos, ◌*ℤ◌}
use Rattle.sve_insn.specs.declared.ops.IncOp.{IncOp}
use Rattle.sve_insn.specs.declared.ops.IncOp.TheVariants.{Inc, Dec}
use Rattle.sve_insn.specs.declared.ops.SatOp.{SatOp}
use Rattle.sve_insn.specs.declared.ops.SatOp.TheVariants.{Sqinc, Uqinc, Sqdec, Uqdec}
use Rattle.sve_insn.specs.declared.ops.AddLengthOp.{AddLengthOp}
use Rattle.sve_insn.specs.declared.ops.AddLengthOp.TheVariants.{Addvl, Addpl}
use Rattle.sve_effects.specs.declared.lane_functions.LaneOp.{LaneOp}
use Rattle.sve_effects.specs.declared.lane_functions.LaneOp.TheVariants.{Add, Sub, Uqadd, Uqsub, SqaddAmount, SqsubAmount}
use Rattle.emu_bits.specs.Numbers.{signed}
use Rattle.emu_model.specs.State.{Vectors}
use Rattle.sve_effects.specs.Lane.{lane_op, extended_by}
use Rattle.sve_effects.specs.LaneLoop.{lane_bits}
use Rattle.lane_model.specs.Pattern.{pattern_count}
use Rattle.sve_effects.specs.PermuteRows.{lanes}

-- ---- counts

-- the lanes that the pattern names, imm4 + 1 times
abbrev pub count_of : ℕ → ℕ → ℕ → Vectors → ℕ
count_of size imm4 pattern v = pattern_count pattern (lanes (lane_bits size) v) * (imm4 + 1)

-- the function of a number and a count
abbrev pub inc_lane_op : IncOp → LaneOp
inc_lane_op Inc = Add
inc_lane_op Dec = Sub

-- the same, saturating, and whether it is of signed numbers
abbrev pub saturating : SatOp → LaneOp × Bool
saturating Sqinc = (SqaddAmount, true)
saturating Uqinc = (Uqadd, false)
saturating Sqdec = (SqsubAmount, true)
saturating Uqdec = (Uqsub, false)

-- the low w bits of a register and a count, saturating at w bits; the result is extended to 64 bits, by its sign for sq
abbrev pub sat_counted : SatOp → ℕ → ℕ → ℕ → ℕ
sat_counted op w x count = extended_by (saturating op).1 64 w (lane_op (saturating op).0 w (x % 2 ^ w) count)

-- ---- multiples of the vector length

-- the bytes of a Z register, or of a predicate
abbrev pub length_of : AddLengthOp → Vectors → ℕ
length_of Addvl v = v.bits / 8
length_of Addpl v = v.bits / 64

-- the signed imm6 times a number of bytes
abbrev pub multiple : ℕ → ℕ → ℤ
multiple imm6 bytes = signed imm6 6 *ℤ pos bytes
