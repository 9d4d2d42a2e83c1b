-- Folds over the active lanes of a register, in the order of lanes. From the Arm Architecture Reference Manual for
-- A-profile (DDI 0487), C8.2 'Alphabetical list of SVE instructions': the operations of the entries SADDV, UADDV,
-- SMAXV, UMAXV, SMINV, UMINV, ORV, EORV and ANDV.
use Rattle.std.specs.Prelude.{ℕ, ◌-◌, ◌^◌}
use Rattle.sve_insn.specs.declared.ops.ReduceOp.{ReduceOp}
use Rattle.sve_insn.specs.declared.ops.ReduceOp.TheVariants.{Saddv, Uaddv, Smaxv, Umaxv, Sminv, Uminv, Orv, Eorv, Andv}
use Rattle.sve_effects.specs.declared.lane_functions.LaneOp.TheVariants.{Add, Smax, Umax, Smin, Umin, Orr, Eor, And}
use Rattle.emu_bits.specs.Numbers.{sign_extended}
use Rattle.emu_model.specs.State.{Vectors}
use Rattle.sve_effects.specs.Lane.{lane_op}
use Rattle.sve_effects.specs.LaneLoop.{folding}
use Rattle.emu_model.specs.Lanes.{with_low}

-- the next value, of the value so far and a lane of e bits; sums are of the signed or the unsigned lanes, modulo 2^64
abbrev pub reduce_step : ReduceOp → ℕ → ℕ → ℕ → ℕ
reduce_step Saddv e so_far a = lane_op Add 64 so_far (sign_extended 64 e a)
reduce_step Uaddv e so_far a = lane_op Add 64 so_far a
reduce_step Smaxv e so_far a = lane_op Smax e so_far a
reduce_step Umaxv e so_far a = lane_op Umax e so_far a
reduce_step Sminv e so_far a = lane_op Smin e so_far a
reduce_step Uminv e so_far a = lane_op Umin e so_far a
reduce_step Orv e so_far a = lane_op Orr e so_far a
reduce_step Eorv e so_far a = lane_op Eor e so_far a
reduce_step Andv e so_far a = lane_op And e so_far a

-- the value where no lane is active: 0, the least and the greatest signed number, or all ones
abbrev pub reduce_start : ReduceOp → ℕ → ℕ
reduce_start Saddv e = 0
reduce_start Uaddv e = 0
reduce_start Smaxv e = 2 ^ (e - 1)
reduce_start Umaxv e = 0
reduce_start Sminv e = 2 ^ (e - 1) - 1
reduce_start Uminv e = 2 ^ e - 1
reduce_start Orv e = 0
reduce_start Eorv e = 0
reduce_start Andv e = 2 ^ e - 1

-- the bits of the result: 64 of a sum, else those of a lane
abbrev pub reduce_bits : ReduceOp → ℕ → ℕ
reduce_bits Saddv e = 64
reduce_bits Uaddv e = 64
reduce_bits op e = e

-- the low bits of Vd are the result
abbrev pub reduced : ReduceOp → ℕ → ℕ → ℕ → ℕ → Vectors → Vectors
reduced op e pg zn vd v = with_low (reduce_bits op e) (folding e pg (reduce_step op e) (reduce_start op e) zn v) vd v
