-- What SVE instructions make of lanes of e bits: exact over the whole numbers, then modulo 2^e. From the Arm
-- Architecture Reference Manual for A-profile (DDI 0487), C8.2 'Alphabetical list of SVE instructions': what the
-- operation of each entry makes of one element, with the shared pseudocode SInt, UInt, SignedSatQ, UnsignedSatQ,
-- BitCount, CountLeadingZeroBits and CountLeadingSignBits. Names of functions are this project's own.
use Rattle.std.specs.Prelude.{ℕ, zero, suc, ◌+◌, ◌-◌, ◌*◌, ◌/◌, ◌^◌, max, min, Bool, true, false, not, nat_eq, nat_lt, nat_le, if◌then◌else◌, bit_and, bit_or, bit_xor, count_ones, ℤ, pos, neg_ℤ, ◌+ℤ◌, ◌-ℤ◌, ◌*ℤ◌, int_lt, int_le, unsigned_abs}
use Rattle.std.specs.Int.{int_max, int_min, int_shr}
use Rattle.emu_bits.specs.Fields.{bit, field}
use Rattle.emu_bits.specs.Numbers.{unsigned, unsigned_int, signed, sign_extended, quotient, saturated}
use Rattle.emu_bits.specs.Operations.{complement, lsl, lsr, asr, unsigned_quotient, signed_quotient, reversed_bits, leading_zeros, leading_copies}
use Rattle.sve_insn.specs.declared.ops.BinaryOp.{BinaryOp}
use Rattle.sve_insn.specs.declared.ops.BinaryOp.TheVariants as binary_names
use Rattle.sve_insn.specs.declared.ops.ShiftOp.{ShiftOp}
use Rattle.sve_insn.specs.declared.ops.ShiftOp.TheVariants as shift_names
use Rattle.sve_insn.specs.declared.ops.ShiftImmOp.{ShiftImmOp}
use Rattle.sve_insn.specs.declared.ops.ShiftImmOp.TheVariants as shift_imm_names
use Rattle.sve_insn.specs.declared.ops.UnaryOp.{UnaryOp}
use Rattle.sve_insn.specs.declared.ops.UnaryOp.TheVariants as unary_names
use Rattle.sve_insn.specs.declared.ops.MulAddZOp.{MulAddZOp}
use Rattle.sve_insn.specs.declared.ops.MulAddZOp.TheVariants as mul_add_z_names
use Rattle.sve_insn.specs.declared.ops.MulAddDOp.{MulAddDOp}
use Rattle.sve_insn.specs.declared.ops.MulAddDOp.TheVariants as mul_add_d_names
use Rattle.sve_insn.specs.declared.ops.PlainOp.{PlainOp}
use Rattle.sve_insn.specs.declared.ops.PlainOp.TheVariants as plain_names
use Rattle.sve_insn.specs.declared.ops.LogicZOp.{LogicZOp}
use Rattle.sve_insn.specs.declared.ops.LogicZOp.TheVariants as logic_names
use Rattle.sve_insn.specs.declared.ops.DotOp.{DotOp}
use Rattle.sve_insn.specs.declared.ops.DotOp.TheVariants as dot_names
use Rattle.sve_insn.specs.declared.ops.WideImmOp.{WideImmOp}
use Rattle.sve_insn.specs.declared.ops.WideImmOp.TheVariants as wide_imm_names
use Rattle.sve_insn.specs.declared.ops.MinMaxImmOp.{MinMaxImmOp}
use Rattle.sve_insn.specs.declared.ops.MinMaxImmOp.TheVariants as min_max_names
use Rattle.sve_insn.specs.declared.ops.BitmaskZOp.{BitmaskZOp}
use Rattle.sve_insn.specs.declared.ops.BitmaskZOp.TheVariants as bitmask_names
pub use Rattle.lane_model.specs.Extended.{extended_by}
use Rattle.sve_effects.specs.declared.lane_functions.LaneOp.{LaneOp}
use Rattle.sve_effects.specs.declared.lane_functions.LaneOp.TheVariants.{Add, Sub, Smax, Umax, Smin, Umin, Sabd, Uabd, Mul, Smulh, Umulh, Sdiv, Udiv, Orr, Eor, And, Bic, Asr, Lsr, Lsl, Asrd, Sqadd, Uqadd, Sqsub, Uqsub, SqaddAmount, SqsubAmount}
use Rattle.sve_effects.specs.declared.lane_functions.LaneTest.{LaneTest}
use Rattle.sve_effects.specs.declared.lane_functions.LaneTest.TheVariants.{Eq, Ne, Ge, Gt, Lt, Le, Hs, Hi, Lo, Ls}

-- ---- whole numbers

-- the greater less the smaller
abbrev pub distance : ℤ → ℤ → ℕ
distance x y = unsigned_abs (x -ℤ y)

-- the nearest signed number of e bits
abbrev pub saturated_signed : ℕ → ℤ → ℕ
saturated_signed e z = unsigned_int (saturated z (neg_ℤ (pos (2 ^ (e - 1)))) (pos (2 ^ (e - 1) - 1))) e

-- the nearest unsigned number of e bits
abbrev pub saturated_unsigned : ℕ → ℤ → ℕ
saturated_unsigned e z = unsigned_int (saturated z (pos 0) (pos (2 ^ e - 1))) e

-- ---- functions of two operands

-- Operands a and b; b is the amount of a shift, any unsigned number: from e on, lsl and lsr give 0 and asr copies of
-- the sign.
abbrev pub lane_op : LaneOp → ℕ → ℕ → ℕ → ℕ
lane_op Add e a b = unsigned (a + b) e
lane_op Sub e a b = unsigned_int (pos a -ℤ pos b) e
lane_op Smax e a b = unsigned_int (int_max (signed a e) (signed b e)) e
lane_op Umax e a b = unsigned (max a b) e
lane_op Smin e a b = unsigned_int (int_min (signed a e) (signed b e)) e
lane_op Umin e a b = unsigned (min a b) e
lane_op Sabd e a b = unsigned (distance (signed a e) (signed b e)) e
lane_op Uabd e a b = unsigned (distance (pos a) (pos b)) e
lane_op Mul e a b = unsigned (a * b) e
lane_op Smulh e a b = unsigned_int (int_shr (signed a e *ℤ signed b e) e) e
lane_op Umulh e a b = unsigned (a * b / 2 ^ e) e
lane_op Sdiv e a b = signed_quotient e a b
lane_op Udiv e a b = unsigned (unsigned_quotient a b) e
lane_op Orr e a b = unsigned (bit_or a b) e
lane_op Eor e a b = unsigned (bit_xor a b) e
lane_op And e a b = unsigned (bit_and a b) e
lane_op Bic e a b = unsigned (bit_and a (complement e (unsigned b e))) e
lane_op Asr e a b = asr e a b
lane_op Lsr e a b = unsigned (lsr a b) e
lane_op Lsl e a b = lsl e a b
lane_op Asrd e a b = unsigned_int (quotient (signed a e) (pos (2 ^ b))) e
lane_op Sqadd e a b = saturated_signed e (signed a e +ℤ signed b e)
lane_op Uqadd e a b = saturated_unsigned e (pos a +ℤ pos b)
lane_op Sqsub e a b = saturated_signed e (signed a e -ℤ signed b e)
lane_op Uqsub e a b = saturated_unsigned e (pos a -ℤ pos b)
lane_op SqaddAmount e a b = saturated_signed e (signed a e +ℤ pos b)
lane_op SqsubAmount e a b = saturated_signed e (signed a e -ℤ pos b)

-- ---- comparisons

abbrev pub lane_test : LaneTest → ℕ → ℕ → ℕ → Bool
lane_test Eq e a b = nat_eq a b
lane_test Ne e a b = not (nat_eq a b)
lane_test Ge e a b = int_le (signed b e) (signed a e)
lane_test Gt e a b = int_lt (signed b e) (signed a e)
lane_test Lt e a b = int_lt (signed a e) (signed b e)
lane_test Le e a b = int_le (signed a e) (signed b e)
lane_test Hs e a b = nat_le b a
lane_test Hi e a b = nat_lt b a
lane_test Lo e a b = nat_lt a b
lane_test Ls e a b = nat_le a b

-- ---- functions of one operand

-- the low n bits, with zeros above
abbrev pub zero_extended : ℕ → ℕ → ℕ → ℕ
zero_extended e n a = unsigned (unsigned a n) e

-- the number of n parts of p bits, part j of them f j
abbrev pub number_of_parts : ℕ → ℕ → (ℕ → ℕ) → ℕ
number_of_parts p zero f = 0
number_of_parts p (suc n) f = number_of_parts p n f + f n * 2 ^ (p * n)

-- e bits with their parts of p bits in reverse order
abbrev pub reversed_parts : ℕ → ℕ → ℕ → ℕ
reversed_parts p e a = number_of_parts p (e / p) (λ j. field a (p * (e / p - 1 - j)) p)

abbrev pub unary_lane : UnaryOp → ℕ → ℕ → ℕ
unary_lane unary_names.Sxtb e a = sign_extended e 8 a
unary_lane unary_names.Uxtb e a = zero_extended e 8 a
unary_lane unary_names.Sxth e a = sign_extended e 16 a
unary_lane unary_names.Uxth e a = zero_extended e 16 a
unary_lane unary_names.Sxtw e a = sign_extended e 32 a
unary_lane unary_names.Uxtw e a = zero_extended e 32 a
unary_lane unary_names.Abs e a = unsigned (unsigned_abs (signed a e)) e
unary_lane unary_names.Neg e a = unsigned_int (neg_ℤ (pos a)) e
unary_lane unary_names.Cls e a = leading_copies e a
unary_lane unary_names.Clz e a = leading_zeros e a
unary_lane unary_names.Cnt e a = count_ones a
unary_lane unary_names.Cnot e a = bit (nat_eq a 0)
unary_lane unary_names.Not e a = complement e a
unary_lane unary_names.Revb e a = reversed_parts 8 e a
unary_lane unary_names.Revh e a = reversed_parts 16 e a
unary_lane unary_names.Revw e a = reversed_parts 32 e a
unary_lane unary_names.Rbit e a = reversed_bits e a

-- ---- products added and subtracted

-- c + a·b
abbrev pub multiply_add : ℕ → ℕ → ℕ → ℕ → ℕ
multiply_add e c a b = unsigned (c + a * b) e

-- c - a·b
abbrev pub multiply_subtract : ℕ → ℕ → ℕ → ℕ → ℕ
multiply_subtract e c a b = unsigned_int (pos c -ℤ pos (a * b)) e

abbrev pub multiply_z : MulAddZOp → ℕ → ℕ → ℕ → ℕ → ℕ
multiply_z mul_add_z_names.Mla e c a b = multiply_add e c a b
multiply_z mul_add_z_names.Mls e c a b = multiply_subtract e c a b

abbrev pub multiply_d : MulAddDOp → ℕ → ℕ → ℕ → ℕ → ℕ
multiply_d mul_add_d_names.Mad e c a b = multiply_add e c a b
multiply_d mul_add_d_names.Msb e c a b = multiply_subtract e c a b

-- ---- dot products

-- a number of e bits, read as signed or as unsigned
abbrev pub number_read : Bool → ℕ → ℕ → ℤ
number_read is_signed e a = if is_signed then signed a e else pos (unsigned a e)

-- quarter j of a lane, a number of e / 4 bits
abbrev pub quarter : Bool → ℕ → ℕ → ℕ → ℤ
quarter is_signed e a j = number_read is_signed (e / 4) (field a (e / 4 * j) (e / 4))

-- the product of quarters j
abbrev pub quarter_product : Bool → ℕ → ℕ → ℕ → ℕ → ℤ
quarter_product is_signed e a b j = quarter is_signed e a j *ℤ quarter is_signed e b j

-- c plus the sum of the products of the four quarters of a and b
abbrev pub dot_product : Bool → ℕ → ℕ → ℕ → ℕ → ℕ
dot_product is_signed e c a b =
    unsigned_int (pos c +ℤ (quarter_product is_signed e a b 0 +ℤ quarter_product is_signed e a b 1
    +ℤ quarter_product is_signed e a b 2 +ℤ quarter_product is_signed e a b 3)) e

-- whether a name reads the quarters as signed
abbrev pub dot_signed : DotOp → Bool
dot_signed dot_names.Sdot = true
dot_signed dot_names.Udot = false

-- ---- names to functions

-- the names with r take their operands in the other order
abbrev pub binary_lane : BinaryOp → ℕ → ℕ → ℕ → ℕ
binary_lane binary_names.Add e a b = lane_op Add e a b
binary_lane binary_names.Sub e a b = lane_op Sub e a b
binary_lane binary_names.Subr e a b = lane_op Sub e b a
binary_lane binary_names.Smax e a b = lane_op Smax e a b
binary_lane binary_names.Umax e a b = lane_op Umax e a b
binary_lane binary_names.Smin e a b = lane_op Smin e a b
binary_lane binary_names.Umin e a b = lane_op Umin e a b
binary_lane binary_names.Sabd e a b = lane_op Sabd e a b
binary_lane binary_names.Uabd e a b = lane_op Uabd e a b
binary_lane binary_names.Mul e a b = lane_op Mul e a b
binary_lane binary_names.Smulh e a b = lane_op Smulh e a b
binary_lane binary_names.Umulh e a b = lane_op Umulh e a b
binary_lane binary_names.Sdiv e a b = lane_op Sdiv e a b
binary_lane binary_names.Udiv e a b = lane_op Udiv e a b
binary_lane binary_names.Sdivr e a b = lane_op Sdiv e b a
binary_lane binary_names.Udivr e a b = lane_op Udiv e b a
binary_lane binary_names.Orr e a b = lane_op Orr e a b
binary_lane binary_names.Eor e a b = lane_op Eor e a b
binary_lane binary_names.And e a b = lane_op And e a b
binary_lane binary_names.Bic e a b = lane_op Bic e a b
binary_lane binary_names.Asr e a b = lane_op Asr e a b
binary_lane binary_names.Lsr e a b = lane_op Lsr e a b
binary_lane binary_names.Lsl e a b = lane_op Lsl e a b
binary_lane binary_names.Asrr e a b = lane_op Asr e b a
binary_lane binary_names.Lsrr e a b = lane_op Lsr e b a
binary_lane binary_names.Lslr e a b = lane_op Lsl e b a

abbrev pub shift_lane_op : ShiftOp → LaneOp
shift_lane_op shift_names.Asr = Asr
shift_lane_op shift_names.Lsr = Lsr
shift_lane_op shift_names.Lsl = Lsl

abbrev pub shift_imm_lane_op : ShiftImmOp → LaneOp
shift_imm_lane_op shift_imm_names.Asr = Asr
shift_imm_lane_op shift_imm_names.Lsr = Lsr
shift_imm_lane_op shift_imm_names.Lsl = Lsl
shift_imm_lane_op shift_imm_names.Asrd = Asrd

abbrev pub plain_lane_op : PlainOp → LaneOp
plain_lane_op plain_names.Add = Add
plain_lane_op plain_names.Sub = Sub
plain_lane_op plain_names.Sqadd = Sqadd
plain_lane_op plain_names.Uqadd = Uqadd
plain_lane_op plain_names.Sqsub = Sqsub
plain_lane_op plain_names.Uqsub = Uqsub

abbrev pub logic_lane_op : LogicZOp → LaneOp
logic_lane_op logic_names.And = And
logic_lane_op logic_names.Orr = Orr
logic_lane_op logic_names.Eor = Eor
logic_lane_op logic_names.Bic = Bic

-- an immediate is the unsigned number that it is, also beside a signed lane; subr takes the operands in the other order
abbrev pub wide_imm_lane : WideImmOp → ℕ → ℕ → ℕ → ℕ
wide_imm_lane wide_imm_names.Add e a b = lane_op Add e a b
wide_imm_lane wide_imm_names.Sub e a b = lane_op Sub e a b
wide_imm_lane wide_imm_names.Subr e a b = lane_op Sub e b a
wide_imm_lane wide_imm_names.Sqadd e a b = lane_op SqaddAmount e a b
wide_imm_lane wide_imm_names.Uqadd e a b = lane_op Uqadd e a b
wide_imm_lane wide_imm_names.Sqsub e a b = lane_op SqsubAmount e a b
wide_imm_lane wide_imm_names.Uqsub e a b = lane_op Uqsub e a b

-- an immediate of 8 bits is signed, but beside umax and umin
abbrev pub min_max : MinMaxImmOp → ℕ → ℕ → ℕ → ℕ
min_max min_max_names.Smax e a imm8 = lane_op Smax e a (sign_extended e 8 imm8)
min_max min_max_names.Smin e a imm8 = lane_op Smin e a (sign_extended e 8 imm8)
min_max min_max_names.Mul e a imm8 = lane_op Mul e a (sign_extended e 8 imm8)
min_max min_max_names.Umax e a imm8 = lane_op Umax e a imm8
min_max min_max_names.Umin e a imm8 = lane_op Umin e a imm8

-- a lane and a bitmask; dupm puts the bitmask in the lane
abbrev pub bitmask_lane_op : BitmaskZOp → ℕ → ℕ → ℕ
bitmask_lane_op bitmask_names.Orr a b = lane_op Orr 64 a b
bitmask_lane_op bitmask_names.Eor a b = lane_op Eor 64 a b
bitmask_lane_op bitmask_names.And a b = lane_op And 64 a b
bitmask_lane_op bitmask_names.Dupm a b = b
