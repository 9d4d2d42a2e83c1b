-- The numbers of names in their lines.
use Rattle.std.specs.Prelude.{ℕ}
use Rattle.sve_insn.specs.declared.ops.BinaryOp.{BinaryOp}
use Rattle.sve_insn.specs.declared.ops.BinaryOp.TheVariants as binary_names
use Rattle.sve_insn.specs.declared.ops.ShiftOp.{ShiftOp}
use Rattle.sve_insn.specs.declared.ops.ShiftOp.TheVariants as shift_names
use Rattle.sve_insn.specs.declared.ops.ShiftImmOp.{ShiftImmOp}
use Rattle.sve_insn.specs.declared.ops.ShiftImmOp.TheVariants as shift_imm_names
use Rattle.sve_insn.specs.declared.ops.UnaryOp.{UnaryOp}
use Rattle.sve_insn.specs.declared.ops.UnaryOp.TheVariants as unary_names
use Rattle.sve_insn.specs.declared.ops.MulAddZOp.{MulAddZOp}
use Rattle.sve_insn.specs.declared.ops.MulAddZOp.TheVariants as mul_add_z_names
use Rattle.sve_insn.specs.declared.ops.MulAddDOp.{MulAddDOp}
use Rattle.sve_insn.specs.declared.ops.MulAddDOp.TheVariants as mul_add_d_names
use Rattle.sve_insn.specs.declared.ops.PlainOp.{PlainOp}
use Rattle.sve_insn.specs.declared.ops.PlainOp.TheVariants as plain_names
use Rattle.sve_insn.specs.declared.ops.LogicZOp.{LogicZOp}
use Rattle.sve_insn.specs.declared.ops.LogicZOp.TheVariants as logic_z_names
use Rattle.sve_insn.specs.declared.ops.IndexOp.{IndexOp}
use Rattle.sve_insn.specs.declared.ops.IndexOp.TheVariants as index_names
use Rattle.sve_insn.specs.declared.ops.DotOp.{DotOp}
use Rattle.sve_insn.specs.declared.ops.DotOp.TheVariants as dot_names
use Rattle.sve_insn.specs.declared.ops.DotIndexedOp.{DotIndexedOp}
use Rattle.sve_insn.specs.declared.ops.DotIndexedOp.TheVariants as dot_indexed_names
use Rattle.sve_insn.specs.declared.ops.WideImmOp.{WideImmOp}
use Rattle.sve_insn.specs.declared.ops.WideImmOp.TheVariants as wide_imm_names
use Rattle.sve_insn.specs.declared.ops.MinMaxImmOp.{MinMaxImmOp}
use Rattle.sve_insn.specs.declared.ops.MinMaxImmOp.TheVariants as min_max_imm_names
use Rattle.sve_insn.specs.declared.ops.BitmaskZOp.{BitmaskZOp}
use Rattle.sve_insn.specs.declared.ops.BitmaskZOp.TheVariants as bitmask_z_names
use Rattle.sve_insn.specs.declared.ops.ReduceOp.{ReduceOp}
use Rattle.sve_insn.specs.declared.ops.ReduceOp.TheVariants as reduce_names
use Rattle.sve_insn.specs.declared.ops.IncOp.{IncOp}
use Rattle.sve_insn.specs.declared.ops.IncOp.TheVariants as inc_names
use Rattle.sve_insn.specs.declared.ops.SatOp.{SatOp}
use Rattle.sve_insn.specs.declared.ops.SatOp.TheVariants as sat_names
use Rattle.sve_insn.specs.declared.ops.AddLengthOp.{AddLengthOp}
use Rattle.sve_insn.specs.declared.ops.AddLengthOp.TheVariants as add_length_names
use Rattle.sve_insn.specs.declared.ops.InsertOp.{InsertOp}
use Rattle.sve_insn.specs.declared.ops.InsertOp.TheVariants as insert_names
use Rattle.sve_insn.specs.declared.ops.UnpackOp.{UnpackOp}
use Rattle.sve_insn.specs.declared.ops.UnpackOp.TheVariants as unpack_names
use Rattle.sve_insn.specs.declared.ops.InterleaveOp.{InterleaveOp}
use Rattle.sve_insn.specs.declared.ops.InterleaveOp.TheVariants as interleave_names
use Rattle.sve_insn.specs.declared.ops.UnpackPOp.{UnpackPOp}
use Rattle.sve_insn.specs.declared.ops.UnpackPOp.TheVariants as unpack_p_names
use Rattle.sve_insn.specs.declared.ops.CopyRegOp.{CopyRegOp}
use Rattle.sve_insn.specs.declared.ops.CopyRegOp.TheVariants as copy_reg_names
use Rattle.sve_insn.specs.declared.ops.LastOp.{LastOp}
use Rattle.sve_insn.specs.declared.ops.LastOp.TheVariants as last_names
use Rattle.sve_insn.specs.declared.ops.CondLastOp.{CondLastOp}
use Rattle.sve_insn.specs.declared.ops.CondLastOp.TheVariants as cond_last_names
use Rattle.sve_insn.specs.declared.ops.CmpVecOp.{CmpVecOp}
use Rattle.sve_insn.specs.declared.ops.CmpVecOp.TheVariants as cmp_vec_names
use Rattle.sve_insn.specs.declared.ops.CmpWideOp.{CmpWideOp}
use Rattle.sve_insn.specs.declared.ops.CmpWideOp.TheVariants as cmp_wide_names
use Rattle.sve_insn.specs.declared.ops.CmpUImmOp.{CmpUImmOp}
use Rattle.sve_insn.specs.declared.ops.CmpUImmOp.TheVariants as cmp_u_imm_names
use Rattle.sve_insn.specs.declared.ops.CmpSImmOp.{CmpSImmOp}
use Rattle.sve_insn.specs.declared.ops.CmpSImmOp.TheVariants as cmp_s_imm_names
use Rattle.sve_insn.specs.declared.ops.LogicPOp.{LogicPOp}
use Rattle.sve_insn.specs.declared.ops.LogicPOp.TheVariants as logic_p_names
use Rattle.sve_insn.specs.declared.ops.BreakOp.{BreakOp}
use Rattle.sve_insn.specs.declared.ops.BreakOp.TheVariants as break_names
use Rattle.sve_insn.specs.declared.ops.BreakPairOp.{BreakPairOp}
use Rattle.sve_insn.specs.declared.ops.BreakPairOp.TheVariants as break_pair_names
use Rattle.sve_insn.specs.declared.ops.PtrueOp.{PtrueOp}
use Rattle.sve_insn.specs.declared.ops.PtrueOp.TheVariants as ptrue_names
use Rattle.sve_insn.specs.declared.ops.ReadFfrOp.{ReadFfrOp}
use Rattle.sve_insn.specs.declared.ops.ReadFfrOp.TheVariants as read_ffr_names
use Rattle.sve_insn.specs.declared.ops.WriteFfrOp.{WriteFfrOp}
use Rattle.sve_insn.specs.declared.ops.WriteFfrOp.TheVariants as write_ffr_names
use Rattle.sve_insn.specs.declared.ops.IncPOp.{IncPOp}
use Rattle.sve_insn.specs.declared.ops.IncPOp.TheVariants as inc_p_names
use Rattle.sve_insn.specs.declared.ops.WhileOp.{WhileOp}
use Rattle.sve_insn.specs.declared.ops.WhileOp.TheVariants as while_names
use Rattle.sve_insn.specs.declared.ops.CtermOp.{CtermOp}
use Rattle.sve_insn.specs.declared.ops.CtermOp.TheVariants as cterm_names
use Rattle.sve_insn.specs.declared.ops.LoadManyOp.{LoadManyOp}
use Rattle.sve_insn.specs.declared.ops.LoadManyOp.TheVariants as load_many_names
use Rattle.sve_insn.specs.declared.ops.StoreManyOp.{StoreManyOp}
use Rattle.sve_insn.specs.declared.ops.StoreManyOp.TheVariants as store_many_names

abbrev pub binary_number : BinaryOp → ℕ
binary_number binary_names.Add = 0
binary_number binary_names.Sub = 1
binary_number binary_names.Subr = 2
binary_number binary_names.Smax = 3
binary_number binary_names.Umax = 4
binary_number binary_names.Smin = 5
binary_number binary_names.Umin = 6
binary_number binary_names.Sabd = 7
binary_number binary_names.Uabd = 8
binary_number binary_names.Mul = 9
binary_number binary_names.Smulh = 10
binary_number binary_names.Umulh = 11
binary_number binary_names.Sdiv = 12
binary_number binary_names.Udiv = 13
binary_number binary_names.Sdivr = 14
binary_number binary_names.Udivr = 15
binary_number binary_names.Orr = 16
binary_number binary_names.Eor = 17
binary_number binary_names.And = 18
binary_number binary_names.Bic = 19
binary_number binary_names.Asr = 20
binary_number binary_names.Lsr = 21
binary_number binary_names.Lsl = 22
binary_number binary_names.Asrr = 23
binary_number binary_names.Lsrr = 24
binary_number binary_names.Lslr = 25

abbrev pub shift_number : ShiftOp → ℕ
shift_number shift_names.Asr = 0
shift_number shift_names.Lsr = 1
shift_number shift_names.Lsl = 2

abbrev pub shift_imm_number : ShiftImmOp → ℕ
shift_imm_number shift_imm_names.Asr = 0
shift_imm_number shift_imm_names.Lsr = 1
shift_imm_number shift_imm_names.Lsl = 2
shift_imm_number shift_imm_names.Asrd = 3

abbrev pub unary_number : UnaryOp → ℕ
unary_number unary_names.Sxtb = 0
unary_number unary_names.Uxtb = 1
unary_number unary_names.Sxth = 2
unary_number unary_names.Uxth = 3
unary_number unary_names.Sxtw = 4
unary_number unary_names.Uxtw = 5
unary_number unary_names.Abs = 6
unary_number unary_names.Neg = 7
unary_number unary_names.Cls = 8
unary_number unary_names.Clz = 9
unary_number unary_names.Cnt = 10
unary_number unary_names.Cnot = 11
unary_number unary_names.Not = 12
unary_number unary_names.Revb = 13
unary_number unary_names.Revh = 14
unary_number unary_names.Revw = 15
unary_number unary_names.Rbit = 16

abbrev pub mul_add_z_number : MulAddZOp → ℕ
mul_add_z_number mul_add_z_names.Mla = 0
mul_add_z_number mul_add_z_names.Mls = 1

abbrev pub mul_add_d_number : MulAddDOp → ℕ
mul_add_d_number mul_add_d_names.Mad = 0
mul_add_d_number mul_add_d_names.Msb = 1

abbrev pub plain_number : PlainOp → ℕ
plain_number plain_names.Add = 0
plain_number plain_names.Sub = 1
plain_number plain_names.Sqadd = 2
plain_number plain_names.Uqadd = 3
plain_number plain_names.Sqsub = 4
plain_number plain_names.Uqsub = 5

abbrev pub logic_z_number : LogicZOp → ℕ
logic_z_number logic_z_names.And = 0
logic_z_number logic_z_names.Orr = 1
logic_z_number logic_z_names.Eor = 2
logic_z_number logic_z_names.Bic = 3

abbrev pub index_number : IndexOp → ℕ
index_number index_names.ImmImm = 0
index_number index_names.RegImm = 1
index_number index_names.ImmReg = 2
index_number index_names.RegReg = 3

abbrev pub dot_number : DotOp → ℕ
dot_number dot_names.Sdot = 0
dot_number dot_names.Udot = 1

abbrev pub dot_indexed_number : DotIndexedOp → ℕ
dot_indexed_number dot_indexed_names.SdotS = 0
dot_indexed_number dot_indexed_names.UdotS = 1
dot_indexed_number dot_indexed_names.SdotD = 2
dot_indexed_number dot_indexed_names.UdotD = 3

abbrev pub wide_imm_number : WideImmOp → ℕ
wide_imm_number wide_imm_names.Add = 0
wide_imm_number wide_imm_names.Sub = 1
wide_imm_number wide_imm_names.Subr = 2
wide_imm_number wide_imm_names.Sqadd = 3
wide_imm_number wide_imm_names.Uqadd = 4
wide_imm_number wide_imm_names.Sqsub = 5
wide_imm_number wide_imm_names.Uqsub = 6

abbrev pub min_max_imm_number : MinMaxImmOp → ℕ
min_max_imm_number min_max_imm_names.Smax = 0
min_max_imm_number min_max_imm_names.Smin = 1
min_max_imm_number min_max_imm_names.Mul = 2
min_max_imm_number min_max_imm_names.Umax = 3
min_max_imm_number min_max_imm_names.Umin = 4

abbrev pub bitmask_z_number : BitmaskZOp → ℕ
bitmask_z_number bitmask_z_names.Orr = 0
bitmask_z_number bitmask_z_names.Eor = 1
bitmask_z_number bitmask_z_names.And = 2
bitmask_z_number bitmask_z_names.Dupm = 3

abbrev pub reduce_number : ReduceOp → ℕ
reduce_number reduce_names.Saddv = 0
reduce_number reduce_names.Uaddv = 1
reduce_number reduce_names.Smaxv = 2
reduce_number reduce_names.Umaxv = 3
reduce_number reduce_names.Sminv = 4
reduce_number reduce_names.Uminv = 5
reduce_number reduce_names.Orv = 6
reduce_number reduce_names.Eorv = 7
reduce_number reduce_names.Andv = 8

abbrev pub inc_number : IncOp → ℕ
inc_number inc_names.Inc = 0
inc_number inc_names.Dec = 1

abbrev pub sat_number : SatOp → ℕ
sat_number sat_names.Sqinc = 0
sat_number sat_names.Uqinc = 1
sat_number sat_names.Sqdec = 2
sat_number sat_names.Uqdec = 3

abbrev pub add_length_number : AddLengthOp → ℕ
add_length_number add_length_names.Addvl = 0
add_length_number add_length_names.Addpl = 1

abbrev pub insert_number : InsertOp → ℕ
insert_number insert_names.InsrR = 0
insert_number insert_names.InsrV = 1

abbrev pub unpack_number : UnpackOp → ℕ
unpack_number unpack_names.Sunpklo = 0
unpack_number unpack_names.Sunpkhi = 1
unpack_number unpack_names.Uunpklo = 2
unpack_number unpack_names.Uunpkhi = 3

abbrev pub interleave_number : InterleaveOp → ℕ
interleave_number interleave_names.Zip1 = 0
interleave_number interleave_names.Zip2 = 1
interleave_number interleave_names.Uzp1 = 2
interleave_number interleave_names.Uzp2 = 3
interleave_number interleave_names.Trn1 = 4
interleave_number interleave_names.Trn2 = 5

abbrev pub unpack_p_number : UnpackPOp → ℕ
unpack_p_number unpack_p_names.Punpklo = 0
unpack_p_number unpack_p_names.Punpkhi = 1

abbrev pub copy_reg_number : CopyRegOp → ℕ
copy_reg_number copy_reg_names.CpyR = 0
copy_reg_number copy_reg_names.CpyV = 1

abbrev pub last_number : LastOp → ℕ
last_number last_names.LastaR = 0
last_number last_names.LastbR = 1
last_number last_names.LastaV = 2
last_number last_names.LastbV = 3

abbrev pub cond_last_number : CondLastOp → ℕ
cond_last_number cond_last_names.ClastaR = 0
cond_last_number cond_last_names.ClastbR = 1
cond_last_number cond_last_names.ClastaV = 2
cond_last_number cond_last_names.ClastbV = 3
cond_last_number cond_last_names.ClastaZ = 4
cond_last_number cond_last_names.ClastbZ = 5

abbrev pub cmp_vec_number : CmpVecOp → ℕ
cmp_vec_number cmp_vec_names.Cmphs = 0
cmp_vec_number cmp_vec_names.Cmphi = 1
cmp_vec_number cmp_vec_names.Cmpge = 2
cmp_vec_number cmp_vec_names.Cmpgt = 3
cmp_vec_number cmp_vec_names.Cmpeq = 4
cmp_vec_number cmp_vec_names.Cmpne = 5

abbrev pub cmp_wide_number : CmpWideOp → ℕ
cmp_wide_number cmp_wide_names.Cmpeq = 0
cmp_wide_number cmp_wide_names.Cmpne = 1
cmp_wide_number cmp_wide_names.Cmpge = 2
cmp_wide_number cmp_wide_names.Cmpgt = 3
cmp_wide_number cmp_wide_names.Cmplt = 4
cmp_wide_number cmp_wide_names.Cmple = 5
cmp_wide_number cmp_wide_names.Cmphs = 6
cmp_wide_number cmp_wide_names.Cmphi = 7
cmp_wide_number cmp_wide_names.Cmplo = 8
cmp_wide_number cmp_wide_names.Cmpls = 9

abbrev pub cmp_u_imm_number : CmpUImmOp → ℕ
cmp_u_imm_number cmp_u_imm_names.Cmphs = 0
cmp_u_imm_number cmp_u_imm_names.Cmphi = 1
cmp_u_imm_number cmp_u_imm_names.Cmplo = 2
cmp_u_imm_number cmp_u_imm_names.Cmpls = 3

abbrev pub cmp_s_imm_number : CmpSImmOp → ℕ
cmp_s_imm_number cmp_s_imm_names.Cmpge = 0
cmp_s_imm_number cmp_s_imm_names.Cmpgt = 1
cmp_s_imm_number cmp_s_imm_names.Cmplt = 2
cmp_s_imm_number cmp_s_imm_names.Cmple = 3
cmp_s_imm_number cmp_s_imm_names.Cmpeq = 4
cmp_s_imm_number cmp_s_imm_names.Cmpne = 5

abbrev pub logic_p_number : LogicPOp → ℕ
logic_p_number logic_p_names.And = 0
logic_p_number logic_p_names.Bic = 1
logic_p_number logic_p_names.Eor = 2
logic_p_number logic_p_names.Orr = 3
logic_p_number logic_p_names.Orn = 4
logic_p_number logic_p_names.Nor = 5
logic_p_number logic_p_names.Nand = 6

abbrev pub break_number : BreakOp → ℕ
break_number break_names.Brka = 0
break_number break_names.Brkb = 1

abbrev pub break_pair_number : BreakPairOp → ℕ
break_pair_number break_pair_names.Brkpa = 0
break_pair_number break_pair_names.Brkpb = 1

abbrev pub ptrue_number : PtrueOp → ℕ
ptrue_number ptrue_names.Ptrue = 0
ptrue_number ptrue_names.Ptrues = 1

abbrev pub read_ffr_number : ReadFfrOp → ℕ
read_ffr_number read_ffr_names.Rdffr = 0
read_ffr_number read_ffr_names.Rdffrs = 1

abbrev pub write_ffr_number : WriteFfrOp → ℕ
write_ffr_number write_ffr_names.Setffr = 0
write_ffr_number write_ffr_names.Wrffr = 1

abbrev pub inc_p_number : IncPOp → ℕ
inc_p_number inc_p_names.Incp = 0
inc_p_number inc_p_names.Decp = 1

abbrev pub while_number : WhileOp → ℕ
while_number while_names.Whilelt = 0
while_number while_names.Whilele = 1
while_number while_names.Whilelo = 2
while_number while_names.Whilels = 3

abbrev pub cterm_number : CtermOp → ℕ
cterm_number cterm_names.Ctermeq = 0
cterm_number cterm_names.Ctermne = 1

abbrev pub load_many_number : LoadManyOp → ℕ
load_many_number load_many_names.Ld2 = 0
load_many_number load_many_names.Ld3 = 1
load_many_number load_many_names.Ld4 = 2

abbrev pub store_many_number : StoreManyOp → ℕ
store_many_number store_many_names.St2 = 0
store_many_number store_many_names.St3 = 1
store_many_number store_many_names.St4 = 2
