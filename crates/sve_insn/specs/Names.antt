-- The names of the lines that have several, by their numbers in the line. The names are those of the entries of the Arm
-- Architecture Reference Manual for A-profile (DDI 0487), C8.2; their numbers are this project's own.
use Rattle.std.specs.Prelude.{ℕ, [], ◌∷◌}
use Rattle.emu_bits.specs.Rows.{named}
use Rattle.sve_insn.specs.declared.ops.BinaryOp.{BinaryOp}
use Rattle.sve_insn.specs.declared.ops.BinaryOp.TheVariants as binary
use Rattle.sve_insn.specs.declared.ops.ShiftOp.{ShiftOp}
use Rattle.sve_insn.specs.declared.ops.ShiftOp.TheVariants as shift
use Rattle.sve_insn.specs.declared.ops.ShiftImmOp.{ShiftImmOp}
use Rattle.sve_insn.specs.declared.ops.ShiftImmOp.TheVariants as shift_imm
use Rattle.sve_insn.specs.declared.ops.UnaryOp.{UnaryOp}
use Rattle.sve_insn.specs.declared.ops.UnaryOp.TheVariants as unary
use Rattle.sve_insn.specs.declared.ops.MulAddZOp.{MulAddZOp}
use Rattle.sve_insn.specs.declared.ops.MulAddZOp.TheVariants as mul_add_z
use Rattle.sve_insn.specs.declared.ops.MulAddDOp.{MulAddDOp}
use Rattle.sve_insn.specs.declared.ops.MulAddDOp.TheVariants as mul_add_d
use Rattle.sve_insn.specs.declared.ops.PlainOp.{PlainOp}
use Rattle.sve_insn.specs.declared.ops.PlainOp.TheVariants as plain
use Rattle.sve_insn.specs.declared.ops.LogicZOp.{LogicZOp}
use Rattle.sve_insn.specs.declared.ops.LogicZOp.TheVariants as logic_z
use Rattle.sve_insn.specs.declared.ops.IndexOp.{IndexOp}
use Rattle.sve_insn.specs.declared.ops.IndexOp.TheVariants as index
use Rattle.sve_insn.specs.declared.ops.DotOp.{DotOp}
use Rattle.sve_insn.specs.declared.ops.DotOp.TheVariants as dot
use Rattle.sve_insn.specs.declared.ops.DotIndexedOp.{DotIndexedOp}
use Rattle.sve_insn.specs.declared.ops.DotIndexedOp.TheVariants as dot_indexed
use Rattle.sve_insn.specs.declared.ops.WideImmOp.{WideImmOp}
use Rattle.sve_insn.specs.declared.ops.WideImmOp.TheVariants as wide_imm
use Rattle.sve_insn.specs.declared.ops.MinMaxImmOp.{MinMaxImmOp}
use Rattle.sve_insn.specs.declared.ops.MinMaxImmOp.TheVariants as min_max_imm
use Rattle.sve_insn.specs.declared.ops.BitmaskZOp.{BitmaskZOp}
use Rattle.sve_insn.specs.declared.ops.BitmaskZOp.TheVariants as bitmask_z
use Rattle.sve_insn.specs.declared.ops.ReduceOp.{ReduceOp}
use Rattle.sve_insn.specs.declared.ops.ReduceOp.TheVariants as reduce
use Rattle.sve_insn.specs.declared.ops.IncOp.{IncOp}
use Rattle.sve_insn.specs.declared.ops.IncOp.TheVariants as inc
use Rattle.sve_insn.specs.declared.ops.SatOp.{SatOp}
use Rattle.sve_insn.specs.declared.ops.SatOp.TheVariants as sat
use Rattle.sve_insn.specs.declared.ops.AddLengthOp.{AddLengthOp}
use Rattle.sve_insn.specs.declared.ops.AddLengthOp.TheVariants as add_length
use Rattle.sve_insn.specs.declared.ops.InsertOp.{InsertOp}
use Rattle.sve_insn.specs.declared.ops.InsertOp.TheVariants as insert
use Rattle.sve_insn.specs.declared.ops.UnpackOp.{UnpackOp}
use Rattle.sve_insn.specs.declared.ops.UnpackOp.TheVariants as unpack
use Rattle.sve_insn.specs.declared.ops.InterleaveOp.{InterleaveOp}
use Rattle.sve_insn.specs.declared.ops.InterleaveOp.TheVariants as interleave
use Rattle.sve_insn.specs.declared.ops.UnpackPOp.{UnpackPOp}
use Rattle.sve_insn.specs.declared.ops.UnpackPOp.TheVariants as unpack_p
use Rattle.sve_insn.specs.declared.ops.CopyRegOp.{CopyRegOp}
use Rattle.sve_insn.specs.declared.ops.CopyRegOp.TheVariants as copy_reg
use Rattle.sve_insn.specs.declared.ops.LastOp.{LastOp}
use Rattle.sve_insn.specs.declared.ops.LastOp.TheVariants as last
use Rattle.sve_insn.specs.declared.ops.CondLastOp.{CondLastOp}
use Rattle.sve_insn.specs.declared.ops.CondLastOp.TheVariants as cond_last
use Rattle.sve_insn.specs.declared.ops.CmpVecOp.{CmpVecOp}
use Rattle.sve_insn.specs.declared.ops.CmpVecOp.TheVariants as cmp_vec
use Rattle.sve_insn.specs.declared.ops.CmpWideOp.{CmpWideOp}
use Rattle.sve_insn.specs.declared.ops.CmpWideOp.TheVariants as cmp_wide
use Rattle.sve_insn.specs.declared.ops.CmpUImmOp.{CmpUImmOp}
use Rattle.sve_insn.specs.declared.ops.CmpUImmOp.TheVariants as cmp_u_imm
use Rattle.sve_insn.specs.declared.ops.CmpSImmOp.{CmpSImmOp}
use Rattle.sve_insn.specs.declared.ops.CmpSImmOp.TheVariants as cmp_s_imm
use Rattle.sve_insn.specs.declared.ops.LogicPOp.{LogicPOp}
use Rattle.sve_insn.specs.declared.ops.LogicPOp.TheVariants as logic_p
use Rattle.sve_insn.specs.declared.ops.BreakOp.{BreakOp}
use Rattle.sve_insn.specs.declared.ops.BreakOp.TheVariants as break
use Rattle.sve_insn.specs.declared.ops.BreakPairOp.{BreakPairOp}
use Rattle.sve_insn.specs.declared.ops.BreakPairOp.TheVariants as break_pair
use Rattle.sve_insn.specs.declared.ops.PtrueOp.{PtrueOp}
use Rattle.sve_insn.specs.declared.ops.PtrueOp.TheVariants as ptrue
use Rattle.sve_insn.specs.declared.ops.ReadFfrOp.{ReadFfrOp}
use Rattle.sve_insn.specs.declared.ops.ReadFfrOp.TheVariants as read_ffr
use Rattle.sve_insn.specs.declared.ops.WriteFfrOp.{WriteFfrOp}
use Rattle.sve_insn.specs.declared.ops.WriteFfrOp.TheVariants as write_ffr
use Rattle.sve_insn.specs.declared.ops.IncPOp.{IncPOp}
use Rattle.sve_insn.specs.declared.ops.IncPOp.TheVariants as inc_p
use Rattle.sve_insn.specs.declared.ops.WhileOp.{WhileOp}
use Rattle.sve_insn.specs.declared.ops.WhileOp.TheVariants as while
use Rattle.sve_insn.specs.declared.ops.CtermOp.{CtermOp}
use Rattle.sve_insn.specs.declared.ops.CtermOp.TheVariants as cterm
use Rattle.sve_insn.specs.declared.ops.LoadManyOp.{LoadManyOp}
use Rattle.sve_insn.specs.declared.ops.LoadManyOp.TheVariants as load_many
use Rattle.sve_insn.specs.declared.ops.StoreManyOp.{StoreManyOp}
use Rattle.sve_insn.specs.declared.ops.StoreManyOp.TheVariants as store_many

abbrev pub binary_named : ℕ → BinaryOp
binary_named k = named binary.Add (binary.Sub ∷ binary.Subr ∷ binary.Smax ∷ binary.Umax ∷ binary.Smin ∷ binary.Umin
    ∷ binary.Sabd ∷ binary.Uabd ∷ binary.Mul ∷ binary.Smulh ∷ binary.Umulh ∷ binary.Sdiv ∷ binary.Udiv ∷ binary.Sdivr
    ∷ binary.Udivr ∷ binary.Orr ∷ binary.Eor ∷ binary.And ∷ binary.Bic ∷ binary.Asr ∷ binary.Lsr ∷ binary.Lsl
    ∷ binary.Asrr ∷ binary.Lsrr ∷ binary.Lslr ∷ []) k

abbrev pub shift_named : ℕ → ShiftOp
shift_named k = named shift.Asr (shift.Lsr ∷ shift.Lsl ∷ []) k

abbrev pub shift_imm_named : ℕ → ShiftImmOp
shift_imm_named k = named shift_imm.Asr (shift_imm.Lsr ∷ shift_imm.Lsl ∷ shift_imm.Asrd ∷ []) k

abbrev pub unary_named : ℕ → UnaryOp
unary_named k = named unary.Sxtb (unary.Uxtb ∷ unary.Sxth ∷ unary.Uxth ∷ unary.Sxtw ∷ unary.Uxtw ∷ unary.Abs ∷ unary.Neg
    ∷ unary.Cls ∷ unary.Clz ∷ unary.Cnt ∷ unary.Cnot ∷ unary.Not ∷ unary.Revb ∷ unary.Revh ∷ unary.Revw
    ∷ unary.Rbit ∷ []) k

abbrev pub mul_add_z_named : ℕ → MulAddZOp
mul_add_z_named k = named mul_add_z.Mla (mul_add_z.Mls ∷ []) k

abbrev pub mul_add_d_named : ℕ → MulAddDOp
mul_add_d_named k = named mul_add_d.Mad (mul_add_d.Msb ∷ []) k

abbrev pub plain_named : ℕ → PlainOp
plain_named k = named plain.Add (plain.Sub ∷ plain.Sqadd ∷ plain.Uqadd ∷ plain.Sqsub ∷ plain.Uqsub ∷ []) k

abbrev pub logic_z_named : ℕ → LogicZOp
logic_z_named k = named logic_z.And (logic_z.Orr ∷ logic_z.Eor ∷ logic_z.Bic ∷ []) k

abbrev pub index_named : ℕ → IndexOp
index_named k = named index.ImmImm (index.RegImm ∷ index.ImmReg ∷ index.RegReg ∷ []) k

abbrev pub dot_named : ℕ → DotOp
dot_named k = named dot.Sdot (dot.Udot ∷ []) k

abbrev pub dot_indexed_named : ℕ → DotIndexedOp
dot_indexed_named k = named dot_indexed.SdotS (dot_indexed.UdotS ∷ dot_indexed.SdotD ∷ dot_indexed.UdotD ∷ []) k

abbrev pub wide_imm_named : ℕ → WideImmOp
wide_imm_named k = named wide_imm.Add (wide_imm.Sub ∷ wide_imm.Subr ∷ wide_imm.Sqadd ∷ wide_imm.Uqadd ∷ wide_imm.Sqsub
    ∷ wide_imm.Uqsub ∷ []) k

abbrev pub min_max_imm_named : ℕ → MinMaxImmOp
min_max_imm_named k =
    named min_max_imm.Smax (min_max_imm.Smin ∷ min_max_imm.Mul ∷ min_max_imm.Umax ∷ min_max_imm.Umin ∷ []) k

abbrev pub bitmask_z_named : ℕ → BitmaskZOp
bitmask_z_named k = named bitmask_z.Orr (bitmask_z.Eor ∷ bitmask_z.And ∷ bitmask_z.Dupm ∷ []) k

abbrev pub reduce_named : ℕ → ReduceOp
reduce_named k = named reduce.Saddv (reduce.Uaddv ∷ reduce.Smaxv ∷ reduce.Umaxv ∷ reduce.Sminv ∷ reduce.Uminv
    ∷ reduce.Orv ∷ reduce.Eorv ∷ reduce.Andv ∷ []) k

abbrev pub inc_named : ℕ → IncOp
inc_named k = named inc.Inc (inc.Dec ∷ []) k

abbrev pub sat_named : ℕ → SatOp
sat_named k = named sat.Sqinc (sat.Uqinc ∷ sat.Sqdec ∷ sat.Uqdec ∷ []) k

abbrev pub add_length_named : ℕ → AddLengthOp
add_length_named k = named add_length.Addvl (add_length.Addpl ∷ []) k

abbrev pub insert_named : ℕ → InsertOp
insert_named k = named insert.InsrR (insert.InsrV ∷ []) k

abbrev pub unpack_named : ℕ → UnpackOp
unpack_named k = named unpack.Sunpklo (unpack.Sunpkhi ∷ unpack.Uunpklo ∷ unpack.Uunpkhi ∷ []) k

abbrev pub interleave_named : ℕ → InterleaveOp
interleave_named k = named interleave.Zip1 (interleave.Zip2 ∷ interleave.Uzp1 ∷ interleave.Uzp2 ∷ interleave.Trn1
    ∷ interleave.Trn2 ∷ []) k

abbrev pub unpack_p_named : ℕ → UnpackPOp
unpack_p_named k = named unpack_p.Punpklo (unpack_p.Punpkhi ∷ []) k

abbrev pub copy_reg_named : ℕ → CopyRegOp
copy_reg_named k = named copy_reg.CpyR (copy_reg.CpyV ∷ []) k

abbrev pub last_named : ℕ → LastOp
last_named k = named last.LastaR (last.LastbR ∷ last.LastaV ∷ last.LastbV ∷ []) k

abbrev pub cond_last_named : ℕ → CondLastOp
cond_last_named k = named cond_last.ClastaR (cond_last.ClastbR ∷ cond_last.ClastaV ∷ cond_last.ClastbV
    ∷ cond_last.ClastaZ ∷ cond_last.ClastbZ ∷ []) k

abbrev pub cmp_vec_named : ℕ → CmpVecOp
cmp_vec_named k =
    named cmp_vec.Cmphs (cmp_vec.Cmphi ∷ cmp_vec.Cmpge ∷ cmp_vec.Cmpgt ∷ cmp_vec.Cmpeq ∷ cmp_vec.Cmpne ∷ []) k

abbrev pub cmp_wide_named : ℕ → CmpWideOp
cmp_wide_named k = named cmp_wide.Cmpeq (cmp_wide.Cmpne ∷ cmp_wide.Cmpge ∷ cmp_wide.Cmpgt ∷ cmp_wide.Cmplt
    ∷ cmp_wide.Cmple ∷ cmp_wide.Cmphs ∷ cmp_wide.Cmphi ∷ cmp_wide.Cmplo ∷ cmp_wide.Cmpls ∷ []) k

abbrev pub cmp_u_imm_named : ℕ → CmpUImmOp
cmp_u_imm_named k = named cmp_u_imm.Cmphs (cmp_u_imm.Cmphi ∷ cmp_u_imm.Cmplo ∷ cmp_u_imm.Cmpls ∷ []) k

abbrev pub cmp_s_imm_named : ℕ → CmpSImmOp
cmp_s_imm_named k = named cmp_s_imm.Cmpge (cmp_s_imm.Cmpgt ∷ cmp_s_imm.Cmplt ∷ cmp_s_imm.Cmple ∷ cmp_s_imm.Cmpeq
    ∷ cmp_s_imm.Cmpne ∷ []) k

abbrev pub logic_p_named : ℕ → LogicPOp
logic_p_named k =
    named logic_p.And (logic_p.Bic ∷ logic_p.Eor ∷ logic_p.Orr ∷ logic_p.Orn ∷ logic_p.Nor ∷ logic_p.Nand ∷ []) k

abbrev pub break_named : ℕ → BreakOp
break_named k = named break.Brka (break.Brkb ∷ []) k

abbrev pub break_pair_named : ℕ → BreakPairOp
break_pair_named k = named break_pair.Brkpa (break_pair.Brkpb ∷ []) k

abbrev pub ptrue_named : ℕ → PtrueOp
ptrue_named k = named ptrue.Ptrue (ptrue.Ptrues ∷ []) k

abbrev pub read_ffr_named : ℕ → ReadFfrOp
read_ffr_named k = named read_ffr.Rdffr (read_ffr.Rdffrs ∷ []) k

abbrev pub write_ffr_named : ℕ → WriteFfrOp
write_ffr_named k = named write_ffr.Setffr (write_ffr.Wrffr ∷ []) k

abbrev pub inc_p_named : ℕ → IncPOp
inc_p_named k = named inc_p.Incp (inc_p.Decp ∷ []) k

abbrev pub while_named : ℕ → WhileOp
while_named k = named while.Whilelt (while.Whilele ∷ while.Whilelo ∷ while.Whilels ∷ []) k

abbrev pub cterm_named : ℕ → CtermOp
cterm_named k = named cterm.Ctermeq (cterm.Ctermne ∷ []) k

abbrev pub load_many_named : ℕ → LoadManyOp
load_many_named k = named load_many.Ld2 (load_many.Ld3 ∷ load_many.Ld4 ∷ []) k

abbrev pub store_many_named : ℕ → StoreManyOp
store_many_named k = named store_many.St2 (store_many.St3 ∷ store_many.St4 ∷ []) k
