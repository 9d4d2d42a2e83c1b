-- A form is the form of its row.
use Rattle.sve_insn.specs.Opened.{lines_open}
use Rattle.sve_insn.specs.Rows.{row_of}
use Rattle.std.proofs.Common.{◌≡◌, Bool, true, false, refl, ap, ◌∙◌, ◌==◌}
use Rattle.emu_bits.specs.Fields.{bit}
use Rattle.emu_bits.specs.Rows.{form_of}
use Rattle.sve_insn.specs.declared.form.SveForm.{SveForm}
use Rattle.sve_insn.specs.declared.form.SveForm.TheVariants.{Binary, BinaryWide, ShiftImm, Unary, MulAddZ, MulAddD, Plain, LogicZ, PlainWide, PlainShift, Index, Dot, DotIndexed, WideImm, MinMaxImm, DupImm, BitmaskZ, CopyImm, PrefixP, Reduce, IncX, IncZ, SatX, SatZ, AddLength, Insert, Unpack, Interleave, InterleaveP, UnpackP, CopyReg, Last, CondLast, CmpVec, CmpWide, CmpUImm, CmpSImm, LogicP, Break, BreakPair, BreakNext, Ptrue, ReadFfr, WriteFfr, IncP, IncPZ, While, Cterm, LoadManyImm, LoadManyReg, StoreManyImm, StoreManyReg, GatherSx, GatherSxScaled, GatherDx, GatherDxScaled, GatherD, GatherDScaled, GatherSv, GatherDv, ScatterSx, ScatterSxScaled, ScatterDx, ScatterDxScaled}
use Rattle.sve_insn.specs.Names.{add_length_named, binary_named, bitmask_z_named, break_named, break_pair_named, cmp_s_imm_named, cmp_u_imm_named, cmp_vec_named, cmp_wide_named, cond_last_named, copy_reg_named, cterm_named, dot_named, dot_indexed_named, inc_named, inc_p_named, index_named, insert_named, interleave_named, last_named, load_many_named, logic_p_named, logic_z_named, min_max_imm_named, mul_add_d_named, mul_add_z_named, plain_named, ptrue_named, read_ffr_named, reduce_named, sat_named, shift_named, shift_imm_named, store_many_named, unary_named, unpack_named, unpack_p_named, while_named, wide_imm_named, write_ffr_named}
use Rattle.sve_insn.specs.Numbers.{add_length_number, binary_number, bitmask_z_number, break_number, break_pair_number, cmp_s_imm_number, cmp_u_imm_number, cmp_vec_number, cmp_wide_number, cond_last_number, copy_reg_number, cterm_number, dot_number, dot_indexed_number, inc_number, inc_p_number, index_number, insert_number, interleave_number, last_number, load_many_number, logic_p_number, logic_z_number, min_max_imm_number, mul_add_d_number, mul_add_z_number, plain_number, ptrue_number, read_ffr_number, reduce_number, sat_number, shift_number, shift_imm_number, store_many_number, unary_number, unpack_number, unpack_p_number, while_number, wide_imm_number, write_ffr_number}
use Rattle.sve_insn.specs.declared.ops.BinaryOp.{BinaryOp}
use Rattle.sve_insn.specs.declared.ops.BinaryOp.TheVariants as binary_names
use Rattle.sve_insn.specs.declared.ops.ShiftOp.{ShiftOp}
use Rattle.sve_insn.specs.declared.ops.ShiftOp.TheVariants as shift_names
use Rattle.sve_insn.specs.declared.ops.ShiftImmOp.{ShiftImmOp}
use Rattle.sve_insn.specs.declared.ops.ShiftImmOp.TheVariants as shift_imm_names
use Rattle.sve_insn.specs.declared.ops.UnaryOp.{UnaryOp}
use Rattle.sve_insn.specs.declared.ops.UnaryOp.TheVariants as unary_names
use Rattle.sve_insn.specs.declared.ops.MulAddZOp.{MulAddZOp}
use Rattle.sve_insn.specs.declared.ops.MulAddZOp.TheVariants as mul_add_z_names
use Rattle.sve_insn.specs.declared.ops.MulAddDOp.{MulAddDOp}
use Rattle.sve_insn.specs.declared.ops.MulAddDOp.TheVariants as mul_add_d_names
use Rattle.sve_insn.specs.declared.ops.PlainOp.{PlainOp}
use Rattle.sve_insn.specs.declared.ops.PlainOp.TheVariants as plain_names
use Rattle.sve_insn.specs.declared.ops.LogicZOp.{LogicZOp}
use Rattle.sve_insn.specs.declared.ops.LogicZOp.TheVariants as logic_z_names
use Rattle.sve_insn.specs.declared.ops.IndexOp.{IndexOp}
use Rattle.sve_insn.specs.declared.ops.IndexOp.TheVariants as index_names
use Rattle.sve_insn.specs.declared.ops.DotOp.{DotOp}
use Rattle.sve_insn.specs.declared.ops.DotOp.TheVariants as dot_names
use Rattle.sve_insn.specs.declared.ops.DotIndexedOp.{DotIndexedOp}
use Rattle.sve_insn.specs.declared.ops.DotIndexedOp.TheVariants as dot_indexed_names
use Rattle.sve_insn.specs.declared.ops.WideImmOp.{WideImmOp}
use Rattle.sve_insn.specs.declared.ops.WideImmOp.TheVariants as wide_imm_names
use Rattle.sve_insn.specs.declared.ops.MinMaxImmOp.{MinMaxImmOp}
use Rattle.sve_insn.specs.declared.ops.MinMaxImmOp.TheVariants as min_max_imm_names
use Rattle.sve_insn.specs.declared.ops.BitmaskZOp.{BitmaskZOp}
use Rattle.sve_insn.specs.declared.ops.BitmaskZOp.TheVariants as bitmask_z_names
use Rattle.sve_insn.specs.declared.ops.ReduceOp.{ReduceOp}
use Rattle.sve_insn.specs.declared.ops.ReduceOp.TheVariants as reduce_names
use Rattle.sve_insn.specs.declared.ops.IncOp.{IncOp}
use Rattle.sve_insn.specs.declared.ops.IncOp.TheVariants as inc_names
use Rattle.sve_insn.specs.declared.ops.SatOp.{SatOp}
use Rattle.sve_insn.specs.declared.ops.SatOp.TheVariants as sat_names
use Rattle.sve_insn.specs.declared.ops.AddLengthOp.{AddLengthOp}
use Rattle.sve_insn.specs.declared.ops.AddLengthOp.TheVariants as add_length_names
use Rattle.sve_insn.specs.declared.ops.InsertOp.{InsertOp}
use Rattle.sve_insn.specs.declared.ops.InsertOp.TheVariants as insert_names
use Rattle.sve_insn.specs.declared.ops.UnpackOp.{UnpackOp}
use Rattle.sve_insn.specs.declared.ops.UnpackOp.TheVariants as unpack_names
use Rattle.sve_insn.specs.declared.ops.InterleaveOp.{InterleaveOp}
use Rattle.sve_insn.specs.declared.ops.InterleaveOp.TheVariants as interleave_names
use Rattle.sve_insn.specs.declared.ops.UnpackPOp.{UnpackPOp}
use Rattle.sve_insn.specs.declared.ops.UnpackPOp.TheVariants as unpack_p_names
use Rattle.sve_insn.specs.declared.ops.CopyRegOp.{CopyRegOp}
use Rattle.sve_insn.specs.declared.ops.CopyRegOp.TheVariants as copy_reg_names
use Rattle.sve_insn.specs.declared.ops.LastOp.{LastOp}
use Rattle.sve_insn.specs.declared.ops.LastOp.TheVariants as last_names
use Rattle.sve_insn.specs.declared.ops.CondLastOp.{CondLastOp}
use Rattle.sve_insn.specs.declared.ops.CondLastOp.TheVariants as cond_last_names
use Rattle.sve_insn.specs.declared.ops.CmpVecOp.{CmpVecOp}
use Rattle.sve_insn.specs.declared.ops.CmpVecOp.TheVariants as cmp_vec_names
use Rattle.sve_insn.specs.declared.ops.CmpWideOp.{CmpWideOp}
use Rattle.sve_insn.specs.declared.ops.CmpWideOp.TheVariants as cmp_wide_names
use Rattle.sve_insn.specs.declared.ops.CmpUImmOp.{CmpUImmOp}
use Rattle.sve_insn.specs.declared.ops.CmpUImmOp.TheVariants as cmp_u_imm_names
use Rattle.sve_insn.specs.declared.ops.CmpSImmOp.{CmpSImmOp}
use Rattle.sve_insn.specs.declared.ops.CmpSImmOp.TheVariants as cmp_s_imm_names
use Rattle.sve_insn.specs.declared.ops.LogicPOp.{LogicPOp}
use Rattle.sve_insn.specs.declared.ops.LogicPOp.TheVariants as logic_p_names
use Rattle.sve_insn.specs.declared.ops.BreakOp.{BreakOp}
use Rattle.sve_insn.specs.declared.ops.BreakOp.TheVariants as break_names
use Rattle.sve_insn.specs.declared.ops.BreakPairOp.{BreakPairOp}
use Rattle.sve_insn.specs.declared.ops.BreakPairOp.TheVariants as break_pair_names
use Rattle.sve_insn.specs.declared.ops.PtrueOp.{PtrueOp}
use Rattle.sve_insn.specs.declared.ops.PtrueOp.TheVariants as ptrue_names
use Rattle.sve_insn.specs.declared.ops.ReadFfrOp.{ReadFfrOp}
use Rattle.sve_insn.specs.declared.ops.ReadFfrOp.TheVariants as read_ffr_names
use Rattle.sve_insn.specs.declared.ops.WriteFfrOp.{WriteFfrOp}
use Rattle.sve_insn.specs.declared.ops.WriteFfrOp.TheVariants as write_ffr_names
use Rattle.sve_insn.specs.declared.ops.IncPOp.{IncPOp}
use Rattle.sve_insn.specs.declared.ops.IncPOp.TheVariants as inc_p_names
use Rattle.sve_insn.specs.declared.ops.WhileOp.{WhileOp}
use Rattle.sve_insn.specs.declared.ops.WhileOp.TheVariants as while_names
use Rattle.sve_insn.specs.declared.ops.CtermOp.{CtermOp}
use Rattle.sve_insn.specs.declared.ops.CtermOp.TheVariants as cterm_names
use Rattle.sve_insn.specs.declared.ops.LoadManyOp.{LoadManyOp}
use Rattle.sve_insn.specs.declared.ops.LoadManyOp.TheVariants as load_many_names
use Rattle.sve_insn.specs.declared.ops.StoreManyOp.{StoreManyOp}
use Rattle.sve_insn.specs.declared.ops.StoreManyOp.TheVariants as store_many_names

flag_again : (b : Bool) → (bit b == 1) ≡ b
flag_again false = refl
flag_again true = refl

binary_named_again : (op : BinaryOp) → binary_named (binary_number op) ≡ op
binary_named_again binary_names.Add = refl
binary_named_again _ = refl

shift_named_again : (op : ShiftOp) → shift_named (shift_number op) ≡ op
shift_named_again shift_names.Asr = refl
shift_named_again _ = refl

shift_imm_named_again : (op : ShiftImmOp) → shift_imm_named (shift_imm_number op) ≡ op
shift_imm_named_again shift_imm_names.Asr = refl
shift_imm_named_again _ = refl

unary_named_again : (op : UnaryOp) → unary_named (unary_number op) ≡ op
unary_named_again unary_names.Sxtb = refl
unary_named_again _ = refl

mul_add_z_named_again : (op : MulAddZOp) → mul_add_z_named (mul_add_z_number op) ≡ op
mul_add_z_named_again mul_add_z_names.Mla = refl
mul_add_z_named_again _ = refl

mul_add_d_named_again : (op : MulAddDOp) → mul_add_d_named (mul_add_d_number op) ≡ op
mul_add_d_named_again mul_add_d_names.Mad = refl
mul_add_d_named_again _ = refl

plain_named_again : (op : PlainOp) → plain_named (plain_number op) ≡ op
plain_named_again plain_names.Add = refl
plain_named_again _ = refl

logic_z_named_again : (op : LogicZOp) → logic_z_named (logic_z_number op) ≡ op
logic_z_named_again logic_z_names.And = refl
logic_z_named_again _ = refl

index_named_again : (op : IndexOp) → index_named (index_number op) ≡ op
index_named_again index_names.ImmImm = refl
index_named_again _ = refl

dot_named_again : (op : DotOp) → dot_named (dot_number op) ≡ op
dot_named_again dot_names.Sdot = refl
dot_named_again _ = refl

dot_indexed_named_again : (op : DotIndexedOp) → dot_indexed_named (dot_indexed_number op) ≡ op
dot_indexed_named_again dot_indexed_names.SdotS = refl
dot_indexed_named_again _ = refl

wide_imm_named_again : (op : WideImmOp) → wide_imm_named (wide_imm_number op) ≡ op
wide_imm_named_again wide_imm_names.Add = refl
wide_imm_named_again _ = refl

min_max_imm_named_again : (op : MinMaxImmOp) → min_max_imm_named (min_max_imm_number op) ≡ op
min_max_imm_named_again min_max_imm_names.Smax = refl
min_max_imm_named_again _ = refl

bitmask_z_named_again : (op : BitmaskZOp) → bitmask_z_named (bitmask_z_number op) ≡ op
bitmask_z_named_again bitmask_z_names.Orr = refl
bitmask_z_named_again _ = refl

reduce_named_again : (op : ReduceOp) → reduce_named (reduce_number op) ≡ op
reduce_named_again reduce_names.Saddv = refl
reduce_named_again _ = refl

inc_named_again : (op : IncOp) → inc_named (inc_number op) ≡ op
inc_named_again inc_names.Inc = refl
inc_named_again _ = refl

sat_named_again : (op : SatOp) → sat_named (sat_number op) ≡ op
sat_named_again sat_names.Sqinc = refl
sat_named_again _ = refl

add_length_named_again : (op : AddLengthOp) → add_length_named (add_length_number op) ≡ op
add_length_named_again add_length_names.Addvl = refl
add_length_named_again _ = refl

insert_named_again : (op : InsertOp) → insert_named (insert_number op) ≡ op
insert_named_again insert_names.InsrR = refl
insert_named_again _ = refl

unpack_named_again : (op : UnpackOp) → unpack_named (unpack_number op) ≡ op
unpack_named_again unpack_names.Sunpklo = refl
unpack_named_again _ = refl

interleave_named_again : (op : InterleaveOp) → interleave_named (interleave_number op) ≡ op
interleave_named_again interleave_names.Zip1 = refl
interleave_named_again _ = refl

unpack_p_named_again : (op : UnpackPOp) → unpack_p_named (unpack_p_number op) ≡ op
unpack_p_named_again unpack_p_names.Punpklo = refl
unpack_p_named_again _ = refl

copy_reg_named_again : (op : CopyRegOp) → copy_reg_named (copy_reg_number op) ≡ op
copy_reg_named_again copy_reg_names.CpyR = refl
copy_reg_named_again _ = refl

last_named_again : (op : LastOp) → last_named (last_number op) ≡ op
last_named_again last_names.LastaR = refl
last_named_again _ = refl

cond_last_named_again : (op : CondLastOp) → cond_last_named (cond_last_number op) ≡ op
cond_last_named_again cond_last_names.ClastaR = refl
cond_last_named_again _ = refl

cmp_vec_named_again : (op : CmpVecOp) → cmp_vec_named (cmp_vec_number op) ≡ op
cmp_vec_named_again cmp_vec_names.Cmphs = refl
cmp_vec_named_again _ = refl

cmp_wide_named_again : (op : CmpWideOp) → cmp_wide_named (cmp_wide_number op) ≡ op
cmp_wide_named_again cmp_wide_names.Cmpeq = refl
cmp_wide_named_again _ = refl

cmp_u_imm_named_again : (op : CmpUImmOp) → cmp_u_imm_named (cmp_u_imm_number op) ≡ op
cmp_u_imm_named_again cmp_u_imm_names.Cmphs = refl
cmp_u_imm_named_again _ = refl

cmp_s_imm_named_again : (op : CmpSImmOp) → cmp_s_imm_named (cmp_s_imm_number op) ≡ op
cmp_s_imm_named_again cmp_s_imm_names.Cmpge = refl
cmp_s_imm_named_again _ = refl

logic_p_named_again : (op : LogicPOp) → logic_p_named (logic_p_number op) ≡ op
logic_p_named_again logic_p_names.And = refl
logic_p_named_again _ = refl

break_named_again : (op : BreakOp) → break_named (break_number op) ≡ op
break_named_again break_names.Brka = refl
break_named_again _ = refl

break_pair_named_again : (op : BreakPairOp) → break_pair_named (break_pair_number op) ≡ op
break_pair_named_again break_pair_names.Brkpa = refl
break_pair_named_again _ = refl

ptrue_named_again : (op : PtrueOp) → ptrue_named (ptrue_number op) ≡ op
ptrue_named_again ptrue_names.Ptrue = refl
ptrue_named_again _ = refl

read_ffr_named_again : (op : ReadFfrOp) → read_ffr_named (read_ffr_number op) ≡ op
read_ffr_named_again read_ffr_names.Rdffr = refl
read_ffr_named_again _ = refl

write_ffr_named_again : (op : WriteFfrOp) → write_ffr_named (write_ffr_number op) ≡ op
write_ffr_named_again write_ffr_names.Setffr = refl
write_ffr_named_again _ = refl

inc_p_named_again : (op : IncPOp) → inc_p_named (inc_p_number op) ≡ op
inc_p_named_again inc_p_names.Incp = refl
inc_p_named_again _ = refl

while_named_again : (op : WhileOp) → while_named (while_number op) ≡ op
while_named_again while_names.Whilelt = refl
while_named_again _ = refl

cterm_named_again : (op : CtermOp) → cterm_named (cterm_number op) ≡ op
cterm_named_again cterm_names.Ctermeq = refl
cterm_named_again _ = refl

load_many_named_again : (op : LoadManyOp) → load_many_named (load_many_number op) ≡ op
load_many_named_again load_many_names.Ld2 = refl
load_many_named_again _ = refl

store_many_named_again : (op : StoreManyOp) → store_many_named (store_many_number op) ≡ op
store_many_named_again store_many_names.St2 = refl
store_many_named_again _ = refl

pub form_again : (f : SveForm) → form_of (row_of f) ≡ f
unfolding lines_open
form_again (Binary op size pg zm zdn) = ap (λ (z : BinaryOp). Binary z size pg zm zdn) (binary_named_again op)
form_again (BinaryWide op size pg zm zdn) = ap (λ (z : ShiftOp). BinaryWide z size pg zm zdn) (shift_named_again op)
form_again (ShiftImm op tszh pg tszl imm3 zdn) = ap (λ (z : ShiftImmOp). ShiftImm z tszh pg tszl imm3 zdn) (shift_imm_named_again op)
form_again (Unary op size pg zn zd) = ap (λ (z : UnaryOp). Unary z size pg zn zd) (unary_named_again op)
form_again (MulAddZ op size zm pg zn zda) = ap (λ (z : MulAddZOp). MulAddZ z size zm pg zn zda) (mul_add_z_named_again op)
form_again (MulAddD op size zm pg za zdn) = ap (λ (z : MulAddDOp). MulAddD z size zm pg za zdn) (mul_add_d_named_again op)
form_again (Plain op size zm zn zd) = ap (λ (z : PlainOp). Plain z size zm zn zd) (plain_named_again op)
form_again (LogicZ op zm zn zd) = ap (λ (z : LogicZOp). LogicZ z zm zn zd) (logic_z_named_again op)
form_again (PlainWide op size zm zn zd) = ap (λ (z : ShiftOp). PlainWide z size zm zn zd) (shift_named_again op)
form_again (PlainShift op tszh tszl imm3 zn zd) = ap (λ (z : ShiftOp). PlainShift z tszh tszl imm3 zn zd) (shift_named_again op)
form_again (Index op size y x zd) = ap (λ (z : IndexOp). Index z size y x zd) (index_named_again op)
form_again (Dot op size zm zn zda) = ap (λ (z : DotOp). Dot z size zm zn zda) (dot_named_again op)
form_again (DotIndexed op i_zm zn zda) = ap (λ (z : DotIndexedOp). DotIndexed z i_zm zn zda) (dot_indexed_named_again op)
form_again (WideImm op size sh imm8 zdn) = ap (λ (z : WideImmOp). WideImm z size (bit sh == 1) imm8 zdn) (wide_imm_named_again op) ∙ ap (λ (z : Bool). WideImm op size z imm8 zdn) (flag_again sh)
form_again (MinMaxImm op size imm8 zdn) = ap (λ (z : MinMaxImmOp). MinMaxImm z size imm8 zdn) (min_max_imm_named_again op)
form_again (DupImm size sh imm8 zd) = ap (λ (z : Bool). DupImm size z imm8 zd) (flag_again sh)
form_again (BitmaskZ op n immr imms zdn) = ap (λ (z : BitmaskZOp). BitmaskZ z (bit n == 1) immr imms zdn) (bitmask_z_named_again op) ∙ ap (λ (z : Bool). BitmaskZ op z immr imms zdn) (flag_again n)
form_again (CopyImm size pg m sh imm8 zd) = ap (λ (z : Bool). CopyImm size pg z (bit sh == 1) imm8 zd) (flag_again m) ∙ ap (λ (z : Bool). CopyImm size pg m z imm8 zd) (flag_again sh)
form_again (PrefixP size m pg zn zd) = ap (λ (z : Bool). PrefixP size z pg zn zd) (flag_again m)
form_again (Reduce op size pg zn vd) = ap (λ (z : ReduceOp). Reduce z size pg zn vd) (reduce_named_again op)
form_again (IncX op size imm4 pattern rdn) = ap (λ (z : IncOp). IncX z size imm4 pattern rdn) (inc_named_again op)
form_again (IncZ op size imm4 pattern zdn) = ap (λ (z : IncOp). IncZ z size imm4 pattern zdn) (inc_named_again op)
form_again (SatX op size sf imm4 pattern rdn) = ap (λ (z : SatOp). SatX z size (bit sf == 1) imm4 pattern rdn) (sat_named_again op) ∙ ap (λ (z : Bool). SatX op size z imm4 pattern rdn) (flag_again sf)
form_again (SatZ op size imm4 pattern zdn) = ap (λ (z : SatOp). SatZ z size imm4 pattern zdn) (sat_named_again op)
form_again (AddLength op rn imm6 rd) = ap (λ (z : AddLengthOp). AddLength z rn imm6 rd) (add_length_named_again op)
form_again (Insert op size src zdn) = ap (λ (z : InsertOp). Insert z size src zdn) (insert_named_again op)
form_again (Unpack op size zn zd) = ap (λ (z : UnpackOp). Unpack z size zn zd) (unpack_named_again op)
form_again (Interleave op size zm zn zd) = ap (λ (z : InterleaveOp). Interleave z size zm zn zd) (interleave_named_again op)
form_again (InterleaveP op size pm pn pd) = ap (λ (z : InterleaveOp). InterleaveP z size pm pn pd) (interleave_named_again op)
form_again (UnpackP op pn pd) = ap (λ (z : UnpackPOp). UnpackP z pn pd) (unpack_p_named_again op)
form_again (CopyReg op size pg rn zd) = ap (λ (z : CopyRegOp). CopyReg z size pg rn zd) (copy_reg_named_again op)
form_again (Last op size pg zn rd) = ap (λ (z : LastOp). Last z size pg zn rd) (last_named_again op)
form_again (CondLast op size pg zm zdn) = ap (λ (z : CondLastOp). CondLast z size pg zm zdn) (cond_last_named_again op)
form_again (CmpVec op size zm pg zn pd) = ap (λ (z : CmpVecOp). CmpVec z size zm pg zn pd) (cmp_vec_named_again op)
form_again (CmpWide op size zm pg zn pd) = ap (λ (z : CmpWideOp). CmpWide z size zm pg zn pd) (cmp_wide_named_again op)
form_again (CmpUImm op size imm7 pg zn pd) = ap (λ (z : CmpUImmOp). CmpUImm z size imm7 pg zn pd) (cmp_u_imm_named_again op)
form_again (CmpSImm op size imm5 pg zn pd) = ap (λ (z : CmpSImmOp). CmpSImm z size imm5 pg zn pd) (cmp_s_imm_named_again op)
form_again (LogicP op s pm pg pn pd) = ap (λ (z : LogicPOp). LogicP z (bit s == 1) pm pg pn pd) (logic_p_named_again op) ∙ ap (λ (z : Bool). LogicP op z pm pg pn pd) (flag_again s)
form_again (Break op s pg pn m pd) = ap (λ (z : BreakOp). Break z (bit s == 1) pg pn (bit m == 1) pd) (break_named_again op) ∙ ap (λ (z : Bool). Break op z pg pn (bit m == 1) pd) (flag_again s) ∙ ap (λ (z : Bool). Break op s pg pn z pd) (flag_again m)
form_again (BreakPair op s pm pg pn pd) = ap (λ (z : BreakPairOp). BreakPair z (bit s == 1) pm pg pn pd) (break_pair_named_again op) ∙ ap (λ (z : Bool). BreakPair op z pm pg pn pd) (flag_again s)
form_again (BreakNext s pg pn pdm) = ap (λ (z : Bool). BreakNext z pg pn pdm) (flag_again s)
form_again (Ptrue op size pattern pd) = ap (λ (z : PtrueOp). Ptrue z size pattern pd) (ptrue_named_again op)
form_again (ReadFfr op pg pd) = ap (λ (z : ReadFfrOp). ReadFfr z pg pd) (read_ffr_named_again op)
form_again (WriteFfr op pn) = ap (λ (z : WriteFfrOp). WriteFfr z pn) (write_ffr_named_again op)
form_again (IncP op size pm rdn) = ap (λ (z : IncPOp). IncP z size pm rdn) (inc_p_named_again op)
form_again (IncPZ op size pm zdn) = ap (λ (z : IncPOp). IncPZ z size pm zdn) (inc_p_named_again op)
form_again (While op size rm sf rn pd) = ap (λ (z : WhileOp). While z size rm (bit sf == 1) rn pd) (while_named_again op) ∙ ap (λ (z : Bool). While op size rm z rn pd) (flag_again sf)
form_again (Cterm op sf rm rn) = ap (λ (z : CtermOp). Cterm z (bit sf == 1) rm rn) (cterm_named_again op) ∙ ap (λ (z : Bool). Cterm op z rm rn) (flag_again sf)
form_again (LoadManyImm op msz imm4 pg rn zt) = ap (λ (z : LoadManyOp). LoadManyImm z msz imm4 pg rn zt) (load_many_named_again op)
form_again (LoadManyReg op msz rm pg rn zt) = ap (λ (z : LoadManyOp). LoadManyReg z msz rm pg rn zt) (load_many_named_again op)
form_again (StoreManyImm op msz imm4 pg rn zt) = ap (λ (z : StoreManyOp). StoreManyImm z msz imm4 pg rn zt) (store_many_named_again op)
form_again (StoreManyReg op msz rm pg rn zt) = ap (λ (z : StoreManyOp). StoreManyReg z msz rm pg rn zt) (store_many_named_again op)
form_again (GatherSx msz xs zm u ff pg rn zt) = ap (λ (z : Bool). GatherSx msz z zm (bit u == 1) (bit ff == 1) pg rn zt) (flag_again xs) ∙ ap (λ (z : Bool). GatherSx msz xs zm z (bit ff == 1) pg rn zt) (flag_again u) ∙ ap (λ (z : Bool). GatherSx msz xs zm u z pg rn zt) (flag_again ff)
form_again (GatherSxScaled msz xs zm u ff pg rn zt) = ap (λ (z : Bool). GatherSxScaled msz z zm (bit u == 1) (bit ff == 1) pg rn zt) (flag_again xs) ∙ ap (λ (z : Bool). GatherSxScaled msz xs zm z (bit ff == 1) pg rn zt) (flag_again u) ∙ ap (λ (z : Bool). GatherSxScaled msz xs zm u z pg rn zt) (flag_again ff)
form_again (GatherDx msz xs zm u ff pg rn zt) = ap (λ (z : Bool). GatherDx msz z zm (bit u == 1) (bit ff == 1) pg rn zt) (flag_again xs) ∙ ap (λ (z : Bool). GatherDx msz xs zm z (bit ff == 1) pg rn zt) (flag_again u) ∙ ap (λ (z : Bool). GatherDx msz xs zm u z pg rn zt) (flag_again ff)
form_again (GatherDxScaled msz xs zm u ff pg rn zt) = ap (λ (z : Bool). GatherDxScaled msz z zm (bit u == 1) (bit ff == 1) pg rn zt) (flag_again xs) ∙ ap (λ (z : Bool). GatherDxScaled msz xs zm z (bit ff == 1) pg rn zt) (flag_again u) ∙ ap (λ (z : Bool). GatherDxScaled msz xs zm u z pg rn zt) (flag_again ff)
form_again (GatherD msz zm u ff pg rn zt) = ap (λ (z : Bool). GatherD msz zm z (bit ff == 1) pg rn zt) (flag_again u) ∙ ap (λ (z : Bool). GatherD msz zm u z pg rn zt) (flag_again ff)
form_again (GatherDScaled msz zm u ff pg rn zt) = ap (λ (z : Bool). GatherDScaled msz zm z (bit ff == 1) pg rn zt) (flag_again u) ∙ ap (λ (z : Bool). GatherDScaled msz zm u z pg rn zt) (flag_again ff)
form_again (GatherSv msz imm5 u ff pg zn zt) = ap (λ (z : Bool). GatherSv msz imm5 z (bit ff == 1) pg zn zt) (flag_again u) ∙ ap (λ (z : Bool). GatherSv msz imm5 u z pg zn zt) (flag_again ff)
form_again (GatherDv msz imm5 u ff pg zn zt) = ap (λ (z : Bool). GatherDv msz imm5 z (bit ff == 1) pg zn zt) (flag_again u) ∙ ap (λ (z : Bool). GatherDv msz imm5 u z pg zn zt) (flag_again ff)
form_again (ScatterSx msz zm xs pg rn zt) = ap (λ (z : Bool). ScatterSx msz zm z pg rn zt) (flag_again xs)
form_again (ScatterSxScaled msz zm xs pg rn zt) = ap (λ (z : Bool). ScatterSxScaled msz zm z pg rn zt) (flag_again xs)
form_again (ScatterDx msz zm xs pg rn zt) = ap (λ (z : Bool). ScatterDx msz zm z pg rn zt) (flag_again xs)
form_again (ScatterDxScaled msz zm xs pg rn zt) = ap (λ (z : Bool). ScatterDxScaled msz zm z pg rn zt) (flag_again xs)
form_again _ = refl
