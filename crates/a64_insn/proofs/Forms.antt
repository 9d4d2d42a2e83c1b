-- A form is the form of its row.
use Rattle.std.proofs.Common.{◌≡◌, Bool, true, false, refl, ap, ◌∙◌, ◌==◌}
use Rattle.emu_bits.specs.Fields.{bit}
use Rattle.emu_bits.specs.Rows.{form_of}
use Rattle.a64_insn.specs.declared.form.A64Form.{A64Form}
use Rattle.a64_insn.specs.declared.form.A64Form.TheVariants.{Adr, AddImm, LogicImm, MoveWide, Bitfield, Extract, LogicReg, AddReg, AddExt, AddCarry, CondReg, CondImm, Select, MulAdd, MulLong, MulHigh, TwoSource, OneSource, Rev, Branch, BranchCond, Compare, Test, BranchReg, Except, Hint, Barrier, ReadSys, WriteSys, LsUnsigned, LsUnscaled, LsPost, LsPre, LsReg, LsLiteral, Pair, StoreEx, LoadEx, Ordered, Atomic, CompareSwap, FMove, MoveImm}
use Rattle.a64_insn.specs.Opened.{lines_open}
use Rattle.a64_insn.specs.Rows.{row_of}
use Rattle.a64_insn.specs.Names.{add_carry_named, add_named, adr_named, atomic_named, barrier_named, bitfield_named, branch_named, branch_reg_named, compare_named, cond_compare_named, except_named, f_move_named, load_ex_named, logic_imm_named, logic_reg_named, move_wide_named, mul_add_named, mul_high_named, mul_long_named, one_source_named, ordered_named, read_sys_named, rev_named, select_named, store_ex_named, test_named, two_source_named, write_sys_named}
use Rattle.a64_insn.specs.Numbers.{add_carry_number, add_number, adr_number, atomic_number, barrier_number, bitfield_number, branch_number, branch_reg_number, compare_number, cond_compare_number, except_number, f_move_number, load_ex_number, logic_imm_number, logic_reg_number, move_wide_number, mul_add_number, mul_high_number, mul_long_number, one_source_number, ordered_number, read_sys_number, rev_number, select_number, store_ex_number, test_number, two_source_number, write_sys_number}
use Rattle.a64_insn.specs.declared.ops.AdrOp.{AdrOp}
use Rattle.a64_insn.specs.declared.ops.AdrOp.TheVariants as adr_names
use Rattle.a64_insn.specs.declared.ops.AddOp.{AddOp}
use Rattle.a64_insn.specs.declared.ops.AddOp.TheVariants as add_names
use Rattle.a64_insn.specs.declared.ops.LogicImmOp.{LogicImmOp}
use Rattle.a64_insn.specs.declared.ops.LogicImmOp.TheVariants as logic_imm_names
use Rattle.a64_insn.specs.declared.ops.MoveWideOp.{MoveWideOp}
use Rattle.a64_insn.specs.declared.ops.MoveWideOp.TheVariants as move_wide_names
use Rattle.a64_insn.specs.declared.ops.BitfieldOp.{BitfieldOp}
use Rattle.a64_insn.specs.declared.ops.BitfieldOp.TheVariants as bitfield_names
use Rattle.a64_insn.specs.declared.ops.LogicRegOp.{LogicRegOp}
use Rattle.a64_insn.specs.declared.ops.LogicRegOp.TheVariants as logic_reg_names
use Rattle.a64_insn.specs.declared.ops.AddCarryOp.{AddCarryOp}
use Rattle.a64_insn.specs.declared.ops.AddCarryOp.TheVariants as add_carry_names
use Rattle.a64_insn.specs.declared.ops.CondCompareOp.{CondCompareOp}
use Rattle.a64_insn.specs.declared.ops.CondCompareOp.TheVariants as cond_compare_names
use Rattle.a64_insn.specs.declared.ops.SelectOp.{SelectOp}
use Rattle.a64_insn.specs.declared.ops.SelectOp.TheVariants as select_names
use Rattle.a64_insn.specs.declared.ops.MulAddOp.{MulAddOp}
use Rattle.a64_insn.specs.declared.ops.MulAddOp.TheVariants as mul_add_names
use Rattle.a64_insn.specs.declared.ops.MulLongOp.{MulLongOp}
use Rattle.a64_insn.specs.declared.ops.MulLongOp.TheVariants as mul_long_names
use Rattle.a64_insn.specs.declared.ops.MulHighOp.{MulHighOp}
use Rattle.a64_insn.specs.declared.ops.MulHighOp.TheVariants as mul_high_names
use Rattle.a64_insn.specs.declared.ops.TwoSourceOp.{TwoSourceOp}
use Rattle.a64_insn.specs.declared.ops.TwoSourceOp.TheVariants as two_source_names
use Rattle.a64_insn.specs.declared.ops.OneSourceOp.{OneSourceOp}
use Rattle.a64_insn.specs.declared.ops.OneSourceOp.TheVariants as one_source_names
use Rattle.a64_insn.specs.declared.ops.RevOp.{RevOp}
use Rattle.a64_insn.specs.declared.ops.RevOp.TheVariants as rev_names
use Rattle.a64_insn.specs.declared.ops.BranchOp.{BranchOp}
use Rattle.a64_insn.specs.declared.ops.BranchOp.TheVariants as branch_names
use Rattle.a64_insn.specs.declared.ops.CompareOp.{CompareOp}
use Rattle.a64_insn.specs.declared.ops.CompareOp.TheVariants as compare_names
use Rattle.a64_insn.specs.declared.ops.TestOp.{TestOp}
use Rattle.a64_insn.specs.declared.ops.TestOp.TheVariants as test_names
use Rattle.a64_insn.specs.declared.ops.BranchRegOp.{BranchRegOp}
use Rattle.a64_insn.specs.declared.ops.BranchRegOp.TheVariants as branch_reg_names
use Rattle.a64_insn.specs.declared.ops.ExceptOp.{ExceptOp}
use Rattle.a64_insn.specs.declared.ops.ExceptOp.TheVariants as except_names
use Rattle.a64_insn.specs.declared.ops.BarrierOp.{BarrierOp}
use Rattle.a64_insn.specs.declared.ops.BarrierOp.TheVariants as barrier_names
use Rattle.a64_insn.specs.declared.ops.ReadSysOp.{ReadSysOp}
use Rattle.a64_insn.specs.declared.ops.ReadSysOp.TheVariants as read_sys_names
use Rattle.a64_insn.specs.declared.ops.WriteSysOp.{WriteSysOp}
use Rattle.a64_insn.specs.declared.ops.WriteSysOp.TheVariants as write_sys_names
use Rattle.a64_insn.specs.declared.ops.StoreExOp.{StoreExOp}
use Rattle.a64_insn.specs.declared.ops.StoreExOp.TheVariants as store_ex_names
use Rattle.a64_insn.specs.declared.ops.LoadExOp.{LoadExOp}
use Rattle.a64_insn.specs.declared.ops.LoadExOp.TheVariants as load_ex_names
use Rattle.a64_insn.specs.declared.ops.OrderedOp.{OrderedOp}
use Rattle.a64_insn.specs.declared.ops.OrderedOp.TheVariants as ordered_names
use Rattle.a64_insn.specs.declared.ops.AtomicOp.{AtomicOp}
use Rattle.a64_insn.specs.declared.ops.AtomicOp.TheVariants as atomic_names
use Rattle.a64_insn.specs.declared.ops.FMoveOp.{FMoveOp}
use Rattle.a64_insn.specs.declared.ops.FMoveOp.TheVariants as f_move_names

flag_again : (b : Bool) → (bit b == 1) ≡ b
flag_again false = refl
flag_again true = refl

adr_named_again : (op : AdrOp) → adr_named (adr_number op) ≡ op
adr_named_again adr_names.Adr = refl
adr_named_again adr_names.Adrp = refl

add_named_again : (op : AddOp) → add_named (add_number op) ≡ op
add_named_again add_names.Add = refl
add_named_again add_names.Adds = refl
add_named_again add_names.Sub = refl
add_named_again add_names.Subs = refl

logic_imm_named_again : (op : LogicImmOp) → logic_imm_named (logic_imm_number op) ≡ op
logic_imm_named_again logic_imm_names.And = refl
logic_imm_named_again logic_imm_names.Orr = refl
logic_imm_named_again logic_imm_names.Eor = refl
logic_imm_named_again logic_imm_names.Ands = refl

move_wide_named_again : (op : MoveWideOp) → move_wide_named (move_wide_number op) ≡ op
move_wide_named_again move_wide_names.Movn = refl
move_wide_named_again move_wide_names.Movz = refl
move_wide_named_again move_wide_names.Movk = refl

bitfield_named_again : (op : BitfieldOp) → bitfield_named (bitfield_number op) ≡ op
bitfield_named_again bitfield_names.Sbfm = refl
bitfield_named_again bitfield_names.Bfm = refl
bitfield_named_again bitfield_names.Ubfm = refl

logic_reg_named_again : (op : LogicRegOp) → logic_reg_named (logic_reg_number op) ≡ op
logic_reg_named_again logic_reg_names.And = refl
logic_reg_named_again logic_reg_names.Bic = refl
logic_reg_named_again logic_reg_names.Orr = refl
logic_reg_named_again logic_reg_names.Orn = refl
logic_reg_named_again logic_reg_names.Eor = refl
logic_reg_named_again logic_reg_names.Eon = refl
logic_reg_named_again logic_reg_names.Ands = refl
logic_reg_named_again logic_reg_names.Bics = refl

add_carry_named_again : (op : AddCarryOp) → add_carry_named (add_carry_number op) ≡ op
add_carry_named_again add_carry_names.Adc = refl
add_carry_named_again add_carry_names.Adcs = refl
add_carry_named_again add_carry_names.Sbc = refl
add_carry_named_again add_carry_names.Sbcs = refl

cond_compare_named_again : (op : CondCompareOp) → cond_compare_named (cond_compare_number op) ≡ op
cond_compare_named_again cond_compare_names.Ccmn = refl
cond_compare_named_again cond_compare_names.Ccmp = refl

select_named_again : (op : SelectOp) → select_named (select_number op) ≡ op
select_named_again select_names.Csel = refl
select_named_again select_names.Csinc = refl
select_named_again select_names.Csinv = refl
select_named_again select_names.Csneg = refl

mul_add_named_again : (op : MulAddOp) → mul_add_named (mul_add_number op) ≡ op
mul_add_named_again mul_add_names.Madd = refl
mul_add_named_again mul_add_names.Msub = refl

mul_long_named_again : (op : MulLongOp) → mul_long_named (mul_long_number op) ≡ op
mul_long_named_again mul_long_names.Smaddl = refl
mul_long_named_again mul_long_names.Smsubl = refl
mul_long_named_again mul_long_names.Umaddl = refl
mul_long_named_again mul_long_names.Umsubl = refl

mul_high_named_again : (op : MulHighOp) → mul_high_named (mul_high_number op) ≡ op
mul_high_named_again mul_high_names.Smulh = refl
mul_high_named_again mul_high_names.Umulh = refl

two_source_named_again : (op : TwoSourceOp) → two_source_named (two_source_number op) ≡ op
two_source_named_again two_source_names.Udiv = refl
two_source_named_again two_source_names.Sdiv = refl
two_source_named_again two_source_names.Lslv = refl
two_source_named_again two_source_names.Lsrv = refl
two_source_named_again two_source_names.Asrv = refl
two_source_named_again two_source_names.Rorv = refl

one_source_named_again : (op : OneSourceOp) → one_source_named (one_source_number op) ≡ op
one_source_named_again one_source_names.Rbit = refl
one_source_named_again one_source_names.Rev16 = refl
one_source_named_again one_source_names.Clz = refl
one_source_named_again one_source_names.Cls = refl

rev_named_again : (op : RevOp) → rev_named (rev_number op) ≡ op
rev_named_again rev_names.RevW = refl
rev_named_again rev_names.RevX = refl
rev_named_again rev_names.Rev32 = refl

branch_named_again : (op : BranchOp) → branch_named (branch_number op) ≡ op
branch_named_again branch_names.B = refl
branch_named_again branch_names.Bl = refl

compare_named_again : (op : CompareOp) → compare_named (compare_number op) ≡ op
compare_named_again compare_names.Cbz = refl
compare_named_again compare_names.Cbnz = refl

test_named_again : (op : TestOp) → test_named (test_number op) ≡ op
test_named_again test_names.Tbz = refl
test_named_again test_names.Tbnz = refl

branch_reg_named_again : (op : BranchRegOp) → branch_reg_named (branch_reg_number op) ≡ op
branch_reg_named_again branch_reg_names.Br = refl
branch_reg_named_again branch_reg_names.Blr = refl
branch_reg_named_again branch_reg_names.Ret = refl

except_named_again : (op : ExceptOp) → except_named (except_number op) ≡ op
except_named_again except_names.Svc = refl
except_named_again except_names.Brk = refl
except_named_again except_names.Hlt = refl

barrier_named_again : (op : BarrierOp) → barrier_named (barrier_number op) ≡ op
barrier_named_again barrier_names.Clrex = refl
barrier_named_again barrier_names.Dsb = refl
barrier_named_again barrier_names.Dmb = refl
barrier_named_again barrier_names.Isb = refl

read_sys_named_again : (op : ReadSysOp) → read_sys_named (read_sys_number op) ≡ op
read_sys_named_again read_sys_names.Tpidr = refl
read_sys_named_again read_sys_names.Nzcv = refl
read_sys_named_again read_sys_names.Dczid = refl

write_sys_named_again : (op : WriteSysOp) → write_sys_named (write_sys_number op) ≡ op
write_sys_named_again write_sys_names.Tpidr = refl
write_sys_named_again write_sys_names.Nzcv = refl

store_ex_named_again : (op : StoreExOp) → store_ex_named (store_ex_number op) ≡ op
store_ex_named_again store_ex_names.Stxr = refl
store_ex_named_again store_ex_names.Stlxr = refl

load_ex_named_again : (op : LoadExOp) → load_ex_named (load_ex_number op) ≡ op
load_ex_named_again load_ex_names.Ldxr = refl
load_ex_named_again load_ex_names.Ldaxr = refl

ordered_named_again : (op : OrderedOp) → ordered_named (ordered_number op) ≡ op
ordered_named_again ordered_names.Stlr = refl
ordered_named_again ordered_names.Ldar = refl

atomic_named_again : (op : AtomicOp) → atomic_named (atomic_number op) ≡ op
atomic_named_again atomic_names.Ldadd = refl
atomic_named_again atomic_names.Ldclr = refl
atomic_named_again atomic_names.Ldeor = refl
atomic_named_again atomic_names.Ldset = refl
atomic_named_again atomic_names.Ldsmax = refl
atomic_named_again atomic_names.Ldsmin = refl
atomic_named_again atomic_names.Ldumax = refl
atomic_named_again atomic_names.Ldumin = refl
atomic_named_again atomic_names.Swp = refl

f_move_named_again : (op : FMoveOp) → f_move_named (f_move_number op) ≡ op
f_move_named_again f_move_names.WdSn = refl
f_move_named_again f_move_names.SdWn = refl
f_move_named_again f_move_names.XdDn = refl
f_move_named_again f_move_names.DdXn = refl

pub form_again : (f : A64Form) → form_of (row_of f) ≡ f
unfolding lines_open
form_again (Adr op immlo immhi rd) = ap (λ (y : AdrOp). Adr y immlo immhi rd) (adr_named_again op)
form_again (AddImm op sf sh imm12 rn rd) = ap (λ (y : AddOp). AddImm y (bit sf == 1) (bit sh == 1) imm12 rn rd) (add_named_again op) ∙ ap (λ (y : Bool). AddImm op y (bit sh == 1) imm12 rn rd) (flag_again sf) ∙ ap (λ (y : Bool). AddImm op sf y imm12 rn rd) (flag_again sh)
form_again (LogicImm op sf n immr imms rn rd) = ap (λ (y : LogicImmOp). LogicImm y (bit sf == 1) (bit n == 1) immr imms rn rd) (logic_imm_named_again op) ∙ ap (λ (y : Bool). LogicImm op y (bit n == 1) immr imms rn rd) (flag_again sf) ∙ ap (λ (y : Bool). LogicImm op sf y immr imms rn rd) (flag_again n)
form_again (MoveWide op sf hw imm16 rd) = ap (λ (y : MoveWideOp). MoveWide y (bit sf == 1) hw imm16 rd) (move_wide_named_again op) ∙ ap (λ (y : Bool). MoveWide op y hw imm16 rd) (flag_again sf)
form_again (Bitfield op sf n r s rn rd) = ap (λ (y : BitfieldOp). Bitfield y (bit sf == 1) (bit n == 1) r s rn rd) (bitfield_named_again op) ∙ ap (λ (y : Bool). Bitfield op y (bit n == 1) r s rn rd) (flag_again sf) ∙ ap (λ (y : Bool). Bitfield op sf y r s rn rd) (flag_again n)
form_again (Extract sf n rm s rn rd) = ap (λ (y : Bool). Extract y (bit n == 1) rm s rn rd) (flag_again sf) ∙ ap (λ (y : Bool). Extract sf y rm s rn rd) (flag_again n)
form_again (LogicReg op sf shift rm amount rn rd) = ap (λ (y : LogicRegOp). LogicReg y (bit sf == 1) shift rm amount rn rd) (logic_reg_named_again op) ∙ ap (λ (y : Bool). LogicReg op y shift rm amount rn rd) (flag_again sf)
form_again (AddReg op sf shift rm amount rn rd) = ap (λ (y : AddOp). AddReg y (bit sf == 1) shift rm amount rn rd) (add_named_again op) ∙ ap (λ (y : Bool). AddReg op y shift rm amount rn rd) (flag_again sf)
form_again (AddExt op sf rm ext a rn rd) = ap (λ (y : AddOp). AddExt y (bit sf == 1) rm ext a rn rd) (add_named_again op) ∙ ap (λ (y : Bool). AddExt op y rm ext a rn rd) (flag_again sf)
form_again (AddCarry op sf rm rn rd) = ap (λ (y : AddCarryOp). AddCarry y (bit sf == 1) rm rn rd) (add_carry_named_again op) ∙ ap (λ (y : Bool). AddCarry op y rm rn rd) (flag_again sf)
form_again (CondReg op sf rm cond rn f) = ap (λ (y : CondCompareOp). CondReg y (bit sf == 1) rm cond rn f) (cond_compare_named_again op) ∙ ap (λ (y : Bool). CondReg op y rm cond rn f) (flag_again sf)
form_again (CondImm op sf i cond rn f) = ap (λ (y : CondCompareOp). CondImm y (bit sf == 1) i cond rn f) (cond_compare_named_again op) ∙ ap (λ (y : Bool). CondImm op y i cond rn f) (flag_again sf)
form_again (Select op sf rm cond rn rd) = ap (λ (y : SelectOp). Select y (bit sf == 1) rm cond rn rd) (select_named_again op) ∙ ap (λ (y : Bool). Select op y rm cond rn rd) (flag_again sf)
form_again (MulAdd op sf rm ra rn rd) = ap (λ (y : MulAddOp). MulAdd y (bit sf == 1) rm ra rn rd) (mul_add_named_again op) ∙ ap (λ (y : Bool). MulAdd op y rm ra rn rd) (flag_again sf)
form_again (MulLong op rm ra rn rd) = ap (λ (y : MulLongOp). MulLong y rm ra rn rd) (mul_long_named_again op)
form_again (MulHigh op rm rn rd) = ap (λ (y : MulHighOp). MulHigh y rm rn rd) (mul_high_named_again op)
form_again (TwoSource op sf rm rn rd) = ap (λ (y : TwoSourceOp). TwoSource y (bit sf == 1) rm rn rd) (two_source_named_again op) ∙ ap (λ (y : Bool). TwoSource op y rm rn rd) (flag_again sf)
form_again (OneSource op sf rn rd) = ap (λ (y : OneSourceOp). OneSource y (bit sf == 1) rn rd) (one_source_named_again op) ∙ ap (λ (y : Bool). OneSource op y rn rd) (flag_again sf)
form_again (Rev op rn rd) = ap (λ (y : RevOp). Rev y rn rd) (rev_named_again op)
form_again (Branch op imm26) = ap (λ (y : BranchOp). Branch y imm26) (branch_named_again op)
form_again (BranchCond imm19 cond) = refl
form_again (Compare op sf imm19 rt) = ap (λ (y : CompareOp). Compare y (bit sf == 1) imm19 rt) (compare_named_again op) ∙ ap (λ (y : Bool). Compare op y imm19 rt) (flag_again sf)
form_again (Test op b5 b40 imm14 rt) = ap (λ (y : TestOp). Test y (bit b5 == 1) b40 imm14 rt) (test_named_again op) ∙ ap (λ (y : Bool). Test op y b40 imm14 rt) (flag_again b5)
form_again (BranchReg op rn) = ap (λ (y : BranchRegOp). BranchReg y rn) (branch_reg_named_again op)
form_again (Except op imm16) = ap (λ (y : ExceptOp). Except y imm16) (except_named_again op)
form_again (Hint n) = refl
form_again (Barrier op n) = ap (λ (y : BarrierOp). Barrier y n) (barrier_named_again op)
form_again (ReadSys op rt) = ap (λ (y : ReadSysOp). ReadSys y rt) (read_sys_named_again op)
form_again (WriteSys op rt) = ap (λ (y : WriteSysOp). WriteSys y rt) (write_sys_named_again op)
form_again (LsUnsigned size v opc imm12 rn rt) = ap (λ (y : Bool). LsUnsigned size y opc imm12 rn rt) (flag_again v)
form_again (LsUnscaled size v opc imm9 rn rt) = ap (λ (y : Bool). LsUnscaled size y opc imm9 rn rt) (flag_again v)
form_again (LsPost size v opc imm9 rn rt) = ap (λ (y : Bool). LsPost size y opc imm9 rn rt) (flag_again v)
form_again (LsPre size v opc imm9 rn rt) = ap (λ (y : Bool). LsPre size y opc imm9 rn rt) (flag_again v)
form_again (LsReg size v opc rm ext s rn rt) = ap (λ (y : Bool). LsReg size y opc rm ext (bit s == 1) rn rt) (flag_again v) ∙ ap (λ (y : Bool). LsReg size v opc rm ext y rn rt) (flag_again s)
form_again (LsLiteral opc v imm19 rt) = ap (λ (y : Bool). LsLiteral opc y imm19 rt) (flag_again v)
form_again (Pair opc v mode l imm7 rt2 rn rt) = ap (λ (y : Bool). Pair opc y mode (bit l == 1) imm7 rt2 rn rt) (flag_again v) ∙ ap (λ (y : Bool). Pair opc v mode y imm7 rt2 rn rt) (flag_again l)
form_again (StoreEx op size rs rn rt) = ap (λ (y : StoreExOp). StoreEx y size rs rn rt) (store_ex_named_again op)
form_again (LoadEx op size rn rt) = ap (λ (y : LoadExOp). LoadEx y size rn rt) (load_ex_named_again op)
form_again (Ordered op size rn rt) = ap (λ (y : OrderedOp). Ordered y size rn rt) (ordered_named_again op)
form_again (Atomic op size acquires releases rs rn rt) = ap (λ (y : AtomicOp). Atomic y size (bit acquires == 1) (bit releases == 1) rs rn rt) (atomic_named_again op) ∙ ap (λ (y : Bool). Atomic op size y (bit releases == 1) rs rn rt) (flag_again acquires) ∙ ap (λ (y : Bool). Atomic op size acquires y rs rn rt) (flag_again releases)
form_again (CompareSwap size acquires releases rs rn rt) = ap (λ (y : Bool). CompareSwap size y (bit releases == 1) rs rn rt) (flag_again acquires) ∙ ap (λ (y : Bool). CompareSwap size acquires y rs rn rt) (flag_again releases)
form_again (FMove op rn rd) = ap (λ (y : FMoveOp). FMove y rn rd) (f_move_named_again op)
form_again (MoveImm q op abc cmode defgh rd) = ap (λ (y : Bool). MoveImm y (bit op == 1) abc cmode defgh rd) (flag_again q) ∙ ap (λ (y : Bool). MoveImm q y abc cmode defgh rd) (flag_again op)
