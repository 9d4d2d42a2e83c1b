-- The numbers of names in their lines.
use Rattle.std.specs.Prelude.{ℕ}
use Rattle.a64_insn.specs.declared.ops.AdrOp.{AdrOp}
use Rattle.a64_insn.specs.declared.ops.AdrOp.TheVariants as adr_names
use Rattle.a64_insn.specs.declared.ops.AddOp.{AddOp}
use Rattle.a64_insn.specs.declared.ops.AddOp.TheVariants as add_names
use Rattle.a64_insn.specs.declared.ops.LogicImmOp.{LogicImmOp}
use Rattle.a64_insn.specs.declared.ops.LogicImmOp.TheVariants as logic_imm_names
use Rattle.a64_insn.specs.declared.ops.MoveWideOp.{MoveWideOp}
use Rattle.a64_insn.specs.declared.ops.MoveWideOp.TheVariants as move_wide_names
use Rattle.a64_insn.specs.declared.ops.BitfieldOp.{BitfieldOp}
use Rattle.a64_insn.specs.declared.ops.BitfieldOp.TheVariants as bitfield_names
use Rattle.a64_insn.specs.declared.ops.LogicRegOp.{LogicRegOp}
use Rattle.a64_insn.specs.declared.ops.LogicRegOp.TheVariants as logic_reg_names
use Rattle.a64_insn.specs.declared.ops.AddCarryOp.{AddCarryOp}
use Rattle.a64_insn.specs.declared.ops.AddCarryOp.TheVariants as add_carry_names
use Rattle.a64_insn.specs.declared.ops.CondCompareOp.{CondCompareOp}
use Rattle.a64_insn.specs.declared.ops.CondCompareOp.TheVariants as cond_compare_names
use Rattle.a64_insn.specs.declared.ops.SelectOp.{SelectOp}
use Rattle.a64_insn.specs.declared.ops.SelectOp.TheVariants as select_names
use Rattle.a64_insn.specs.declared.ops.MulAddOp.{MulAddOp}
use Rattle.a64_insn.specs.declared.ops.MulAddOp.TheVariants as mul_add_names
use Rattle.a64_insn.specs.declared.ops.MulLongOp.{MulLongOp}
use Rattle.a64_insn.specs.declared.ops.MulLongOp.TheVariants as mul_long_names
use Rattle.a64_insn.specs.declared.ops.MulHighOp.{MulHighOp}
use Rattle.a64_insn.specs.declared.ops.MulHighOp.TheVariants as mul_high_names
use Rattle.a64_insn.specs.declared.ops.TwoSourceOp.{TwoSourceOp}
use Rattle.a64_insn.specs.declared.ops.TwoSourceOp.TheVariants as two_source_names
use Rattle.a64_insn.specs.declared.ops.OneSourceOp.{OneSourceOp}
use Rattle.a64_insn.specs.declared.ops.OneSourceOp.TheVariants as one_source_names
use Rattle.a64_insn.specs.declared.ops.RevOp.{RevOp}
use Rattle.a64_insn.specs.declared.ops.RevOp.TheVariants as rev_names
use Rattle.a64_insn.specs.declared.ops.BranchOp.{BranchOp}
use Rattle.a64_insn.specs.declared.ops.BranchOp.TheVariants as branch_names
use Rattle.a64_insn.specs.declared.ops.CompareOp.{CompareOp}
use Rattle.a64_insn.specs.declared.ops.CompareOp.TheVariants as compare_names
use Rattle.a64_insn.specs.declared.ops.TestOp.{TestOp}
use Rattle.a64_insn.specs.declared.ops.TestOp.TheVariants as test_names
use Rattle.a64_insn.specs.declared.ops.BranchRegOp.{BranchRegOp}
use Rattle.a64_insn.specs.declared.ops.BranchRegOp.TheVariants as branch_reg_names
use Rattle.a64_insn.specs.declared.ops.ExceptOp.{ExceptOp}
use Rattle.a64_insn.specs.declared.ops.ExceptOp.TheVariants as except_names
use Rattle.a64_insn.specs.declared.ops.BarrierOp.{BarrierOp}
use Rattle.a64_insn.specs.declared.ops.BarrierOp.TheVariants as barrier_names
use Rattle.a64_insn.specs.declared.ops.ReadSysOp.{ReadSysOp}
use Rattle.a64_insn.specs.declared.ops.ReadSysOp.TheVariants as read_sys_names
use Rattle.a64_insn.specs.declared.ops.WriteSysOp.{WriteSysOp}
use Rattle.a64_insn.specs.declared.ops.WriteSysOp.TheVariants as write_sys_names
use Rattle.a64_insn.specs.declared.ops.StoreExOp.{StoreExOp}
use Rattle.a64_insn.specs.declared.ops.StoreExOp.TheVariants as store_ex_names
use Rattle.a64_insn.specs.declared.ops.LoadExOp.{LoadExOp}
use Rattle.a64_insn.specs.declared.ops.LoadExOp.TheVariants as load_ex_names
use Rattle.a64_insn.specs.declared.ops.OrderedOp.{OrderedOp}
use Rattle.a64_insn.specs.declared.ops.OrderedOp.TheVariants as ordered_names
use Rattle.a64_insn.specs.declared.ops.AtomicOp.{AtomicOp}
use Rattle.a64_insn.specs.declared.ops.AtomicOp.TheVariants as atomic_names
use Rattle.a64_insn.specs.declared.ops.FMoveOp.{FMoveOp}
use Rattle.a64_insn.specs.declared.ops.FMoveOp.TheVariants as f_move_names

abbrev pub adr_number : AdrOp → ℕ
adr_number adr_names.Adr = 0
adr_number adr_names.Adrp = 1

abbrev pub add_number : AddOp → ℕ
add_number add_names.Add = 0
add_number add_names.Adds = 1
add_number add_names.Sub = 2
add_number add_names.Subs = 3

abbrev pub logic_imm_number : LogicImmOp → ℕ
logic_imm_number logic_imm_names.And = 0
logic_imm_number logic_imm_names.Orr = 1
logic_imm_number logic_imm_names.Eor = 2
logic_imm_number logic_imm_names.Ands = 3

abbrev pub move_wide_number : MoveWideOp → ℕ
move_wide_number move_wide_names.Movn = 0
move_wide_number move_wide_names.Movz = 1
move_wide_number move_wide_names.Movk = 2

abbrev pub bitfield_number : BitfieldOp → ℕ
bitfield_number bitfield_names.Sbfm = 0
bitfield_number bitfield_names.Bfm = 1
bitfield_number bitfield_names.Ubfm = 2

abbrev pub logic_reg_number : LogicRegOp → ℕ
logic_reg_number logic_reg_names.And = 0
logic_reg_number logic_reg_names.Bic = 1
logic_reg_number logic_reg_names.Orr = 2
logic_reg_number logic_reg_names.Orn = 3
logic_reg_number logic_reg_names.Eor = 4
logic_reg_number logic_reg_names.Eon = 5
logic_reg_number logic_reg_names.Ands = 6
logic_reg_number logic_reg_names.Bics = 7

abbrev pub add_carry_number : AddCarryOp → ℕ
add_carry_number add_carry_names.Adc = 0
add_carry_number add_carry_names.Adcs = 1
add_carry_number add_carry_names.Sbc = 2
add_carry_number add_carry_names.Sbcs = 3

abbrev pub cond_compare_number : CondCompareOp → ℕ
cond_compare_number cond_compare_names.Ccmn = 0
cond_compare_number cond_compare_names.Ccmp = 1

abbrev pub select_number : SelectOp → ℕ
select_number select_names.Csel = 0
select_number select_names.Csinc = 1
select_number select_names.Csinv = 2
select_number select_names.Csneg = 3

abbrev pub mul_add_number : MulAddOp → ℕ
mul_add_number mul_add_names.Madd = 0
mul_add_number mul_add_names.Msub = 1

abbrev pub mul_long_number : MulLongOp → ℕ
mul_long_number mul_long_names.Smaddl = 0
mul_long_number mul_long_names.Smsubl = 1
mul_long_number mul_long_names.Umaddl = 2
mul_long_number mul_long_names.Umsubl = 3

abbrev pub mul_high_number : MulHighOp → ℕ
mul_high_number mul_high_names.Smulh = 0
mul_high_number mul_high_names.Umulh = 1

abbrev pub two_source_number : TwoSourceOp → ℕ
two_source_number two_source_names.Udiv = 0
two_source_number two_source_names.Sdiv = 1
two_source_number two_source_names.Lslv = 2
two_source_number two_source_names.Lsrv = 3
two_source_number two_source_names.Asrv = 4
two_source_number two_source_names.Rorv = 5

abbrev pub one_source_number : OneSourceOp → ℕ
one_source_number one_source_names.Rbit = 0
one_source_number one_source_names.Rev16 = 1
one_source_number one_source_names.Clz = 2
one_source_number one_source_names.Cls = 3

abbrev pub rev_number : RevOp → ℕ
rev_number rev_names.RevW = 0
rev_number rev_names.RevX = 1
rev_number rev_names.Rev32 = 2

abbrev pub branch_number : BranchOp → ℕ
branch_number branch_names.B = 0
branch_number branch_names.Bl = 1

abbrev pub compare_number : CompareOp → ℕ
compare_number compare_names.Cbz = 0
compare_number compare_names.Cbnz = 1

abbrev pub test_number : TestOp → ℕ
test_number test_names.Tbz = 0
test_number test_names.Tbnz = 1

abbrev pub branch_reg_number : BranchRegOp → ℕ
branch_reg_number branch_reg_names.Br = 0
branch_reg_number branch_reg_names.Blr = 1
branch_reg_number branch_reg_names.Ret = 2

abbrev pub except_number : ExceptOp → ℕ
except_number except_names.Svc = 0
except_number except_names.Brk = 1
except_number except_names.Hlt = 2

abbrev pub barrier_number : BarrierOp → ℕ
barrier_number barrier_names.Clrex = 0
barrier_number barrier_names.Dsb = 1
barrier_number barrier_names.Dmb = 2
barrier_number barrier_names.Isb = 3

abbrev pub read_sys_number : ReadSysOp → ℕ
read_sys_number read_sys_names.Tpidr = 0
read_sys_number read_sys_names.Nzcv = 1
read_sys_number read_sys_names.Dczid = 2

abbrev pub write_sys_number : WriteSysOp → ℕ
write_sys_number write_sys_names.Tpidr = 0
write_sys_number write_sys_names.Nzcv = 1

abbrev pub store_ex_number : StoreExOp → ℕ
store_ex_number store_ex_names.Stxr = 0
store_ex_number store_ex_names.Stlxr = 1

abbrev pub load_ex_number : LoadExOp → ℕ
load_ex_number load_ex_names.Ldxr = 0
load_ex_number load_ex_names.Ldaxr = 1

abbrev pub ordered_number : OrderedOp → ℕ
ordered_number ordered_names.Stlr = 0
ordered_number ordered_names.Ldar = 1

abbrev pub atomic_number : AtomicOp → ℕ
atomic_number atomic_names.Ldadd = 0
atomic_number atomic_names.Ldclr = 1
atomic_number atomic_names.Ldeor = 2
atomic_number atomic_names.Ldset = 3
atomic_number atomic_names.Ldsmax = 4
atomic_number atomic_names.Ldsmin = 5
atomic_number atomic_names.Ldumax = 6
atomic_number atomic_names.Ldumin = 7
atomic_number atomic_names.Swp = 8

abbrev pub f_move_number : FMoveOp → ℕ
f_move_number f_move_names.WdSn = 0
f_move_number f_move_names.SdWn = 1
f_move_number f_move_names.XdDn = 2
f_move_number f_move_names.DdXn = 3
