-- The names of the lines that have several, by their numbers in the line. The names are those of the entries of the Arm
-- Architecture Reference Manual for A-profile (DDI 0487), C6.2 and C7.2; their numbers are this project's own.
use Rattle.std.specs.Prelude.{ℕ, [], ◌∷◌}
use Rattle.emu_bits.specs.Rows.{named}
use Rattle.a64_insn.specs.declared.ops.AdrOp.{AdrOp}
use Rattle.a64_insn.specs.declared.ops.AdrOp.TheVariants as adr
use Rattle.a64_insn.specs.declared.ops.AddOp.{AddOp}
use Rattle.a64_insn.specs.declared.ops.AddOp.TheVariants as add
use Rattle.a64_insn.specs.declared.ops.LogicImmOp.{LogicImmOp}
use Rattle.a64_insn.specs.declared.ops.LogicImmOp.TheVariants as logic_imm
use Rattle.a64_insn.specs.declared.ops.MoveWideOp.{MoveWideOp}
use Rattle.a64_insn.specs.declared.ops.MoveWideOp.TheVariants as move_wide
use Rattle.a64_insn.specs.declared.ops.BitfieldOp.{BitfieldOp}
use Rattle.a64_insn.specs.declared.ops.BitfieldOp.TheVariants as bitfield
use Rattle.a64_insn.specs.declared.ops.LogicRegOp.{LogicRegOp}
use Rattle.a64_insn.specs.declared.ops.LogicRegOp.TheVariants as logic_reg
use Rattle.a64_insn.specs.declared.ops.AddCarryOp.{AddCarryOp}
use Rattle.a64_insn.specs.declared.ops.AddCarryOp.TheVariants as add_carry
use Rattle.a64_insn.specs.declared.ops.CondCompareOp.{CondCompareOp}
use Rattle.a64_insn.specs.declared.ops.CondCompareOp.TheVariants as cond_compare
use Rattle.a64_insn.specs.declared.ops.SelectOp.{SelectOp}
use Rattle.a64_insn.specs.declared.ops.SelectOp.TheVariants as select
use Rattle.a64_insn.specs.declared.ops.MulAddOp.{MulAddOp}
use Rattle.a64_insn.specs.declared.ops.MulAddOp.TheVariants as mul_add
use Rattle.a64_insn.specs.declared.ops.MulLongOp.{MulLongOp}
use Rattle.a64_insn.specs.declared.ops.MulLongOp.TheVariants as mul_long
use Rattle.a64_insn.specs.declared.ops.MulHighOp.{MulHighOp}
use Rattle.a64_insn.specs.declared.ops.MulHighOp.TheVariants as mul_high
use Rattle.a64_insn.specs.declared.ops.TwoSourceOp.{TwoSourceOp}
use Rattle.a64_insn.specs.declared.ops.TwoSourceOp.TheVariants as two_source
use Rattle.a64_insn.specs.declared.ops.OneSourceOp.{OneSourceOp}
use Rattle.a64_insn.specs.declared.ops.OneSourceOp.TheVariants as one_source
use Rattle.a64_insn.specs.declared.ops.RevOp.{RevOp}
use Rattle.a64_insn.specs.declared.ops.RevOp.TheVariants as rev
use Rattle.a64_insn.specs.declared.ops.BranchOp.{BranchOp}
use Rattle.a64_insn.specs.declared.ops.BranchOp.TheVariants as branch
use Rattle.a64_insn.specs.declared.ops.CompareOp.{CompareOp}
use Rattle.a64_insn.specs.declared.ops.CompareOp.TheVariants as compare
use Rattle.a64_insn.specs.declared.ops.TestOp.{TestOp}
use Rattle.a64_insn.specs.declared.ops.TestOp.TheVariants as test
use Rattle.a64_insn.specs.declared.ops.BranchRegOp.{BranchRegOp}
use Rattle.a64_insn.specs.declared.ops.BranchRegOp.TheVariants as branch_reg
use Rattle.a64_insn.specs.declared.ops.ExceptOp.{ExceptOp}
use Rattle.a64_insn.specs.declared.ops.ExceptOp.TheVariants as except
use Rattle.a64_insn.specs.declared.ops.BarrierOp.{BarrierOp}
use Rattle.a64_insn.specs.declared.ops.BarrierOp.TheVariants as barrier
use Rattle.a64_insn.specs.declared.ops.ReadSysOp.{ReadSysOp}
use Rattle.a64_insn.specs.declared.ops.ReadSysOp.TheVariants as read_sys
use Rattle.a64_insn.specs.declared.ops.WriteSysOp.{WriteSysOp}
use Rattle.a64_insn.specs.declared.ops.WriteSysOp.TheVariants as write_sys
use Rattle.a64_insn.specs.declared.ops.StoreExOp.{StoreExOp}
use Rattle.a64_insn.specs.declared.ops.StoreExOp.TheVariants as store_ex
use Rattle.a64_insn.specs.declared.ops.LoadExOp.{LoadExOp}
use Rattle.a64_insn.specs.declared.ops.LoadExOp.TheVariants as load_ex
use Rattle.a64_insn.specs.declared.ops.OrderedOp.{OrderedOp}
use Rattle.a64_insn.specs.declared.ops.OrderedOp.TheVariants as ordered
use Rattle.a64_insn.specs.declared.ops.AtomicOp.{AtomicOp}
use Rattle.a64_insn.specs.declared.ops.AtomicOp.TheVariants as atomic
use Rattle.a64_insn.specs.declared.ops.FMoveOp.{FMoveOp}
use Rattle.a64_insn.specs.declared.ops.FMoveOp.TheVariants as f_move

abbrev pub adr_named : ℕ → AdrOp
adr_named k = named adr.Adr (adr.Adrp ∷ []) k

abbrev pub add_named : ℕ → AddOp
add_named k = named add.Add (add.Adds ∷ add.Sub ∷ add.Subs ∷ []) k

abbrev pub logic_imm_named : ℕ → LogicImmOp
logic_imm_named k = named logic_imm.And (logic_imm.Orr ∷ logic_imm.Eor ∷ logic_imm.Ands ∷ []) k

abbrev pub move_wide_named : ℕ → MoveWideOp
move_wide_named k = named move_wide.Movn (move_wide.Movz ∷ move_wide.Movk ∷ []) k

abbrev pub bitfield_named : ℕ → BitfieldOp
bitfield_named k = named bitfield.Sbfm (bitfield.Bfm ∷ bitfield.Ubfm ∷ []) k

abbrev pub logic_reg_named : ℕ → LogicRegOp
logic_reg_named k = named logic_reg.And (logic_reg.Bic ∷ logic_reg.Orr ∷ logic_reg.Orn ∷ logic_reg.Eor ∷ logic_reg.Eon
    ∷ logic_reg.Ands ∷ logic_reg.Bics ∷ []) k

abbrev pub add_carry_named : ℕ → AddCarryOp
add_carry_named k = named add_carry.Adc (add_carry.Adcs ∷ add_carry.Sbc ∷ add_carry.Sbcs ∷ []) k

abbrev pub cond_compare_named : ℕ → CondCompareOp
cond_compare_named k = named cond_compare.Ccmn (cond_compare.Ccmp ∷ []) k

abbrev pub select_named : ℕ → SelectOp
select_named k = named select.Csel (select.Csinc ∷ select.Csinv ∷ select.Csneg ∷ []) k

abbrev pub mul_add_named : ℕ → MulAddOp
mul_add_named k = named mul_add.Madd (mul_add.Msub ∷ []) k

abbrev pub mul_long_named : ℕ → MulLongOp
mul_long_named k = named mul_long.Smaddl (mul_long.Smsubl ∷ mul_long.Umaddl ∷ mul_long.Umsubl ∷ []) k

abbrev pub mul_high_named : ℕ → MulHighOp
mul_high_named k = named mul_high.Smulh (mul_high.Umulh ∷ []) k

abbrev pub two_source_named : ℕ → TwoSourceOp
two_source_named k = named two_source.Udiv (two_source.Sdiv ∷ two_source.Lslv ∷ two_source.Lsrv ∷ two_source.Asrv
    ∷ two_source.Rorv ∷ []) k

abbrev pub one_source_named : ℕ → OneSourceOp
one_source_named k = named one_source.Rbit (one_source.Rev16 ∷ one_source.Clz ∷ one_source.Cls ∷ []) k

abbrev pub rev_named : ℕ → RevOp
rev_named k = named rev.RevW (rev.RevX ∷ rev.Rev32 ∷ []) k

abbrev pub branch_named : ℕ → BranchOp
branch_named k = named branch.B (branch.Bl ∷ []) k

abbrev pub compare_named : ℕ → CompareOp
compare_named k = named compare.Cbz (compare.Cbnz ∷ []) k

abbrev pub test_named : ℕ → TestOp
test_named k = named test.Tbz (test.Tbnz ∷ []) k

abbrev pub branch_reg_named : ℕ → BranchRegOp
branch_reg_named k = named branch_reg.Br (branch_reg.Blr ∷ branch_reg.Ret ∷ []) k

abbrev pub except_named : ℕ → ExceptOp
except_named k = named except.Svc (except.Brk ∷ except.Hlt ∷ []) k

abbrev pub barrier_named : ℕ → BarrierOp
barrier_named k = named barrier.Clrex (barrier.Dsb ∷ barrier.Dmb ∷ barrier.Isb ∷ []) k

abbrev pub read_sys_named : ℕ → ReadSysOp
read_sys_named k = named read_sys.Tpidr (read_sys.Nzcv ∷ read_sys.Dczid ∷ []) k

abbrev pub write_sys_named : ℕ → WriteSysOp
write_sys_named k = named write_sys.Tpidr (write_sys.Nzcv ∷ []) k

abbrev pub store_ex_named : ℕ → StoreExOp
store_ex_named k = named store_ex.Stxr (store_ex.Stlxr ∷ []) k

abbrev pub load_ex_named : ℕ → LoadExOp
load_ex_named k = named load_ex.Ldxr (load_ex.Ldaxr ∷ []) k

abbrev pub ordered_named : ℕ → OrderedOp
ordered_named k = named ordered.Stlr (ordered.Ldar ∷ []) k

abbrev pub atomic_named : ℕ → AtomicOp
atomic_named k = named atomic.Ldadd (atomic.Ldclr ∷ atomic.Ldeor ∷ atomic.Ldset ∷ atomic.Ldsmax ∷ atomic.Ldsmin
    ∷ atomic.Ldumax ∷ atomic.Ldumin ∷ atomic.Swp ∷ []) k

abbrev pub f_move_named : ℕ → FMoveOp
f_move_named k = named f_move.WdSn (f_move.SdWn ∷ f_move.XdDn ∷ f_move.DdXn ∷ []) k
