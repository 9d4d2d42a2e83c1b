-- Which row of the table a form is: the way back from an instruction to its word.
use Rattle.std.specs.Prelude.{ℕ, Bool, [], ◌∷◌}
use Rattle.emu_bits.specs.Fields.{bit}
use Rattle.emu_bits.specs.Rows.{Row}
use Rattle.emu_bits.specs.RowLaws.{meets}
use Rattle.a64_insn.specs.declared.form.A64Form.{A64Form}
use Rattle.a64_insn.specs.declared.form.A64Form.TheVariants.{Adr, AddImm, LogicImm, MoveWide, Bitfield, Extract, LogicReg, AddReg, AddExt, AddCarry, CondReg, CondImm, Select, MulAdd, MulLong, MulHigh, TwoSource, OneSource, Rev, Branch, BranchCond, Compare, Test, BranchReg, Except, Hint, Barrier, ReadSys, WriteSys, LsUnsigned, LsUnscaled, LsPost, LsPre, LsReg, LsLiteral, Pair, StoreEx, LoadEx, Ordered, Atomic, CompareSwap, FMove, MoveImm}
use Rattle.a64_insn.specs.declared.lines.TheConstants as line
use Rattle.a64_insn.specs.Numbers.{add_carry_number, add_number, adr_number, atomic_number, barrier_number, bitfield_number, branch_number, branch_reg_number, compare_number, cond_compare_number, except_number, f_move_number, load_ex_number, logic_imm_number, logic_reg_number, move_wide_number, mul_add_number, mul_high_number, mul_long_number, one_source_number, ordered_number, read_sys_number, rev_number, select_number, store_ex_number, test_number, two_source_number, write_sys_number}
use Rattle.a64_insn.specs.Data.{adr, add_imm, logic_imm, move_wide, bitfield, extract, logic_reg, add_reg, add_ext, add_carry, cond_reg, cond_imm, select, mul_add, mul_long, mul_high, two_source, one_source, rev}
use Rattle.a64_insn.specs.Flow.{branch, branch_cond, compare, test_branch, branch_reg, except, hint, barrier, read_sys, write_sys}
use Rattle.a64_insn.specs.Memory.{ls_unsigned, ls_unscaled, ls_post, ls_pre, ls_reg, ls_literal, pair, store_ex, load_ex, ordered, atomic, compare_swap}
use Rattle.a64_insn.specs.BitMoves.{f_move, move_imm}

-- the row of a form
abbrev pub row_of : A64Form → Row A64Form
row_of (Adr op immlo immhi rd) = record { line = adr; number = adr_number op; values = immlo ∷ immhi ∷ rd ∷ [] }
row_of (AddImm op sf sh imm12 rn rd) = record { line = add_imm; number = add_number op; values = bit sf ∷ bit sh ∷ imm12 ∷ rn ∷ rd ∷ [] }
row_of (LogicImm op sf n immr imms rn rd) = record { line = logic_imm; number = logic_imm_number op; values = bit sf ∷ bit n ∷ immr ∷ imms ∷ rn ∷ rd ∷ [] }
row_of (MoveWide op sf hw imm16 rd) = record { line = move_wide; number = move_wide_number op; values = bit sf ∷ hw ∷ imm16 ∷ rd ∷ [] }
row_of (Bitfield op sf n r s rn rd) = record { line = bitfield; number = bitfield_number op; values = bit sf ∷ bit n ∷ r ∷ s ∷ rn ∷ rd ∷ [] }
row_of (Extract sf n rm s rn rd) = record { line = extract; number = 0; values = bit sf ∷ bit n ∷ rm ∷ s ∷ rn ∷ rd ∷ [] }
row_of (LogicReg op sf shift rm amount rn rd) = record { line = logic_reg; number = logic_reg_number op; values = bit sf ∷ shift ∷ rm ∷ amount ∷ rn ∷ rd ∷ [] }
row_of (AddReg op sf shift rm amount rn rd) = record { line = add_reg; number = add_number op; values = bit sf ∷ shift ∷ rm ∷ amount ∷ rn ∷ rd ∷ [] }
row_of (AddExt op sf rm ext a rn rd) = record { line = add_ext; number = add_number op; values = bit sf ∷ rm ∷ ext ∷ a ∷ rn ∷ rd ∷ [] }
row_of (AddCarry op sf rm rn rd) = record { line = add_carry; number = add_carry_number op; values = bit sf ∷ rm ∷ rn ∷ rd ∷ [] }
row_of (CondReg op sf rm cond rn f) = record { line = cond_reg; number = cond_compare_number op; values = bit sf ∷ rm ∷ cond ∷ rn ∷ f ∷ [] }
row_of (CondImm op sf i cond rn f) = record { line = cond_imm; number = cond_compare_number op; values = bit sf ∷ i ∷ cond ∷ rn ∷ f ∷ [] }
row_of (Select op sf rm cond rn rd) = record { line = select; number = select_number op; values = bit sf ∷ rm ∷ cond ∷ rn ∷ rd ∷ [] }
row_of (MulAdd op sf rm ra rn rd) = record { line = mul_add; number = mul_add_number op; values = bit sf ∷ rm ∷ ra ∷ rn ∷ rd ∷ [] }
row_of (MulLong op rm ra rn rd) = record { line = mul_long; number = mul_long_number op; values = rm ∷ ra ∷ rn ∷ rd ∷ [] }
row_of (MulHigh op rm rn rd) = record { line = mul_high; number = mul_high_number op; values = rm ∷ rn ∷ rd ∷ [] }
row_of (TwoSource op sf rm rn rd) = record { line = two_source; number = two_source_number op; values = bit sf ∷ rm ∷ rn ∷ rd ∷ [] }
row_of (OneSource op sf rn rd) = record { line = one_source; number = one_source_number op; values = bit sf ∷ rn ∷ rd ∷ [] }
row_of (Rev op rn rd) = record { line = rev; number = rev_number op; values = rn ∷ rd ∷ [] }
row_of (Branch op imm26) = record { line = branch; number = branch_number op; values = imm26 ∷ [] }
row_of (BranchCond imm19 cond) = record { line = branch_cond; number = 0; values = imm19 ∷ cond ∷ [] }
row_of (Compare op sf imm19 rt) = record { line = compare; number = compare_number op; values = bit sf ∷ imm19 ∷ rt ∷ [] }
row_of (Test op b5 b40 imm14 rt) = record { line = test_branch; number = test_number op; values = bit b5 ∷ b40 ∷ imm14 ∷ rt ∷ [] }
row_of (BranchReg op rn) = record { line = branch_reg; number = branch_reg_number op; values = rn ∷ [] }
row_of (Except op imm16) = record { line = except; number = except_number op; values = imm16 ∷ [] }
row_of (Hint n) = record { line = hint; number = 0; values = n ∷ [] }
row_of (Barrier op n) = record { line = barrier; number = barrier_number op; values = n ∷ [] }
row_of (ReadSys op rt) = record { line = read_sys; number = read_sys_number op; values = rt ∷ [] }
row_of (WriteSys op rt) = record { line = write_sys; number = write_sys_number op; values = rt ∷ [] }
row_of (LsUnsigned size v opc imm12 rn rt) = record { line = ls_unsigned; number = 0; values = size ∷ bit v ∷ opc ∷ imm12 ∷ rn ∷ rt ∷ [] }
row_of (LsUnscaled size v opc imm9 rn rt) = record { line = ls_unscaled; number = 0; values = size ∷ bit v ∷ opc ∷ imm9 ∷ rn ∷ rt ∷ [] }
row_of (LsPost size v opc imm9 rn rt) = record { line = ls_post; number = 0; values = size ∷ bit v ∷ opc ∷ imm9 ∷ rn ∷ rt ∷ [] }
row_of (LsPre size v opc imm9 rn rt) = record { line = ls_pre; number = 0; values = size ∷ bit v ∷ opc ∷ imm9 ∷ rn ∷ rt ∷ [] }
row_of (LsReg size v opc rm ext s rn rt) = record { line = ls_reg; number = 0; values = size ∷ bit v ∷ opc ∷ rm ∷ ext ∷ bit s ∷ rn ∷ rt ∷ [] }
row_of (LsLiteral opc v imm19 rt) = record { line = ls_literal; number = 0; values = opc ∷ bit v ∷ imm19 ∷ rt ∷ [] }
row_of (Pair opc v mode l imm7 rt2 rn rt) = record { line = pair; number = 0; values = opc ∷ bit v ∷ mode ∷ bit l ∷ imm7 ∷ rt2 ∷ rn ∷ rt ∷ [] }
row_of (StoreEx op size rs rn rt) = record { line = store_ex; number = store_ex_number op; values = size ∷ rs ∷ rn ∷ rt ∷ [] }
row_of (LoadEx op size rn rt) = record { line = load_ex; number = load_ex_number op; values = size ∷ rn ∷ rt ∷ [] }
row_of (Ordered op size rn rt) = record { line = ordered; number = ordered_number op; values = size ∷ rn ∷ rt ∷ [] }
row_of (Atomic op size acquires releases rs rn rt) = record { line = atomic; number = atomic_number op; values = size ∷ bit acquires ∷ bit releases ∷ rs ∷ rn ∷ rt ∷ [] }
row_of (CompareSwap size acquires releases rs rn rt) = record { line = compare_swap; number = 0; values = size ∷ bit acquires ∷ bit releases ∷ rs ∷ rn ∷ rt ∷ [] }
row_of (FMove op rn rd) = record { line = f_move; number = f_move_number op; values = rn ∷ rd ∷ [] }
row_of (MoveImm q op abc cmode defgh rd) = record { line = move_imm; number = 0; values = bit q ∷ bit op ∷ abc ∷ cmode ∷ defgh ∷ rd ∷ [] }

-- the place of a form's line in the table
abbrev pub line_number : A64Form → ℕ
line_number (Adr op immlo immhi rd) = line.ADR
line_number (AddImm op sf sh imm12 rn rd) = line.ADD_IMM
line_number (LogicImm op sf n immr imms rn rd) = line.LOGIC_IMM
line_number (MoveWide op sf hw imm16 rd) = line.MOVE_WIDE
line_number (Bitfield op sf n r s rn rd) = line.BITFIELD
line_number (Extract sf n rm s rn rd) = line.EXTRACT
line_number (LogicReg op sf shift rm amount rn rd) = line.LOGIC_REG
line_number (AddReg op sf shift rm amount rn rd) = line.ADD_REG
line_number (AddExt op sf rm ext a rn rd) = line.ADD_EXT
line_number (AddCarry op sf rm rn rd) = line.ADD_CARRY
line_number (CondReg op sf rm cond rn f) = line.COND_REG
line_number (CondImm op sf i cond rn f) = line.COND_IMM
line_number (Select op sf rm cond rn rd) = line.SELECT
line_number (MulAdd op sf rm ra rn rd) = line.MUL_ADD
line_number (MulLong op rm ra rn rd) = line.MUL_LONG
line_number (MulHigh op rm rn rd) = line.MUL_HIGH
line_number (TwoSource op sf rm rn rd) = line.TWO_SOURCE
line_number (OneSource op sf rn rd) = line.ONE_SOURCE
line_number (Rev op rn rd) = line.REV
line_number (Branch op imm26) = line.BRANCH
line_number (BranchCond imm19 cond) = line.BRANCH_COND
line_number (Compare op sf imm19 rt) = line.COMPARE
line_number (Test op b5 b40 imm14 rt) = line.TEST
line_number (BranchReg op rn) = line.BRANCH_REG
line_number (Except op imm16) = line.EXCEPT
line_number (Hint n) = line.HINT
line_number (Barrier op n) = line.BARRIER
line_number (ReadSys op rt) = line.READ_SYS
line_number (WriteSys op rt) = line.WRITE_SYS
line_number (LsUnsigned size v opc imm12 rn rt) = line.LS_UNSIGNED
line_number (LsUnscaled size v opc imm9 rn rt) = line.LS_UNSCALED
line_number (LsPost size v opc imm9 rn rt) = line.LS_POST
line_number (LsPre size v opc imm9 rn rt) = line.LS_PRE
line_number (LsReg size v opc rm ext s rn rt) = line.LS_REG
line_number (LsLiteral opc v imm19 rt) = line.LS_LITERAL
line_number (Pair opc v mode l imm7 rt2 rn rt) = line.PAIR
line_number (StoreEx op size rs rn rt) = line.STORE_EX
line_number (LoadEx op size rn rt) = line.LOAD_EX
line_number (Ordered op size rn rt) = line.ORDERED
line_number (Atomic op size acquires releases rs rn rt) = line.ATOMIC
line_number (CompareSwap size acquires releases rs rn rt) = line.COMPARE_SWAP
line_number (FMove op rn rd) = line.F_MOVE
line_number (MoveImm q op abc cmode defgh rd) = line.MOVE_IMM

-- the condition of a form's line
abbrev pub meets_form : A64Form → Bool
meets_form f = meets (row_of f)
