-- The table of A64 instructions. Its lines are from the Arm Architecture Reference Manual for A-profile (DDI 0487), C4
-- 'A64 Instruction Set Encoding'; which instructions it has, and in which order, is this project's own choice.
use Rattle.std.specs.Prelude.{List, [], ◌∷◌}
use Rattle.emu_bits.specs.Rows.{Line}
use Rattle.a64_insn.specs.declared.form.A64Form.{A64Form}
use Rattle.a64_insn.specs.Data.{adr, add_imm, logic_imm, move_wide, bitfield, extract, logic_reg, add_reg, add_ext, add_carry, cond_reg, cond_imm, select, mul_add, mul_long, mul_high, two_source, one_source, rev}
use Rattle.a64_insn.specs.Flow.{branch, branch_cond, compare, test_branch, branch_reg, except, hint, barrier, read_sys, write_sys}
use Rattle.a64_insn.specs.Memory.{ls_unsigned, ls_unscaled, ls_post, ls_pre, ls_reg, ls_literal, pair, store_ex, load_ex, ordered, atomic, compare_swap}
use Rattle.a64_insn.specs.BitMoves.{f_move, move_imm}

unfoldable pub a64_table : List (Line A64Form)
a64_table =
    adr ∷ add_imm ∷ logic_imm ∷ move_wide ∷ bitfield ∷ extract ∷ logic_reg ∷ add_reg ∷ add_ext ∷ add_carry ∷ cond_reg
    ∷ cond_imm ∷ select ∷ mul_add ∷ mul_long ∷ mul_high ∷ two_source ∷ one_source ∷ rev ∷ branch ∷ branch_cond ∷ compare
    ∷ test_branch ∷ branch_reg ∷ except ∷ hint ∷ barrier ∷ read_sys ∷ write_sys ∷ ls_unsigned ∷ ls_unscaled ∷ ls_post
    ∷ ls_pre ∷ ls_reg ∷ ls_literal ∷ pair ∷ store_ex ∷ load_ex ∷ ordered ∷ atomic ∷ compare_swap ∷ f_move
    ∷ move_imm ∷ []
