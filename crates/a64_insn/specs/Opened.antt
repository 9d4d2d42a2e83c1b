-- What opens the lines of the table of A64 instructions for the checker: a test over the table names it.
use Rattle.a64_insn.specs.Data.{adr, add_imm, logic_imm, move_wide, bitfield, extract, logic_reg, add_reg, add_ext, add_carry, cond_reg, cond_imm, select, mul_add, mul_long, mul_high, two_source, one_source, rev}
use Rattle.a64_insn.specs.Flow.{branch, branch_cond, compare, test_branch, branch_reg, except, hint, barrier, read_sys, write_sys}
use Rattle.a64_insn.specs.Memory.{ls_unsigned, ls_unscaled, ls_post, ls_pre, ls_reg, ls_literal, pair, store_ex, load_ex, ordered, atomic, compare_swap}
use Rattle.a64_insn.specs.BitMoves.{f_move, move_imm}

-- opens every line of the table
unfoldable pub lines_open : Unit {0}
unfolding adr add_imm logic_imm move_wide bitfield extract logic_reg add_reg add_ext add_carry cond_reg cond_imm select mul_add mul_long mul_high two_source one_source rev branch branch_cond compare test_branch branch_reg except hint barrier read_sys write_sys ls_unsigned ls_unscaled ls_post ls_pre ls_reg ls_literal pair store_ex load_ex ordered atomic compare_swap f_move move_imm
lines_open = tt
