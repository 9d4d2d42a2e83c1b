-- All texts of the table, written out for proofs.
use Rattle.std.specs.Prelude.{List}
use Rattle.text_model.specs.Reading.{Pattern}
use Rattle.text_model.specs.Writing.{flat}
use Rattle.a64_insn.specs.Opened.{lines_open}
use Rattle.asm_a64.specs.Data.{data_lines, adr_texts, add_imm_texts, logic_imm_texts, move_wide_texts, bitfield_texts, extract_texts, logic_reg_texts, add_reg_texts, add_ext_texts, add_carry_texts, cond_reg_texts, cond_imm_texts, select_texts, mul_add_texts, mul_long_texts, mul_high_texts, two_source_texts, one_source_texts, rev_texts}
use Rattle.asm_a64.specs.Flow.{flow_lines, branch_texts, branch_cond_texts, compare_texts, test_texts, branch_reg_texts, except_texts, hint_texts, barrier_texts, read_sys_texts, write_sys_texts}
use Rattle.asm_a64.specs.Memory.{ls_unsigned_texts, ls_unscaled_texts, ls_post_texts, ls_pre_texts, ls_reg_texts, ls_reg_lines, ls_literal_texts, pair_texts, store_ex_texts, load_ex_texts, ordered_texts, atomic_texts, compare_swap_texts}
use Rattle.asm_a64.specs.BitMoves.{f_move_texts, move_imm_texts}
use Rattle.asm_a64.specs.Table.{line_texts}

-- opens the patterns of every line, and the line
unfoldable pub texts_open : Unit {0}
unfolding lines_open data_lines flow_lines adr_texts add_imm_texts logic_imm_texts move_wide_texts bitfield_texts extract_texts logic_reg_texts add_reg_texts add_ext_texts add_carry_texts cond_reg_texts cond_imm_texts select_texts mul_add_texts mul_long_texts mul_high_texts two_source_texts one_source_texts rev_texts branch_texts branch_cond_texts compare_texts test_texts branch_reg_texts except_texts hint_texts barrier_texts read_sys_texts write_sys_texts ls_unsigned_texts ls_unscaled_texts ls_post_texts ls_pre_texts ls_reg_texts ls_reg_lines ls_literal_texts pair_texts store_ex_texts load_ex_texts ordered_texts atomic_texts compare_swap_texts f_move_texts move_imm_texts
texts_open = tt

unfoldable pub printed_patterns : List Pattern
printed_patterns = flat line_texts
