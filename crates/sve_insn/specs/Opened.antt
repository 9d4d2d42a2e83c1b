-- What opens the lines of the table of SVE instructions for the checker: a test over the table names the last of these,
-- or that of a part.
use Rattle.sve_insn.specs.Lanes.{binary, binary_wide, shift_imm, unary, mul_add_z, mul_add_d, plain, logic_z, plain_wide, plain_shift, index_z, dot, dot_indexed, wide_imm, min_max_imm, dup_imm, bitmask_z, copy_imm, prefix_p, prefix, select_z}
use Rattle.sve_insn.specs.Folds.{reduce, count_elements, inc_x, inc_z, sat_x, sat_z, add_length, read_length, dup_reg, dup_lane, insert_scalar, rev_z, unpack, table_lookup, interleave, interleave_p, unpack_p, rev_p, compact, splice, ext, copy_reg, last_active, cond_last}
use Rattle.sve_insn.specs.Predicates.{cmp_vec, cmp_wide, cmp_u_imm, cmp_s_imm, logic_p, select_p, break_first, break_pair, break_next, ptest, first_active, next_active, ptrue, pfalse, read_ffr, read_ffr_all, write_ffr, count_p, inc_p, inc_p_z, while_compare, cterm}
use Rattle.sve_insn.specs.Memory.{load_imm, load_reg, load_ff, load_nf, load_nt_imm, load_nt_reg, load_quad_imm, load_quad_reg, load_many_imm, load_many_reg, load_one, load_z, load_p, store_imm, store_reg, store_nt_imm, store_nt_reg, store_many_imm, store_many_reg, store_z, store_p, gather_sx, gather_sx_scaled, gather_dx, gather_dx_scaled, gather_d, gather_d_scaled, gather_sv, gather_dv, scatter_sx, scatter_sx_scaled, scatter_dx, scatter_dx_scaled, scatter_d, scatter_d_scaled, scatter_sv, scatter_dv}
use Rattle.sve_insn.specs.Table.{sve_table, memory_lines, data_lines, move_lines, predicate_lines}

unfoldable pub memory_lines_open : Unit {0}
unfolding load_z load_p store_z gather_sx gather_sx_scaled store_reg load_imm load_reg load_ff load_nf load_nt_imm load_nt_reg load_quad_imm load_quad_reg load_many_imm load_many_reg load_one store_imm store_nt_imm store_nt_reg store_many_imm store_many_reg store_p gather_dx gather_dx_scaled gather_d gather_d_scaled gather_sv gather_dv scatter_sx scatter_sx_scaled scatter_dx scatter_dx_scaled scatter_d scatter_d_scaled scatter_sv scatter_dv
memory_lines_open = tt

unfoldable pub data_lines_open : Unit {0}
unfolding binary binary_wide shift_imm unary mul_add_z mul_add_d plain logic_z plain_wide plain_shift index_z prefix_p prefix dot dot_indexed reduce count_elements inc_x inc_z sat_x sat_z add_length read_length
data_lines_open = tt

unfoldable pub move_lines_open : Unit {0}
unfolding bitmask_z copy_imm select_z dup_reg dup_lane insert_scalar rev_z unpack table_lookup interleave interleave_p unpack_p rev_p compact splice ext copy_reg last_active cond_last
move_lines_open = tt

unfoldable pub predicate_lines_open : Unit {0}
unfolding cmp_vec cmp_wide cmp_u_imm cmp_s_imm logic_p select_p break_first break_pair break_next ptest first_active next_active ptrue pfalse read_ffr read_ffr_all write_ffr count_p inc_p inc_p_z while_compare cterm wide_imm min_max_imm dup_imm
predicate_lines_open = tt

-- opens the table and every line of it
unfoldable pub lines_open : Unit {0}
unfolding sve_table memory_lines data_lines move_lines predicate_lines memory_lines_open data_lines_open move_lines_open predicate_lines_open
lines_open = tt
