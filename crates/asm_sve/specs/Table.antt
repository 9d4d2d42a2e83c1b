-- The patterns of each line of the table of SVE instructions, in its order. The lines are those of the table of this
-- project; the texts are the assembler syntax of the entries of the Arm Architecture Reference Manual for A-profile
-- (DDI 0487), C8 'SVE Instruction Descriptions'.
use Rattle.std.specs.Prelude.{List, [], ◌∷◌, ◌++◌}
use Rattle.text_model.specs.Reading.{Pattern}
use Rattle.text_model.specs.Writing.{flat}
use Rattle.asm_sve.specs.Contiguous.{load_imm_texts, load_reg_texts, load_ff_texts, load_nf_texts, load_nt_imm_texts, load_nt_reg_texts, load_quad_imm_texts, load_quad_reg_texts, load_many_imm_texts, load_many_reg_texts, load_one_texts, load_z_texts, load_p_texts, store_imm_texts, store_reg_texts, store_nt_imm_texts, store_nt_reg_texts, store_many_imm_texts, store_many_reg_texts, store_z_texts, store_p_texts}
use Rattle.asm_sve.specs.Gathers.{gather_sx_texts, gather_sx_scaled_texts, gather_dx_texts, gather_dx_scaled_texts, gather_d_texts, gather_d_scaled_texts, gather_sv_texts, gather_dv_texts, scatter_sx_texts, scatter_sx_scaled_texts, scatter_dx_texts, scatter_dx_scaled_texts, scatter_d_texts, scatter_d_scaled_texts, scatter_sv_texts, scatter_dv_texts}
use Rattle.asm_sve.specs.Lanes.{binary_texts, binary_wide_texts, shift_imm_texts, unary_texts, mul_add_z_texts, mul_add_d_texts, plain_texts, logic_z_texts, plain_wide_texts, plain_shift_texts, index_texts, dot_texts, dot_indexed_texts, wide_imm_texts, min_max_imm_texts, dup_imm_texts, bitmask_z_texts, copy_imm_texts, prefix_p_texts, prefix_texts, select_z_texts}
use Rattle.asm_sve.specs.Folds.{reduce_texts, count_texts, inc_x_texts, inc_z_texts, sat_x_texts, sat_z_texts, add_length_texts, read_length_texts}
use Rattle.asm_sve.specs.Permutes.{dup_reg_texts, dup_lane_texts, insert_texts, rev_z_texts, unpack_texts, table_texts, interleave_texts, interleave_p_texts, unpack_p_texts, rev_p_texts, compact_texts, splice_texts, ext_texts, copy_reg_texts, last_texts, cond_last_texts}
use Rattle.asm_sve.specs.Predicates.{cmp_vec_texts, cmp_wide_texts, cmp_u_imm_texts, cmp_s_imm_texts, logic_p_texts, select_p_texts, break_first_texts, break_pair_texts, break_next_texts, ptest_texts, first_texts, next_texts, ptrue_texts, pfalse_texts, read_ffr_texts, read_ffr_all_texts, write_ffr_texts, count_p_texts, inc_p_texts, inc_p_z_texts, while_texts, cterm_texts}

-- loads and stores
unfoldable pub memory_texts : List (List Pattern)
memory_texts =
    load_z_texts ∷ load_p_texts ∷ store_z_texts ∷ gather_sx_texts ∷ gather_sx_scaled_texts ∷ store_reg_texts
    ∷ load_imm_texts ∷ load_reg_texts ∷ load_ff_texts ∷ load_nf_texts ∷ load_nt_imm_texts ∷ load_nt_reg_texts
    ∷ load_quad_imm_texts ∷ load_quad_reg_texts ∷ load_many_imm_texts ∷ load_many_reg_texts ∷ load_one_texts
    ∷ store_imm_texts ∷ store_nt_imm_texts ∷ store_nt_reg_texts ∷ store_many_imm_texts ∷ store_many_reg_texts
    ∷ store_p_texts ∷ gather_dx_texts ∷ gather_dx_scaled_texts ∷ gather_d_texts ∷ gather_d_scaled_texts
    ∷ gather_sv_texts ∷ gather_dv_texts ∷ scatter_sx_texts ∷ scatter_sx_scaled_texts ∷ scatter_dx_texts
    ∷ scatter_dx_scaled_texts ∷ scatter_d_texts ∷ scatter_d_scaled_texts ∷ scatter_sv_texts ∷ scatter_dv_texts ∷ []

-- results lane by lane, folds, counts
unfoldable pub data_texts : List (List Pattern)
data_texts =
    binary_texts ∷ binary_wide_texts ∷ shift_imm_texts ∷ unary_texts ∷ mul_add_z_texts ∷ mul_add_d_texts
    ∷ plain_texts ∷ logic_z_texts ∷ plain_wide_texts ∷ plain_shift_texts ∷ index_texts ∷ prefix_p_texts
    ∷ prefix_texts ∷ dot_texts ∷ dot_indexed_texts ∷ reduce_texts ∷ count_texts ∷ inc_x_texts ∷ inc_z_texts
    ∷ sat_x_texts ∷ sat_z_texts ∷ add_length_texts ∷ read_length_texts ∷ []

-- copies, selections, permutes
unfoldable pub move_texts : List (List Pattern)
move_texts =
    bitmask_z_texts ∷ copy_imm_texts ∷ select_z_texts ∷ dup_reg_texts ∷ dup_lane_texts ∷ insert_texts ∷ rev_z_texts
    ∷ unpack_texts ∷ table_texts ∷ interleave_texts ∷ interleave_p_texts ∷ unpack_p_texts ∷ rev_p_texts
    ∷ compact_texts ∷ splice_texts ∷ ext_texts ∷ copy_reg_texts ∷ last_texts ∷ cond_last_texts ∷ []

-- comparisons and predicates, and lanes with an immediate of 8 bits
unfoldable pub predicate_texts : List (List Pattern)
predicate_texts =
    cmp_vec_texts ∷ cmp_wide_texts ∷ cmp_u_imm_texts ∷ cmp_s_imm_texts ∷ logic_p_texts ∷ select_p_texts
    ∷ break_first_texts ∷ break_pair_texts ∷ break_next_texts ∷ ptest_texts ∷ first_texts ∷ next_texts
    ∷ ptrue_texts ∷ pfalse_texts ∷ read_ffr_texts ∷ read_ffr_all_texts ∷ write_ffr_texts ∷ count_p_texts
    ∷ inc_p_texts ∷ inc_p_z_texts ∷ while_texts ∷ cterm_texts ∷ wide_imm_texts ∷ min_max_imm_texts ∷ dup_imm_texts ∷ []

unfoldable pub sve_lines : List (List Pattern)
sve_lines = memory_texts ++ (data_texts ++ (move_texts ++ predicate_texts))

-- what a statement is read by
unfoldable pub sve_patterns : List Pattern
sve_patterns = flat sve_lines
