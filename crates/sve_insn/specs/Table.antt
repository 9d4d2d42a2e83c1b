-- The table of SVE instructions. Its lines are from the Arm Architecture Reference Manual for A-profile (DDI 0487), C4
-- 'A64 Instruction Set Encoding', 'SVE encodings'; which instructions it has, and in which order, is this project's own
-- choice.
use Rattle.std.specs.Prelude.{List, [], ◌∷◌, ◌++◌}
use Rattle.emu_bits.specs.Rows.{Line}
use Rattle.sve_insn.specs.declared.form.SveForm.{SveForm}
use Rattle.sve_insn.specs.Lanes.{binary, binary_wide, shift_imm, unary, mul_add_z, mul_add_d, plain, logic_z, plain_wide, plain_shift, index_z, dot, dot_indexed, wide_imm, min_max_imm, dup_imm, bitmask_z, copy_imm, prefix_p, prefix, select_z}
use Rattle.sve_insn.specs.Folds.{reduce, count_elements, inc_x, inc_z, sat_x, sat_z, add_length, read_length, dup_reg, dup_lane, insert_scalar, rev_z, unpack, table_lookup, interleave, interleave_p, unpack_p, rev_p, compact, splice, ext, copy_reg, last_active, cond_last}
use Rattle.sve_insn.specs.Predicates.{cmp_vec, cmp_wide, cmp_u_imm, cmp_s_imm, logic_p, select_p, break_first, break_pair, break_next, ptest, first_active, next_active, ptrue, pfalse, read_ffr, read_ffr_all, write_ffr, count_p, inc_p, inc_p_z, while_compare, cterm}
use Rattle.sve_insn.specs.Memory.{load_imm, load_reg, load_ff, load_nf, load_nt_imm, load_nt_reg, load_quad_imm, load_quad_reg, load_many_imm, load_many_reg, load_one, load_z, load_p, store_imm, store_reg, store_nt_imm, store_nt_reg, store_many_imm, store_many_reg, store_z, store_p, gather_sx, gather_sx_scaled, gather_dx, gather_dx_scaled, gather_d, gather_d_scaled, gather_sv, gather_dv, scatter_sx, scatter_sx_scaled, scatter_dx, scatter_dx_scaled, scatter_d, scatter_d_scaled, scatter_sv, scatter_dv}

-- bit 31 is 1: loads and stores
unfoldable pub memory_lines : List (Line SveForm)
memory_lines =
    load_z ∷ load_p ∷ store_z ∷ gather_sx ∷ gather_sx_scaled ∷ store_reg ∷ load_imm ∷ load_reg ∷ load_ff ∷ load_nf
    ∷ load_nt_imm ∷ load_nt_reg ∷ load_quad_imm ∷ load_quad_reg ∷ load_many_imm ∷ load_many_reg ∷ load_one ∷ store_imm
    ∷ store_nt_imm ∷ store_nt_reg ∷ store_many_imm ∷ store_many_reg ∷ store_p ∷ gather_dx ∷ gather_dx_scaled ∷ gather_d
    ∷ gather_d_scaled ∷ gather_sv ∷ gather_dv ∷ scatter_sx ∷ scatter_sx_scaled ∷ scatter_dx ∷ scatter_dx_scaled
    ∷ scatter_d ∷ scatter_d_scaled ∷ scatter_sv ∷ scatter_dv ∷ []

-- bits 31 to 24 are 04 or 44, or 05 in some reversals: results lane by lane, folds, counts
unfoldable pub data_lines : List (Line SveForm)
data_lines =
    binary ∷ binary_wide ∷ shift_imm ∷ unary ∷ mul_add_z ∷ mul_add_d ∷ plain ∷ logic_z ∷ plain_wide ∷ plain_shift
    ∷ index_z ∷ prefix_p ∷ prefix ∷ dot ∷ dot_indexed ∷ reduce ∷ count_elements ∷ inc_x ∷ inc_z ∷ sat_x ∷ sat_z
    ∷ add_length ∷ read_length ∷ []

-- bits 31 to 24 are 05: copies, selections, permutes
unfoldable pub move_lines : List (Line SveForm)
move_lines =
    bitmask_z ∷ copy_imm ∷ select_z ∷ dup_reg ∷ dup_lane ∷ insert_scalar ∷ rev_z ∷ unpack ∷ table_lookup ∷ interleave
    ∷ interleave_p ∷ unpack_p ∷ rev_p ∷ compact ∷ splice ∷ ext ∷ copy_reg ∷ last_active ∷ cond_last ∷ []

-- bits 31 to 24 are 24 or 25: comparisons and predicates, and lanes with an immediate of 8 bits
unfoldable pub predicate_lines : List (Line SveForm)
predicate_lines =
    cmp_vec ∷ cmp_wide ∷ cmp_u_imm ∷ cmp_s_imm ∷ logic_p ∷ select_p ∷ break_first ∷ break_pair ∷ break_next ∷ ptest
    ∷ first_active ∷ next_active ∷ ptrue ∷ pfalse ∷ read_ffr ∷ read_ffr_all ∷ write_ffr ∷ count_p ∷ inc_p ∷ inc_p_z
    ∷ while_compare ∷ cterm ∷ wide_imm ∷ min_max_imm ∷ dup_imm ∷ []

unfoldable pub sve_table : List (Line SveForm)
sve_table = memory_lines ++ (data_lines ++ (move_lines ++ predicate_lines))
