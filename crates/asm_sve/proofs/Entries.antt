-- Each line of the table beside the patterns of its text, with the places by which one of them is chosen.
use Rattle.std.specs.Prelude.{◌≡◌, ℕ, Bool, true, refl, List, [], ◌∷◌}
use Rattle.emu_bits.specs.Rows.{Place, Line, ◌to◌, values, value_at}
use Rattle.sve_insn.specs.declared.form.SveForm.{SveForm}
use Rattle.text_model.specs.Reading.{Pattern}
use Rattle.sve_insn.specs.Names.{write_ffr_named}
use Rattle.sve_insn.specs.Conditions.{extends_to_doubleword, extends_to_word, gather_scaled_doubleword_holds_for, gather_scaled_word_holds_for, gather_word_holds_for, is_halfword_or_word, is_no_byte, is_no_doubleword, has_tsz, has_lane_size, write_ffr_holds_for}
use Rattle.sve_insn.specs.Folds.{reduce, count_elements, inc_x, inc_z, sat_x, sat_z, add_length, read_length, dup_reg, dup_lane, insert_scalar, rev_z, unpack, table_lookup, interleave, interleave_p, unpack_p, rev_p, compact, splice, ext, copy_reg, last_active, cond_last}
use Rattle.sve_insn.specs.Lanes.{binary, binary_wide, shift_imm, unary, mul_add_z, mul_add_d, plain, logic_z, plain_wide, plain_shift, index_z, prefix_p, prefix, dot, dot_indexed, bitmask_z, copy_imm, select_z, wide_imm, min_max_imm, dup_imm}
use Rattle.sve_insn.specs.Memory.{load_z, load_p, store_z, gather_sx, gather_sx_scaled, store_reg, load_imm, load_reg, load_ff, load_nf, load_nt_imm, load_nt_reg, load_quad_imm, load_quad_reg, load_many_imm, load_many_reg, load_one, store_imm, store_nt_imm, store_nt_reg, store_many_imm, store_many_reg, store_p, gather_dx, gather_dx_scaled, gather_d, gather_d_scaled, gather_sv, gather_dv, scatter_sx, scatter_sx_scaled, scatter_dx, scatter_dx_scaled, scatter_d, scatter_d_scaled, scatter_sv, scatter_dv}
use Rattle.sve_insn.specs.Predicates.{cmp_vec, cmp_wide, cmp_u_imm, cmp_s_imm, logic_p, select_p, break_first, break_pair, break_next, ptest, first_active, next_active, ptrue, pfalse, read_ffr, read_ffr_all, write_ffr, count_p, inc_p, inc_p_z, while_compare, cterm}
use Rattle.asm_sve.specs.Contiguous.{load_imm_texts, load_reg_texts, load_ff_texts, load_nf_texts, load_nt_imm_texts, load_nt_reg_texts, load_quad_imm_texts, load_quad_reg_texts, load_many_imm_texts, load_many_reg_texts, load_one_texts, load_z_texts, load_p_texts, store_imm_texts, store_reg_texts, store_nt_imm_texts, store_nt_reg_texts, store_many_imm_texts, store_many_reg_texts, store_z_texts, store_p_texts}
use Rattle.asm_sve.specs.Gathers.{gather_sx_texts, gather_sx_scaled_texts, gather_dx_texts, gather_dx_scaled_texts, gather_d_texts, gather_d_scaled_texts, gather_sv_texts, gather_dv_texts, scatter_sx_texts, scatter_sx_scaled_texts, scatter_dx_texts, scatter_dx_scaled_texts, scatter_d_texts, scatter_d_scaled_texts, scatter_sv_texts, scatter_dv_texts}
use Rattle.asm_sve.specs.Lanes.{binary_texts, binary_wide_texts, shift_imm_texts, unary_texts, mul_add_z_texts, mul_add_d_texts, plain_texts, logic_z_texts, plain_wide_texts, plain_shift_texts, index_texts, dot_texts, dot_indexed_texts, wide_imm_texts, min_max_imm_texts, dup_imm_texts, bitmask_z_texts, copy_imm_texts, prefix_p_texts, prefix_texts, select_z_texts}
use Rattle.asm_sve.specs.Folds.{reduce_texts, count_texts, inc_x_texts, inc_z_texts, sat_x_texts, sat_z_texts, add_length_texts, read_length_texts}
use Rattle.asm_sve.specs.Permutes.{dup_reg_texts, dup_lane_texts, insert_texts, rev_z_texts, unpack_texts, table_texts, interleave_texts, interleave_p_texts, unpack_p_texts, rev_p_texts, compact_texts, splice_texts, ext_texts, copy_reg_texts, last_texts, cond_last_texts}
use Rattle.asm_sve.specs.KindsOpened.{memory_texts_open, data_texts_open, move_texts_open, predicate_texts_open}
use Rattle.asm_sve.specs.Predicates.{cmp_vec_texts, cmp_wide_texts, cmp_u_imm_texts, cmp_s_imm_texts, logic_p_texts, select_p_texts, break_first_texts, break_pair_texts, break_next_texts, ptest_texts, first_texts, next_texts, ptrue_texts, pfalse_texts, read_ffr_texts, read_ffr_all_texts, write_ffr_texts, count_p_texts, inc_p_texts, inc_p_z_texts, while_texts, cterm_texts}

-- A line with the patterns of its text, and the places by which one of them is chosen. What is known of the values there follows from
-- the line's condition.
pub record Entry : Type 0 where
  pub texts : List Pattern
  pub line : Line SveForm
  pub by : List Place
  pub known : ℕ → List ℕ → Bool
  pub follows : (k w : ℕ) → line.holds k (values line.places w) ≡ true → known k (values by w) ≡ true

-- one is chosen whatever the places hold
abbrev pub always : List Pattern → Line SveForm → List Place → Entry
always qs l ps = record { texts = qs; line = l; by = ps; known = λ k vs. true; follows = λ k w h. refl }

-- one is chosen if the line's condition holds
abbrev pub where_it_holds : (qs : List Pattern) (l : Line SveForm) (ps : List Place) (ok : ℕ → List ℕ → Bool)
    → ((k w : ℕ) → l.holds k (values l.places w) ≡ true → ok k (values ps w) ≡ true) → Entry
where_it_holds qs l ps ok f = record { texts = qs; line = l; by = ps; known = ok; follows = f }

abbrev pub texts_in : List Entry → List (List Pattern)
texts_in [] = []
texts_in (e ∷ es) = e.texts ∷ texts_in es

-- loads and stores
unfoldable pub memory_entries : List Entry
unfolding memory_texts_open extends_to_doubleword extends_to_word gather_scaled_doubleword_holds_for gather_scaled_word_holds_for gather_word_holds_for is_halfword_or_word is_no_byte is_no_doubleword
memory_entries =
    always load_z_texts load_z []
    ∷ always load_p_texts load_p []
    ∷ always store_z_texts store_z []
    ∷ where_it_holds gather_sx_texts gather_sx ((24 to 23) ∷ (14 to 14) ∷ (13 to 13) ∷ [])
    (λ k vs. gather_word_holds_for (value_at vs 0) (value_at vs 1)) (λ k w h. h)
    ∷ where_it_holds gather_sx_scaled_texts gather_sx_scaled ((24 to 23) ∷ (14 to 14) ∷ (13 to 13) ∷ [])
    (λ k vs. gather_scaled_word_holds_for (value_at vs 0) (value_at vs 1)) (λ k w h. h)
    ∷ always store_reg_texts store_reg ((24 to 23) ∷ [])
    ∷ always load_imm_texts load_imm ((24 to 21) ∷ [])
    ∷ always load_reg_texts load_reg ((24 to 21) ∷ [])
    ∷ always load_ff_texts load_ff ((24 to 21) ∷ [])
    ∷ always load_nf_texts load_nf ((24 to 21) ∷ [])
    ∷ always load_nt_imm_texts load_nt_imm ((24 to 23) ∷ [])
    ∷ always load_nt_reg_texts load_nt_reg ((24 to 23) ∷ [])
    ∷ always load_quad_imm_texts load_quad_imm ((24 to 23) ∷ [])
    ∷ always load_quad_reg_texts load_quad_reg ((24 to 23) ∷ [])
    ∷ always load_many_imm_texts load_many_imm ((24 to 23) ∷ [])
    ∷ always load_many_reg_texts load_many_reg ((24 to 23) ∷ [])
    ∷ always load_one_texts load_one ((24 to 23) ∷ (14 to 13) ∷ [])
    ∷ always store_imm_texts store_imm ((24 to 23) ∷ [])
    ∷ always store_nt_imm_texts store_nt_imm ((24 to 23) ∷ [])
    ∷ always store_nt_reg_texts store_nt_reg ((24 to 23) ∷ [])
    ∷ always store_many_imm_texts store_many_imm ((24 to 23) ∷ [])
    ∷ always store_many_reg_texts store_many_reg ((24 to 23) ∷ [])
    ∷ always store_p_texts store_p []
    ∷ where_it_holds gather_dx_texts gather_dx ((24 to 23) ∷ (14 to 14) ∷ (13 to 13) ∷ [])
    (λ k vs. extends_to_doubleword (value_at vs 0) (value_at vs 1)) (λ k w h. h)
    ∷ where_it_holds gather_dx_scaled_texts gather_dx_scaled ((24 to 23) ∷ (14 to 14) ∷ (13 to 13) ∷ [])
    (λ k vs. gather_scaled_doubleword_holds_for (value_at vs 0) (value_at vs 1)) (λ k w h. h)
    ∷ where_it_holds gather_d_texts gather_d ((24 to 23) ∷ (14 to 14) ∷ (13 to 13) ∷ [])
    (λ k vs. extends_to_doubleword (value_at vs 0) (value_at vs 1)) (λ k w h. h)
    ∷ where_it_holds gather_d_scaled_texts gather_d_scaled ((24 to 23) ∷ (14 to 14) ∷ (13 to 13) ∷ [])
    (λ k vs. gather_scaled_doubleword_holds_for (value_at vs 0) (value_at vs 1)) (λ k w h. h)
    ∷ where_it_holds gather_sv_texts gather_sv ((24 to 23) ∷ (14 to 14) ∷ (13 to 13) ∷ [])
    (λ k vs. gather_word_holds_for (value_at vs 0) (value_at vs 1)) (λ k w h. h)
    ∷ where_it_holds gather_dv_texts gather_dv ((24 to 23) ∷ (14 to 14) ∷ (13 to 13) ∷ [])
    (λ k vs. extends_to_doubleword (value_at vs 0) (value_at vs 1)) (λ k w h. h)
    ∷ where_it_holds scatter_sx_texts scatter_sx ((24 to 23) ∷ [])
    (λ k vs. is_no_doubleword (value_at vs 0)) (λ k w h. h)
    ∷ where_it_holds scatter_sx_scaled_texts scatter_sx_scaled ((24 to 23) ∷ [])
    (λ k vs. is_halfword_or_word (value_at vs 0)) (λ k w h. h)
    ∷ always scatter_dx_texts scatter_dx ((24 to 23) ∷ [])
    ∷ where_it_holds scatter_dx_scaled_texts scatter_dx_scaled ((24 to 23) ∷ [])
    (λ k vs. is_no_byte (value_at vs 0)) (λ k w h. h)
    ∷ always scatter_d_texts scatter_d ((24 to 23) ∷ [])
    ∷ where_it_holds scatter_d_scaled_texts scatter_d_scaled ((24 to 23) ∷ [])
    (λ k vs. is_no_byte (value_at vs 0)) (λ k w h. h)
    ∷ where_it_holds scatter_sv_texts scatter_sv ((24 to 23) ∷ [])
    (λ k vs. is_no_doubleword (value_at vs 0)) (λ k w h. h)
    ∷ always scatter_dv_texts scatter_dv ((24 to 23) ∷ []) ∷ []

-- results lane by lane, folds, counts
unfoldable pub data_entries : List Entry
unfolding data_texts_open has_tsz is_no_byte is_no_doubleword
data_entries =
    always binary_texts binary ((23 to 22) ∷ [])
    ∷ where_it_holds binary_wide_texts binary_wide ((23 to 22) ∷ [])
    (λ k vs. is_no_doubleword (value_at vs 0)) (λ k w h. h)
    ∷ where_it_holds shift_imm_texts shift_imm ((23 to 22) ∷ (9 to 8) ∷ [])
    (λ k vs. has_tsz (value_at vs 0) (value_at vs 1)) (λ k w h. h)
    ∷ always unary_texts unary []
    ∷ always mul_add_z_texts mul_add_z []
    ∷ always mul_add_d_texts mul_add_d []
    ∷ always plain_texts plain []
    ∷ always logic_z_texts logic_z []
    ∷ always plain_wide_texts plain_wide []
    ∷ where_it_holds plain_shift_texts plain_shift ((23 to 22) ∷ (20 to 19) ∷ [])
    (λ k vs. has_tsz (value_at vs 0) (value_at vs 1)) (λ k w h. h)
    ∷ always index_texts index_z []
    ∷ always prefix_p_texts prefix_p []
    ∷ always prefix_texts prefix []
    ∷ always dot_texts dot []
    ∷ always dot_indexed_texts dot_indexed []
    ∷ always reduce_texts reduce []
    ∷ always count_texts count_elements ((23 to 22) ∷ (9 to 5) ∷ [])
    ∷ always inc_x_texts inc_x ((23 to 22) ∷ (9 to 5) ∷ [])
    ∷ where_it_holds inc_z_texts inc_z ((23 to 22) ∷ (9 to 5) ∷ []) (λ k vs. is_no_byte (value_at vs 0)) (λ k w h. h)
    ∷ always sat_x_texts sat_x ((23 to 22) ∷ (20 to 20) ∷ (9 to 5) ∷ [])
    ∷ where_it_holds sat_z_texts sat_z ((23 to 22) ∷ (9 to 5) ∷ []) (λ k vs. is_no_byte (value_at vs 0)) (λ k w h. h)
    ∷ always add_length_texts add_length []
    ∷ always read_length_texts read_length [] ∷ []

-- copies, selections, permutes
unfoldable pub move_entries : List Entry
unfolding move_texts_open has_lane_size
move_entries =
    always bitmask_z_texts bitmask_z []
    ∷ always copy_imm_texts copy_imm []
    ∷ always select_z_texts select_z []
    ∷ always dup_reg_texts dup_reg []
    ∷ where_it_holds dup_lane_texts dup_lane ((20 to 16) ∷ []) (λ k vs. has_lane_size (value_at vs 0)) (λ k w h. h)
    ∷ always insert_texts insert_scalar []
    ∷ always rev_z_texts rev_z []
    ∷ always unpack_texts unpack []
    ∷ always table_texts table_lookup []
    ∷ always interleave_texts interleave []
    ∷ always interleave_p_texts interleave_p []
    ∷ always unpack_p_texts unpack_p []
    ∷ always rev_p_texts rev_p []
    ∷ always compact_texts compact []
    ∷ always splice_texts splice []
    ∷ always ext_texts ext []
    ∷ always copy_reg_texts copy_reg []
    ∷ always last_texts last_active []
    ∷ always cond_last_texts cond_last [] ∷ []

-- comparisons and predicates, and lanes with an immediate of 8 bits
unfoldable pub predicate_entries : List Entry
unfolding predicate_texts_open is_no_doubleword write_ffr_holds_for
predicate_entries =
    always cmp_vec_texts cmp_vec ((23 to 22) ∷ [])
    ∷ where_it_holds cmp_wide_texts cmp_wide ((23 to 22) ∷ []) (λ k vs. is_no_doubleword (value_at vs 0)) (λ k w h. h)
    ∷ always cmp_u_imm_texts cmp_u_imm []
    ∷ always cmp_s_imm_texts cmp_s_imm []
    ∷ always logic_p_texts logic_p ((22 to 22) ∷ [])
    ∷ always select_p_texts select_p []
    ∷ always break_first_texts break_first ((22 to 22) ∷ [])
    ∷ always break_pair_texts break_pair ((22 to 22) ∷ [])
    ∷ always break_next_texts break_next ((22 to 22) ∷ [])
    ∷ always ptest_texts ptest []
    ∷ always first_texts first_active []
    ∷ always next_texts next_active []
    ∷ always ptrue_texts ptrue ((9 to 5) ∷ [])
    ∷ always pfalse_texts pfalse []
    ∷ always read_ffr_texts read_ffr []
    ∷ always read_ffr_all_texts read_ffr_all []
    ∷ where_it_holds write_ffr_texts write_ffr ((8 to 5) ∷ [])
    (λ k vs. write_ffr_holds_for (write_ffr_named k) (value_at vs 0)) (λ k w h. h)
    ∷ always count_p_texts count_p []
    ∷ always inc_p_texts inc_p []
    ∷ always inc_p_z_texts inc_p_z []
    ∷ always while_texts while_compare []
    ∷ always cterm_texts cterm []
    ∷ always wide_imm_texts wide_imm []
    ∷ always min_max_imm_texts min_max_imm []
    ∷ always dup_imm_texts dup_imm [] ∷ []
