-- Which lines are left where some bits of a word are known.
use Rattle.sve_insn.specs.Table.{predicate_lines}
use Rattle.sve_insn.specs.Opened.{lines_open}
use Rattle.std.proofs.Common.{◌≡◌, ℕ, refl, None, [], ◌∷◌, ◌∙◌}
use Rattle.emu_bits.specs.Fields.{field}
use Rattle.emu_bits.specs.Rows.{◌to◌, decode, row_in}
use Rattle.emu_bits.proofs.Computed.{IsNoneOf}
use Rattle.emu_bits.proofs.Encoding.{narrow_field, narrow_others, or_none}
use Rattle.sve_insn.specs.Lanes.{wide_imm, min_max_imm, dup_imm}
use Rattle.sve_insn.specs.Predicates.{cmp_vec, cmp_wide, cmp_u_imm, cmp_s_imm, logic_p, select_p, break_first, break_pair, break_next, ptest, first_active, next_active, ptrue, pfalse, read_ffr, read_ffr_all, write_ffr, count_p, inc_p, inc_p_z, while_compare, cterm}
use Rattle.sve_rows_predicates.specs.Left.{predicates_and_immediates, signed_compares_and_predicates, pairs_and_single_predicates, single_predicates, counts_and_immediates}

pub find_predicates_at_0 : (w : ℕ) → field w 24 1 ≡ 0 → decode predicate_lines w ≡ decode (cmp_vec ∷ cmp_wide ∷ cmp_u_imm ∷ []) w
unfolding lines_open
find_predicates_at_0 w e = narrow_field (24 to 24) 0 predicate_lines w refl e

pub words_of_predicates_at_0 : (w : ℕ) → field w 14 2 ≡ 0 → decode signed_compares_and_predicates w ≡ row_in cmp_s_imm w
unfolding lines_open
words_of_predicates_at_0 w e = narrow_field (15 to 14) 0 signed_compares_and_predicates w refl e ∙ or_none (row_in cmp_s_imm w)

pub words_of_predicates_at_1 : (w : ℕ) → field w 14 2 ≡ 1 → decode signed_compares_and_predicates w ≡ decode (logic_p ∷ select_p ∷ break_first ∷ break_next ∷ []) w
unfolding lines_open
words_of_predicates_at_1 w e = narrow_field (15 to 14) 1 signed_compares_and_predicates w refl e

pub words_of_predicates_at_2 : (w : ℕ) → field w 14 2 ≡ 2 → decode signed_compares_and_predicates w ≡ row_in cmp_s_imm w
unfolding lines_open
words_of_predicates_at_2 w e = narrow_field (15 to 14) 2 signed_compares_and_predicates w refl e ∙ or_none (row_in cmp_s_imm w)

pub words_of_pairs_and_single_predicates_at_0 : (w : ℕ) → field w 20 1 ≡ 0 → decode pairs_and_single_predicates w ≡ row_in break_pair w
unfolding break_pair ptest first_active next_active ptrue pfalse read_ffr read_ffr_all
words_of_pairs_and_single_predicates_at_0 w e = narrow_field (20 to 20) 0 pairs_and_single_predicates w refl e ∙ or_none (row_in break_pair w)

pub words_of_single_predicates_at_0 : (w : ℕ) → field w 16 4 ≡ 0 → decode single_predicates w ≡ row_in ptest w
unfolding ptest first_active next_active ptrue pfalse read_ffr read_ffr_all
words_of_single_predicates_at_0 w e = narrow_field (19 to 16) 0 single_predicates w refl e ∙ or_none (row_in ptest w)

pub words_of_single_predicates_at_8 : (w : ℕ) → field w 16 4 ≡ 8 → decode single_predicates w ≡ decode (first_active ∷ ptrue ∷ pfalse ∷ read_ffr ∷ []) w
unfolding ptest first_active next_active ptrue pfalse read_ffr read_ffr_all
words_of_single_predicates_at_8 w e = narrow_field (19 to 16) 8 single_predicates w refl e

pub words_of_single_predicates_at_9 : (w : ℕ) → field w 16 4 ≡ 9 → decode single_predicates w ≡ decode (next_active ∷ ptrue ∷ read_ffr_all ∷ []) w
unfolding ptest first_active next_active ptrue pfalse read_ffr read_ffr_all
words_of_single_predicates_at_9 w e = narrow_field (19 to 16) 9 single_predicates w refl e

pub words_of_single_predicates_at_others : (w : ℕ) → IsNoneOf (field w 16 4) (0 ∷ 8 ∷ 9 ∷ []) → decode single_predicates w ≡ None
unfolding ptest first_active next_active ptrue pfalse read_ffr read_ffr_all
words_of_single_predicates_at_others w n = narrow_others (19 to 16) (0 ∷ 8 ∷ 9 ∷ []) single_predicates w refl n

pub words_of_pairs_and_single_predicates_at_others : (w : ℕ) → IsNoneOf (field w 20 1) (0 ∷ []) → decode pairs_and_single_predicates w ≡ decode single_predicates w
unfolding break_pair ptest first_active next_active ptrue pfalse read_ffr read_ffr_all
words_of_pairs_and_single_predicates_at_others w n = narrow_others (20 to 20) (0 ∷ []) pairs_and_single_predicates w refl n

pub words_of_predicates_at_others : (w : ℕ) → IsNoneOf (field w 14 2) (0 ∷ 1 ∷ 2 ∷ []) → decode signed_compares_and_predicates w ≡ decode pairs_and_single_predicates w
unfolding lines_open
words_of_predicates_at_others w n = narrow_others (15 to 14) (0 ∷ 1 ∷ 2 ∷ []) signed_compares_and_predicates w refl n

pub words_of_predicates_and_immediates_at_0 : (w : ℕ) → field w 21 1 ≡ 0 → decode predicates_and_immediates w ≡ decode signed_compares_and_predicates w
unfolding lines_open
words_of_predicates_and_immediates_at_0 w e = narrow_field (21 to 21) 0 predicates_and_immediates w refl e

pub words_of_counts_and_immediates_at_0 : (w : ℕ) → field w 14 2 ≡ 0 → decode counts_and_immediates w ≡ decode (while_compare ∷ cterm ∷ []) w
unfolding write_ffr count_p inc_p inc_p_z while_compare cterm wide_imm min_max_imm dup_imm
words_of_counts_and_immediates_at_0 w e = narrow_field (15 to 14) 0 counts_and_immediates w refl e

pub words_of_counts_and_immediates_at_2 : (w : ℕ) → field w 14 2 ≡ 2 → decode counts_and_immediates w ≡ decode (write_ffr ∷ count_p ∷ inc_p ∷ inc_p_z ∷ []) w
unfolding write_ffr count_p inc_p inc_p_z while_compare cterm wide_imm min_max_imm dup_imm
words_of_counts_and_immediates_at_2 w e = narrow_field (15 to 14) 2 counts_and_immediates w refl e

pub words_of_counts_and_immediates_at_3 : (w : ℕ) → field w 14 2 ≡ 3 → decode counts_and_immediates w ≡ decode (wide_imm ∷ min_max_imm ∷ dup_imm ∷ []) w
unfolding write_ffr count_p inc_p inc_p_z while_compare cterm wide_imm min_max_imm dup_imm
words_of_counts_and_immediates_at_3 w e = narrow_field (15 to 14) 3 counts_and_immediates w refl e

pub words_of_counts_and_immediates_at_others : (w : ℕ) → IsNoneOf (field w 14 2) (0 ∷ 2 ∷ 3 ∷ []) → decode counts_and_immediates w ≡ None
unfolding write_ffr count_p inc_p inc_p_z while_compare cterm wide_imm min_max_imm dup_imm
words_of_counts_and_immediates_at_others w n = narrow_others (15 to 14) (0 ∷ 2 ∷ 3 ∷ []) counts_and_immediates w refl n

pub words_of_predicates_and_immediates_at_others : (w : ℕ) → IsNoneOf (field w 21 1) (0 ∷ []) → decode predicates_and_immediates w ≡ decode counts_and_immediates w
unfolding lines_open
words_of_predicates_and_immediates_at_others w n = narrow_others (21 to 21) (0 ∷ []) predicates_and_immediates w refl n

pub find_predicates_at_others : (w : ℕ) → IsNoneOf (field w 24 1) (0 ∷ []) → decode predicate_lines w ≡ decode predicates_and_immediates w
unfolding lines_open
find_predicates_at_others w n = narrow_others (24 to 24) (0 ∷ []) predicate_lines w refl n
