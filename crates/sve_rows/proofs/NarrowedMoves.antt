-- Which lines are left where some bits of a word are known.
use Rattle.sve_insn.specs.Table.{move_lines}
use Rattle.sve_insn.specs.Opened.{lines_open}
use Rattle.std.proofs.Common.{◌≡◌, ℕ, refl, [], ◌∷◌, ◌∙◌}
use Rattle.emu_bits.specs.Fields.{field}
use Rattle.emu_bits.specs.Rows.{◌to◌, decode, row_in}
use Rattle.emu_bits.proofs.Computed.{IsNoneOf}
use Rattle.emu_bits.proofs.Encoding.{narrow_field, narrow_others, or_none}
use Rattle.sve_insn.specs.Lanes.{bitmask_z, copy_imm, select_z}
use Rattle.sve_insn.specs.Folds.{dup_reg, dup_lane, insert_scalar, rev_z, unpack, table_lookup, interleave, interleave_p, unpack_p, rev_p, compact, splice, ext, copy_reg, last_active, cond_last}
use Rattle.sve_rows.specs.MovesLeft.{permutes_and_selections, lane_moves}

pub find_moves_at_0 : (w : ℕ) → field w 21 1 ≡ 0 → decode move_lines w ≡ decode (bitmask_z ∷ copy_imm ∷ []) w
unfolding lines_open
find_moves_at_0 w e = narrow_field (21 to 21) 0 move_lines w refl e

pub words_of_lane_moves_at_0 : (w : ℕ) → field w 13 1 ≡ 0 → decode lane_moves w ≡ row_in ext w
unfolding dup_reg dup_lane insert_scalar rev_z unpack table_lookup ext
words_of_lane_moves_at_0 w e = narrow_field (13 to 13) 0 lane_moves w refl e ∙ or_none (row_in ext w)

pub words_of_lane_moves_at_others : (w : ℕ) → IsNoneOf (field w 13 1) (0 ∷ []) → decode lane_moves w ≡ decode (dup_reg ∷ dup_lane ∷ insert_scalar ∷ rev_z ∷ unpack ∷ table_lookup ∷ []) w
unfolding dup_reg dup_lane insert_scalar rev_z unpack table_lookup ext
words_of_lane_moves_at_others w n = narrow_others (13 to 13) (0 ∷ []) lane_moves w refl n

pub words_of_permutes_at_0 : (w : ℕ) → field w 14 2 ≡ 0 → decode permutes_and_selections w ≡ decode lane_moves w
unfolding lines_open
words_of_permutes_at_0 w e = narrow_field (15 to 14) 0 permutes_and_selections w refl e

pub words_of_permutes_at_1 : (w : ℕ) → field w 14 2 ≡ 1 → decode permutes_and_selections w ≡ decode (interleave ∷ interleave_p ∷ unpack_p ∷ rev_p ∷ []) w
unfolding lines_open
words_of_permutes_at_1 w e = narrow_field (15 to 14) 1 permutes_and_selections w refl e

pub words_of_permutes_at_2 : (w : ℕ) → field w 14 2 ≡ 2 → decode permutes_and_selections w ≡ decode (compact ∷ splice ∷ copy_reg ∷ last_active ∷ cond_last ∷ []) w
unfolding lines_open
words_of_permutes_at_2 w e = narrow_field (15 to 14) 2 permutes_and_selections w refl e

pub words_of_permutes_at_others : (w : ℕ) → IsNoneOf (field w 14 2) (0 ∷ 1 ∷ 2 ∷ []) → decode permutes_and_selections w ≡ row_in select_z w
unfolding lines_open
words_of_permutes_at_others w n = narrow_others (15 to 14) (0 ∷ 1 ∷ 2 ∷ []) permutes_and_selections w refl n ∙ or_none (row_in select_z w)

pub find_moves_at_others : (w : ℕ) → IsNoneOf (field w 21 1) (0 ∷ []) → decode move_lines w ≡ decode permutes_and_selections w
unfolding lines_open
find_moves_at_others w n = narrow_others (21 to 21) (0 ∷ []) move_lines w refl n
