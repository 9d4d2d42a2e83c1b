-- Which lines are left where some bits of a word are known.
use Rattle.sve_insn.specs.Table.{data_lines}
use Rattle.sve_insn.specs.Opened.{lines_open}
use Rattle.std.proofs.Common.{◌≡◌, ℕ, refl, [], ◌∷◌, ◌∙◌}
use Rattle.emu_bits.specs.Fields.{field}
use Rattle.emu_bits.specs.Rows.{◌to◌, decode, row_in}
use Rattle.emu_bits.proofs.Computed.{IsNoneOf}
use Rattle.emu_bits.proofs.Encoding.{narrow_field, narrow_others, or_none}
use Rattle.sve_insn.specs.Lanes.{binary, binary_wide, shift_imm, unary, mul_add_z, mul_add_d, plain, logic_z, plain_wide, plain_shift, index_z, prefix_p, prefix, dot, dot_indexed}
use Rattle.sve_insn.specs.Folds.{reduce, count_elements, inc_x, inc_z, sat_x, sat_z, add_length, read_length}

pub find_data_at_0 : (w : ℕ) → field w 13 3 ≡ 0 → decode data_lines w ≡ decode (binary ∷ plain ∷ dot ∷ dot_indexed ∷ []) w
unfolding lines_open
find_data_at_0 w e = narrow_field (15 to 13) 0 data_lines w refl e

pub find_data_at_1 : (w : ℕ) → field w 13 3 ≡ 1 → decode data_lines w ≡ decode (logic_z ∷ prefix_p ∷ reduce ∷ []) w
unfolding lines_open
find_data_at_1 w e = narrow_field (15 to 13) 1 data_lines w refl e

pub find_data_at_2 : (w : ℕ) → field w 13 3 ≡ 2 → decode data_lines w ≡ decode (mul_add_z ∷ index_z ∷ add_length ∷ read_length ∷ []) w
unfolding lines_open
find_data_at_2 w e = narrow_field (15 to 13) 2 data_lines w refl e

pub find_data_at_3 : (w : ℕ) → field w 13 3 ≡ 3 → decode data_lines w ≡ row_in mul_add_z w
unfolding lines_open
find_data_at_3 w e = narrow_field (15 to 13) 3 data_lines w refl e ∙ or_none (row_in mul_add_z w)

pub find_data_at_4 : (w : ℕ) → field w 13 3 ≡ 4 → decode data_lines w ≡ decode (binary ∷ binary_wide ∷ shift_imm ∷ unary ∷ plain_wide ∷ plain_shift ∷ []) w
unfolding lines_open
find_data_at_4 w e = narrow_field (15 to 13) 4 data_lines w refl e

pub find_data_at_5 : (w : ℕ) → field w 13 3 ≡ 5 → decode data_lines w ≡ decode (unary ∷ prefix ∷ []) w
unfolding lines_open
find_data_at_5 w e = narrow_field (15 to 13) 5 data_lines w refl e

pub find_data_at_6 : (w : ℕ) → field w 13 3 ≡ 6 → decode data_lines w ≡ decode (mul_add_d ∷ inc_z ∷ sat_z ∷ []) w
unfolding lines_open
find_data_at_6 w e = narrow_field (15 to 13) 6 data_lines w refl e

pub find_data_at_others : (w : ℕ) → IsNoneOf (field w 13 3) (0 ∷ 1 ∷ 2 ∷ 3 ∷ 4 ∷ 5 ∷ 6 ∷ []) → decode data_lines w ≡ decode (mul_add_d ∷ count_elements ∷ inc_x ∷ sat_x ∷ []) w
unfolding lines_open
find_data_at_others w n = narrow_others (15 to 13) (0 ∷ 1 ∷ 2 ∷ 3 ∷ 4 ∷ 5 ∷ 6 ∷ []) data_lines w refl n
