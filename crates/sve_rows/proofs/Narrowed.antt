-- Which lines are left where some bits of a word are known.
use Rattle.sve_insn.specs.Table.{sve_table, memory_lines, data_lines, move_lines, predicate_lines}
use Rattle.sve_insn.specs.Opened.{lines_open}
use Rattle.std.proofs.Common.{◌≡◌, ℕ, refl, sym, None, [], ◌∷◌, ◌∙◌}
use Rattle.emu_bits.specs.Fields.{field}
use Rattle.emu_bits.specs.Rows.{◌to◌, decode}
use Rattle.emu_bits.proofs.Computed.{IsNoneOf}
use Rattle.emu_bits.proofs.Encoding.{narrow_field, narrow_others}
use Rattle.sve_insn.specs.Lanes.{unary}
use Rattle.sve_rows.specs.Left.{register_lines}

pub find_at_1 : (w : ℕ) → field w 31 1 ≡ 1 → decode sve_table w ≡ decode memory_lines w
unfolding lines_open
find_at_1 w e = narrow_field (31 to 31) 1 sve_table w refl e

pub find_at_others : (w : ℕ) → IsNoneOf (field w 31 1) (1 ∷ []) → decode sve_table w ≡ decode register_lines w
unfolding lines_open register_lines
find_at_others w n = narrow_others (31 to 31) (1 ∷ []) sve_table w refl n

pub words_of_registers_at_4 : (w : ℕ) → field w 24 8 ≡ 4 → decode register_lines w ≡ decode data_lines w
unfolding lines_open register_lines
words_of_registers_at_4 w e = narrow_field (31 to 24) 4 register_lines w refl e ∙ sym (narrow_field (31 to 24) 4 data_lines w refl e)

pub words_of_registers_at_5 : (w : ℕ) → field w 24 8 ≡ 5 → decode register_lines w ≡ decode (unary ∷ move_lines) w
unfolding lines_open register_lines
words_of_registers_at_5 w e = narrow_field (31 to 24) 5 register_lines w refl e

pub words_of_registers_at_36 : (w : ℕ) → field w 24 8 ≡ 36 → decode register_lines w ≡ decode predicate_lines w
unfolding lines_open register_lines
words_of_registers_at_36 w e = narrow_field (31 to 24) 36 register_lines w refl e ∙ sym (narrow_field (31 to 24) 36 predicate_lines w refl e)

pub words_of_registers_at_37 : (w : ℕ) → field w 24 8 ≡ 37 → decode register_lines w ≡ decode predicate_lines w
unfolding lines_open register_lines
words_of_registers_at_37 w e = narrow_field (31 to 24) 37 register_lines w refl e ∙ sym (narrow_field (31 to 24) 37 predicate_lines w refl e)

pub words_of_registers_at_68 : (w : ℕ) → field w 24 8 ≡ 68 → decode register_lines w ≡ decode data_lines w
unfolding lines_open register_lines
words_of_registers_at_68 w e = narrow_field (31 to 24) 68 register_lines w refl e ∙ sym (narrow_field (31 to 24) 68 data_lines w refl e)

pub words_of_registers_at_others : (w : ℕ) → IsNoneOf (field w 24 8) (4 ∷ 5 ∷ 36 ∷ 37 ∷ 68 ∷ []) → decode register_lines w ≡ None
unfolding lines_open register_lines
words_of_registers_at_others w n = narrow_others (31 to 24) (4 ∷ 5 ∷ 36 ∷ 37 ∷ 68 ∷ []) register_lines w refl n
