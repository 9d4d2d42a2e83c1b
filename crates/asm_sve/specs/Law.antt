-- The text of an SVE instruction, and what reading it gives. That a text is read back as the instruction that it shows
-- is this project's own law; the texts are from the Arm manual, as the files of patterns say.
use Rattle.std.specs.Prelude.{ℕ, Bool, List, [], get_or, is_some}
use Rattle.emu_bits.specs.Rows.{decode, encode}
use Rattle.sve_insn.specs.declared.form.SveForm.{SveForm}
use Rattle.sve_insn.specs.Table.{sve_table}
use Rattle.sve_insn.specs.Rows.{line_number, row_of}
use Rattle.text_model.specs.Reading.{Pattern}
use Rattle.text_model.specs.Text.{text_of}
use Rattle.asm_sve.specs.Table.{sve_lines}

-- a word of the table
abbrev pub in_table : ℕ → Bool
in_table w = is_some (decode sve_table w)

abbrev pub word_of : SveForm → ℕ
word_of f = encode (row_of f)

-- the patterns of an instruction's line
abbrev pub texts_of : SveForm → List Pattern
texts_of f = get_or sve_lines (line_number f) []

-- The text of an instruction. None shows an address, so it is the same wherever the instruction stands.
abbrev pub text_of_form : SveForm → List ℕ
text_of_form f = text_of (texts_of f) (word_of f) 0
