-- The text of an A64 instruction, and what reading it gives. That a text is read back as the instruction that it shows
-- is this project's own law; the texts are from the Arm manual, as the files of patterns say.
use Rattle.std.specs.Prelude.{ℕ, ◌-◌, ◌^◌, Bool, Option, option_and_then, List, [], get_or, bit_and, is_some}
use Rattle.emu_bits.specs.Rows.{decode, encode}
use Rattle.a64_insn.specs.declared.form.A64Form.{A64Form}
use Rattle.a64_insn.specs.Table.{a64_table}
use Rattle.a64_insn.specs.Rows.{row_of, line_number}
use Rattle.text_model.specs.Reading.{Pattern}
use Rattle.text_model.specs.Text.{chosen, text_of}
use Rattle.text_model.specs.Aim.{Reach, reach_of, reach_bits}
use Rattle.asm_a64.specs.Table.{line_texts}

-- a word of the table
abbrev pub in_table : ℕ → Bool
in_table w = is_some (decode a64_table w)

abbrev pub word_of : A64Form → ℕ
word_of f = encode (row_of f)

-- the patterns of an instruction's line
abbrev pub texts_of : A64Form → List Pattern
texts_of f = get_or line_texts (line_number f) []

-- The text of an instruction that stands at pc.
abbrev pub text_of_form : A64Form → ℕ → List ℕ
text_of_form f pc = text_of (texts_of f) (word_of f) pc

-- ---- targets

-- how the target of an instruction is shown, if it has one
abbrev pub reach : A64Form → Option Reach
reach f = option_and_then (λ p. reach_of p.slots) (chosen (texts_of f) (word_of f))

-- its word with the target's bits 0
abbrev pub unaimed_word : A64Form → ℕ
unaimed_word f = bit_and (word_of f) (2 ^ 32 - 1 - reach_bits (reach f))
