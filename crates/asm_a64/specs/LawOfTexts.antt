-- The law of the texts of A64 instructions: they are read back. It is this project's own.
use Rattle.std.specs.Prelude.{◌≡◌, ℕ, ◌^◌, Bool, true, Option, Some, None, Ok, [], get_or, nat_lt, option_and_then, unwrap_or}
use Rattle.emu_bits.specs.Bitmask.{element_log}
use Rattle.emu_bits.specs.Fields.{bit}
use Rattle.emu_bits.specs.Rows.{Line, Row, form_of, row_in}
use Rattle.emu_bits.specs.RowLaws.{line_at}
use Rattle.a64_insn.specs.declared.form.A64Form.{A64Form}
use Rattle.a64_insn.specs.declared.form.A64Form.TheVariants.{LogicImm}
use Rattle.a64_insn.specs.Table.{a64_table}
use Rattle.text_model.specs.ReadBack.{destination_of, reads_text, reached}
use Rattle.text_model.specs.Aim.{Reach, reach_of, aimed}
use Rattle.text_model.specs.Reading.{Pattern}
use Rattle.asm_a64.specs.Table.{line_texts, a64_patterns}
use Rattle.asm_a64.specs.Law.{in_table, reach, text_of_form, texts_of, unaimed_word, word_of}

-- A word's form has the patterns of the line that holds the word.
pub record TextsOfLines : Type 0 where
  pub at : (k : ℕ) (l : Line A64Form) (w : ℕ) (r : Row A64Form)
      → line_at a64_table k ≡ Some l → row_in l w ≡ Some r → texts_of (form_of r) ≡ get_or line_texts k []

-- how the target of a pattern's words is shown, if it has one
abbrev pub reach_by : Option Pattern → Option Reach
reach_by p = option_and_then (λ p. reach_of p.slots) p

-- the address of its target where it stands at pc
abbrev pub target_at : A64Form → ℕ → Option ℕ
target_at f pc = reached (reach f) (word_of f) pc

-- An instruction without a bitmask, or one whose rotation is below the element's size.
abbrev pub is_canonical_form : A64Form → Bool
is_canonical_form (LogicImm op sf n immr imms rn rd) = nat_lt immr (2 ^ unwrap_or (element_log (bit n) imms) 0)
is_canonical_form f = true

-- The text is read as the word with the bits of its target 0, and the target; and that word, aimed at the target, is
-- the instruction's.
pub record IsReadBack (f : A64Form) (pc : ℕ) : Type 0 where
  pub read : reads_text in_table a64_patterns (text_of_form f pc)
      ≡ Ok (record { word = unaimed_word f; target = destination_of (target_at f pc) })
  pub aimed : (a : ℕ) → target_at f pc ≡ Some a → aimed (reach f) (unaimed_word f) pc a ≡ Some (word_of f)
  pub plain : target_at f pc ≡ None → unaimed_word f ≡ word_of f
