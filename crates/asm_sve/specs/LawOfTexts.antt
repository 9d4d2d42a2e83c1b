-- The law of the texts of SVE instructions: they are read back. It is this project's own.
use Rattle.std.specs.Prelude.{◌≡◌, ℕ, ◌^◌, Bool, true, Some, None, Ok, [], get_or, nat_lt, unwrap_or}
use Rattle.emu_bits.specs.Bitmask.{element_log}
use Rattle.emu_bits.specs.Fields.{bit}
use Rattle.emu_bits.specs.Rows.{Line, Row, form_of, row_in}
use Rattle.emu_bits.specs.RowLaws.{line_at}
use Rattle.sve_insn.specs.declared.form.SveForm.{SveForm}
use Rattle.sve_insn.specs.declared.form.SveForm.TheVariants.{BitmaskZ}
use Rattle.sve_insn.specs.Table.{sve_table}
use Rattle.text_model.specs.ReadBack.{reads_text}
use Rattle.asm_sve.specs.Table.{sve_lines, sve_patterns}
use Rattle.asm_sve.specs.Law.{in_table, text_of_form, texts_of, word_of}

-- A word's form has the patterns of the line that holds the word.
pub record TextsOfLines : Type 0 where
  pub at : (k : ℕ) (l : Line SveForm) (w : ℕ) (r : Row SveForm)
      → line_at sve_table k ≡ Some l → row_in l w ≡ Some r → texts_of (form_of r) ≡ get_or sve_lines k []

-- An instruction without a bitmask, or one whose rotation is below the element's size.
abbrev pub is_canonical_form : SveForm → Bool
is_canonical_form (BitmaskZ op n immr imms zdn) = nat_lt immr (2 ^ unwrap_or (element_log (bit n) imms) 0)
is_canonical_form f = true

-- The text is read as the instruction's word.
abbrev pub IsReadBack : SveForm → Type 0
IsReadBack f = reads_text in_table sve_patterns (text_of_form f) ≡ Ok (record { word = word_of f; target = None })
