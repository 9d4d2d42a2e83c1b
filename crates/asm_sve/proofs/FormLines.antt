-- The forms that a line makes have the line's number, so a word's form has the patterns of the line that holds the word.
use Rattle.std.proofs.Common.{◌≡◌, ℕ, List, [], get_or, refl, ap}
use Rattle.emu_bits.proofs.LineNumbers.{counted, number_of_form, numbers_of}
use Rattle.sve_insn.specs.declared.lines.TheConstants.{LINES}
use Rattle.sve_insn.specs.Table.{sve_table}
use Rattle.sve_insn.specs.Opened.{lines_open}
use Rattle.sve_insn.specs.Rows.{line_number}
use Rattle.asm_sve.specs.Table.{sve_lines}
use Rattle.asm_sve.specs.LawOfTexts.{TextsOfLines}

in_order : (n : ℕ) (vs : List ℕ) → numbers_of line_number sve_table n vs ≡ counted 0 LINES
unfolding lines_open sve_table
in_order n vs = refl

pub texts_of_lines : TextsOfLines
texts_of_lines = record { at = λ k l w r e h. ap (λ (n : ℕ). get_or sve_lines n []) (number_of_form line_number sve_table LINES in_order k l w r e h) }
