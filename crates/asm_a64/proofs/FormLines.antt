-- The forms that a line makes have the line's number, so a word's form has the patterns of the line that holds the word.
use Rattle.std.proofs.Common.{◌≡◌, ℕ, List, [], get_or, refl, ap}
use Rattle.emu_bits.proofs.LineNumbers.{counted, number_of_form, numbers_of}
use Rattle.a64_insn.specs.declared.lines.TheConstants.{LINES}
use Rattle.a64_insn.specs.Table.{a64_table}
use Rattle.a64_insn.specs.Opened.{lines_open}
use Rattle.a64_insn.specs.Rows.{line_number}
use Rattle.asm_a64.specs.Table.{line_texts}
use Rattle.asm_a64.specs.LawOfTexts.{TextsOfLines}

in_order : (n : ℕ) (vs : List ℕ) → numbers_of line_number a64_table n vs ≡ counted 0 LINES
unfolding lines_open a64_table
in_order n vs = refl

pub texts_of_lines : TextsOfLines
texts_of_lines = record { at = λ k l w r e h. ap (λ (n : ℕ). get_or line_texts n []) (number_of_form line_number a64_table LINES in_order k l w r e h) }
