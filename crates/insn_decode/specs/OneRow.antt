-- No word is in two rows of the tables together.
use Rattle.std.specs.Prelude.{◌≡◌, ℕ, Some}
use Rattle.emu_bits.specs.Rows.{Line, Row, row_in}
use Rattle.emu_bits.specs.RowLaws.{OneRow, line_at}
use Rattle.a64_insn.specs.declared.form.A64Form.{A64Form}
use Rattle.a64_insn.specs.Table.{a64_table}
use Rattle.sve_insn.specs.declared.form.SveForm.{SveForm}
use Rattle.sve_insn.specs.Table.{sve_table}

-- Within each table a word of a row decodes to that row, and no word of a row of one table is in a row of the other.
pub record OneRowOfAll : Type 0 where
  pub base : OneRow a64_table
  pub vectors : OneRow sve_table
  pub apart : (j k : ℕ) (l : Line A64Form) (m : Line SveForm) (w : ℕ) (r : Row A64Form) (s : Row SveForm)
      → line_at a64_table j ≡ Some l → row_in l w ≡ Some r → line_at sve_table k ≡ Some m → row_in m w ≡ Some s → ⊥
