-- Forms by the places of their lines in the table, and the words of forms.
use Rattle.std.specs.Prelude.{◌≡◌, ℕ, ◌<◌, ◌⊎◌}
use Rattle.emu_bits.specs.Rows.{encode}
use Rattle.emu_bits.specs.RowLaws.{IsShape}
use Rattle.sve_insn.specs.declared.form.SveForm.{SveForm}
use Rattle.sve_insn.specs.Rows.{row_of, line_number}

-- a form's line isn't one of those from one place of the table to another
abbrev pub IsOutside : ℕ → ℕ → SveForm → Type 0
IsOutside first last f = line_number f < first ⊎ last < line_number f

-- A word is that of a form, whose fields fit their places.
abbrev pub IsWordOf : SveForm → ℕ → Type 0
IsWordOf f w = (w ≡ encode (row_of f)) × IsShape (row_of f)
