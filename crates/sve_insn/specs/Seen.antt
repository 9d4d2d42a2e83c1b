-- An answer of the decoder as the table sees it.
use Rattle.std.specs.Prelude.{Option, Some, None}
use Rattle.emu_bits.specs.Rows.{Row}
use Rattle.sve_insn.specs.declared.form.SveForm.{SveForm}
use Rattle.sve_insn.specs.Rows.{row_of}

abbrev pub seen : Option SveForm → Option (Row SveForm)
seen None = None
seen (Some i) = Some (row_of i)
