-- An answer of the decoder as the table sees it.
use Rattle.std.specs.Prelude.{Option, Some, None}
use Rattle.emu_bits.specs.Rows.{Row}
use Rattle.a64_insn.specs.declared.form.A64Form.{A64Form}
use Rattle.a64_insn.specs.Rows.{row_of}

abbrev pub seen : Option A64Form → Option (Row A64Form)
seen None = None
seen (Some i) = Some (row_of i)
