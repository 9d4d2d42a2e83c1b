-- The lines that are left where some bits of a word are known, as the decoder looks at them.
use Rattle.std.specs.Prelude.{List, ◌++◌}
use Rattle.emu_bits.specs.Rows.{Line}
use Rattle.sve_insn.specs.declared.form.SveForm.{SveForm}
use Rattle.sve_insn.specs.Table.{data_lines, move_lines, predicate_lines}

-- bit 31 is 0: all but loads and stores
unfoldable pub register_lines : List (Line SveForm)
register_lines = data_lines ++ (move_lines ++ predicate_lines)
