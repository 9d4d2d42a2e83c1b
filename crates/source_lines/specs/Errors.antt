-- Why there is no table of lines.
use Rattle.std.specs.Prelude.{Option, Some, None}
use Rattle.source_lines.specs.declared.rows.TableFault.{TableFault}
use Rattle.source_lines.specs.declared.reader.TableError.{TableError}
use Rattle.source_lines.specs.declared.reader.TableError.TheVariants.{Refused, OutOfMemory}

-- the refusal that an error holds; want of memory holds none
abbrev pub fault_in : TableError → Option TableFault
fault_in (Refused fault) = Some fault
fault_in OutOfMemory = None
