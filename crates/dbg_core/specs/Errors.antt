-- Why there is no script.
use Rattle.std.specs.Prelude.{Option, Some, None}
use Rattle.dbg_model.specs.declared.script.ScriptFault.{ScriptFault}
use Rattle.dbg_core.specs.declared.script_reader.ScriptError.{ScriptError}
use Rattle.dbg_core.specs.declared.script_reader.ScriptError.TheVariants.{Refused, OutOfMemory}

-- the refusal that an error holds; want of memory holds none
abbrev pub fault_in : ScriptError → Option ScriptFault
fault_in (Refused fault) = Some fault
fault_in OutOfMemory = None
