-- What a step that leaves the registers and the memory as they are makes of a machine.
use Rattle.std.specs.Prelude.{ℕ, ◌+◌, Option, Some, None}
use Rattle.emu_model.specs.declared.trap.Ended.{Ended}
use Rattle.emu_model.specs.declared.trap.Ended.TheVariants.{Exit}
use Rattle.emu_model.specs.State.{Parts}

-- ended by an exit with this code, where there is one
abbrev pub ended_with : Option ℕ → Option Ended → Option Ended
ended_with None ended = ended
ended_with (Some code) ended = Some (Exit code)

-- the step is counted
abbrev pub counted_to : Option ℕ → Parts → Parts
counted_to code m = record m { steps = m.steps + 1; ended = ended_with code m.ended }

-- the exclusive monitor is empty
abbrev pub without_monitor : Parts → Parts
without_monitor m = record m { core = record m.core { monitor = None } }
