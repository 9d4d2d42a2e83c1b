use Rattle.std.proofs.Common.{◌≡◌, ◌+◌, ◌++◌, string_bytes}
use Rattle.emu_model.specs.Access.{address}
use Rattle.emu_run.specs.Registers.{lines_of}
use Rattle.debug_shows.specs.Memory.{one_value}
use Rattle.debug_shows.proofs.memory.push_values.Given as goal

abbrev pub invariant-values : goal.invariant-values
invariant-values l = string_bytes l.text ≡ string_bytes l.fn.text ++ lines_of l.k (one_value l.symbols l.mem.memory l.notation l.unit l.address)
