use Rattle.std.proofs.Common.{◌≡◌, ◌++◌, string_bytes}
use Rattle.emu_run.specs.Registers.{lines_of}
use Rattle.debug_shows.specs.Changes.{x_change}
use Rattle.debug_shows.proofs.changes.push_xs.Given as goal

abbrev pub invariant-registers : goal.invariant-registers
invariant-registers l = string_bytes l.text ≡ string_bytes l.fn.text ++ lines_of l.k (x_change l.old l.new)
