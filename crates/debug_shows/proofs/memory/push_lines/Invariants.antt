use Rattle.std.proofs.Common.{◌≡◌, ◌+◌, ◌*◌, ◌++◌, string_bytes}
use Rattle.emu_model.specs.Access.{address}
use Rattle.emu_run.specs.Registers.{lines_of}
use Rattle.debug_shows.specs.Memory.{line_text}
use Rattle.debug_shows.proofs.memory.push_lines.Given as goal

abbrev pub invariant-lines : goal.invariant-lines
invariant-lines l = string_bytes l.text ≡ string_bytes l.fn.text ++ lines_of l.k (λ k. line_text l.symbols l.mem.memory l.pc (address (l.address + 4 * k)))
