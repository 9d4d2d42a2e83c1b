use Rattle.std.proofs.Common.{◌≡◌, ◌-◌, ◌++◌, string_bytes}
use Rattle.debug_shows.specs.Memory.{texts}
use Rattle.debug_shows.proofs.memory.push_texts.Given as goal

-- what was appended, and the texts that are left, are all
abbrev pub invariant-texts : goal.invariant-texts
invariant-texts l = string_bytes l.text ++ texts l.symbols l.mem.memory l.at (l.fn.count - l.done) ≡ string_bytes l.fn.text ++ texts l.symbols l.mem.memory l.fn.address l.fn.count
