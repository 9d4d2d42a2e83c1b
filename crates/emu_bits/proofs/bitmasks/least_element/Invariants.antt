-- What is left to shrink gives the same part.
use Rattle.std.proofs.Common.{◌≡◌, ◌≤◌}
use Rattle.emu_bits.specs.Search.{shrunk, first_log}
use Rattle.emu_bits.proofs.bitmasks.least_element.Given as goal

abbrev pub invariant-loop-log : goal.invariant-loop-log
invariant-loop-log l = (shrunk l.log l.bits ≡ shrunk (first_log l.fn.width) l.fn.value) × (1 ≤ l.log) × (l.log ≤ 6)

abbrev pub decreases-loop-log : goal.decreases-loop-log
decreases-loop-log l = l.log
