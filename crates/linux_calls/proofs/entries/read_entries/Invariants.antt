use Rattle.std.proofs.Common.{◌≡◌}
use Rattle.emu_system.specs.SystemCall.{entries}
use Rattle.linux_calls.proofs.entries.read_entries.Given as goal

abbrev pub invariant-loop-k : goal.invariant-loop-k
invariant-loop-k l = record {
  unchanged : l.mem ≡ l.fn.mem;
  entries : l.ranges.items ≡ entries l.fn.mem.memory l.at l.k;
}
