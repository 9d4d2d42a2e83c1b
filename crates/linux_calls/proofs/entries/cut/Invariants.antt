use Rattle.std.proofs.Common.{◌≡◌, ◌+◌, ◌++◌, take, drop}
use Rattle.emu_system.specs.SystemCall.{cut_to, most_bytes, total}
use Rattle.linux_calls.proofs.entries.cut.Given as goal

abbrev pub invariant-loop-range : goal.invariant-loop-range
invariant-loop-range l = record {
  done : take l.range-index l.ranges ++ cut_to l.left (drop l.range-index l.ranges) ≡ cut_to most_bytes l.fn.ranges;
  few : total (take l.range-index l.ranges) + l.left ≡ most_bytes;
}
