use Rattle.std.proofs.Common.{◌≡◌, take, false}
use Rattle.std.specs.List.{list_any}
use Rattle.emu_system.specs.SystemCall.{is_denied}
use Rattle.linux_calls.proofs.moves.are_allowed.Given as goal

abbrev pub invariant-loop-range : goal.invariant-loop-range
invariant-loop-range l = record {
  unchanged : l.mem ≡ l.fn.mem;
  allowed : list_any (is_denied l.fn.mem.memory l.kind) (take l.range-index l.ranges) ≡ false;
}
