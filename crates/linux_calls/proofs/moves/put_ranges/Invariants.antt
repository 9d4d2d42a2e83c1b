use Rattle.std.proofs.Common.{◌≡◌, ◌++◌, take, Some, IfSome}
use Rattle.emu_system.specs.SystemCall.{range_bytes}
use Rattle.linux_calls.proofs.moves.put_ranges.Given as goal

abbrev pub invariant-loop-range : goal.invariant-loop-range
invariant-loop-range g l = record {
  unchanged : l.mem ≡ l.fn.mem;
  gained : IfSome (g.S.Sink.held l.fn.sink) (λ had. g.S.Sink.held l.sink ≡ Some (had ++ range_bytes l.fn.mem.memory (take l.range-index l.ranges)));
  kept : g.S.Sink.faults l.sink ≡ g.S.Sink.faults l.fn.sink;
}
