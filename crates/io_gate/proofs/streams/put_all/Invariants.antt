use Rattle.std.proofs.Common.{◌≡◌, ◌≤◌, ◌-◌, ◌++◌, length, take, Some, IfSome}
use Rattle.io_gate.proofs.streams.put_all.Given as goal

abbrev pub invariant-loop-at : goal.invariant-loop-at
invariant-loop-at g l = record {
  unchanged : l.at ≡ 0 → l.sink ≡ l.fn.sink;
  within : l.at ≤ length l.piece;
  gained : IfSome (g.S.Sink.held l.fn.sink) (λ held. g.S.Sink.held l.sink ≡ Some (held ++ take l.at l.piece));
  kept : g.S.Sink.faults l.sink ≡ g.S.Sink.faults l.fn.sink;
}

abbrev pub decreases-loop-at : goal.decreases-loop-at
decreases-loop-at g l = length l.piece - l.at
