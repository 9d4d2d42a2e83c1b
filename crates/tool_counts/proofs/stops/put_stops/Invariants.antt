use Rattle.std.proofs.Common.{◌≡◌, ◌++◌, IfSome, Some, take}
use Rattle.tool_counts.specs.Counted.{stop_lines}
use Rattle.tool_counts.proofs.stops.put_stops.Given as goal

abbrev pub invariant-stops : goal.invariant-stops
invariant-stops g l = record {
  told : IfSome (g.O.Sink.held l.fn.output) (λ had. g.O.Sink.held l.output ≡ Some (had ++ stop_lines l.headed (take l.stopped-index l.stops)));
  faults : g.O.Sink.faults l.output ≡ g.O.Sink.faults l.fn.output;
}
