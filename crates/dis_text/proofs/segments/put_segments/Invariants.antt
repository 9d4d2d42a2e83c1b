use Rattle.std.proofs.Common.{◌≡◌, take}
use Rattle.std.specs.List.{flat_map}
use Rattle.emu_report.proofs.Puts.{IsPut}
use Rattle.dis_text.specs.Segments.{executable_lines}
use Rattle.dis_text.proofs.segments.put_segments.Given as goal

abbrev pub invariant-loop-segment : goal.invariant-loop-segment
invariant-loop-segment g l = record {
  put : IsPut (g.S.Sink.held l.fn.sink) (g.S.Sink.held l.sink) (flat_map (executable_lines l.file) (take l.segment-index l.segments));
  kept : g.S.Sink.faults l.sink ≡ g.S.Sink.faults l.fn.sink;
}
