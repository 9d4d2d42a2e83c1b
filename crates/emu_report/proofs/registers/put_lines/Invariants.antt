use Rattle.std.proofs.Common.{◌≡◌}
use Rattle.emu_run.specs.Registers.{lines_of}
use Rattle.emu_report.proofs.Puts.{IsPut}
use Rattle.emu_report.specs.VectorLines.{line_of}
use Rattle.emu_report.proofs.registers.put_lines.Given as goal

abbrev pub invariant-registers : goal.invariant-registers
invariant-registers g l = record {
  put : IsPut (g.S.Sink.held l.fn.sink) (g.S.Sink.held l.sink) (lines_of l.k (line_of l.vec l.kind));
  kept : g.S.Sink.faults l.sink ≡ g.S.Sink.faults l.fn.sink;
}
