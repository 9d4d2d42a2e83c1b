use Rattle.std.proofs.Common.{◌≡◌}
use Rattle.emu_run.specs.Registers.{lines_of}
use Rattle.trace_lines.specs.Lines.{p_change, HasGained}
use Rattle.trace_lines.proofs.vectors.put_ps.Given as goal

abbrev pub invariant-registers : goal.invariant-registers
invariant-registers g l = record {
  put : HasGained (g.S.Sink.held l.fn.sink) (g.S.Sink.held l.sink) (lines_of l.k (p_change l.old l.new));
  kept : g.S.Sink.faults l.sink ≡ g.S.Sink.faults l.fn.sink;
}
