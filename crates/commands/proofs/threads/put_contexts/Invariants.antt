use Rattle.std.proofs.Common.{◌≡◌}
use Rattle.command_model.specs.WorldReports.{lines_of_context}
use Rattle.emu_report.proofs.Puts.{IsPut}
use Rattle.emu_run.specs.Registers.{lines_of}
use Rattle.commands.proofs.threads.put_contexts.Given as goal

abbrev pub invariant-registers : goal.invariant-registers
invariant-registers g l = record {
  put : IsPut (g.E.Sink.held l.fn.errors) (g.E.Sink.held l.errors) (lines_of l.k (lines_of_context l.world.world));
  kept : g.E.Sink.faults l.errors ≡ g.E.Sink.faults l.fn.errors;
}
