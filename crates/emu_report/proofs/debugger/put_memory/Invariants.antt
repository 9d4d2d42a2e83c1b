use Rattle.std.proofs.Common.{◌≡◌, ◌+◌, ◌-◌, ◌*◌, min}
use Rattle.emu_run.specs.Registers.{lines_of}
use Rattle.dbg_model.specs.Session.{memory_line}
use Rattle.emu_report.proofs.Puts.{IsPut}
use Rattle.emu_report.proofs.debugger.put_memory.Given as goal

abbrev pub invariant-lines : goal.invariant-lines
invariant-lines g l = record {
  put : IsPut (g.S.Sink.held l.fn.sink) (g.S.Sink.held l.sink) (lines_of l.k (λ k. memory_line l.mem.memory (l.address + 16 * k) (min 16 (l.count - 16 * k))));
  kept : g.S.Sink.faults l.sink ≡ g.S.Sink.faults l.fn.sink;
}
