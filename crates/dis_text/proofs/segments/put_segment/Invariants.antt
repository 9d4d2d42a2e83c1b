use Rattle.std.proofs.Common.{◌≡◌, ◌+◌, ◌*◌, ◌-◌, ◌≤◌}
use Rattle.emu_run.specs.Registers.{lines_of}
use Rattle.emu_report.proofs.Puts.{IsPut}
use Rattle.asm_text.specs.Disassembly.{skipped, line_at}
use Rattle.dis_text.proofs.segments.put_segment.Given as goal

abbrev pub invariant-batches : goal.invariant-batches
invariant-batches g l = record {
  put : IsPut (g.S.Sink.held l.fn.sink) (g.S.Sink.held l.sink) (lines_of l.done (λ k. line_at l.file l.segment (skipped l.segment.address + 4 * k)));
  kept : g.S.Sink.faults l.sink ≡ g.S.Sink.faults l.fn.sink;
  within : l.done ≤ l.count;
}

abbrev pub decreases-batches : goal.decreases-batches
decreases-batches g l = l.count - l.done
