use Rattle.std.proofs.Common.{◌≡◌, ◌-◌, List, ℕ, drop, false, is_none, true}
use Rattle.trace_lines.specs.Lines.{HasGained}
use Rattle.trace_options.specs.Windows.{first_stage}
use Rattle.step_traces.proofs.Walking.{HasTold}
use Rattle.step_traces.proofs.walk.trace.Given as goal

abbrev pub invariant-walk : goal.invariant-walk
invariant-walk g l = record {
  failed : l.machine.failed ≡ false;
  failed_ahead : l.ahead.failed ≡ false;
  going : is_none l.machine.parts.ended ≡ true;
  same : l.ahead.parts ≡ l.machine.parts;
  rest : drop l.source_ahead.place l.source_ahead.bytes ≡ drop l.source.place l.source.bytes;
  text : List ℕ;
  put : HasGained (g.S.Sink.held l.fn.sink) (g.S.Sink.held l.sink) text;
  told : HasTold l.shown l.window (first_stage l.window) l.fn.machine.parts l.input (l.budget - l.fn.machine.parts.steps) text l.stage l.machine.parts (drop l.source.place l.source.bytes) (l.budget - l.machine.parts.steps);
  kept : g.S.Sink.faults l.sink ≡ g.S.Sink.faults l.fn.sink;
}

abbrev pub decreases-walk : goal.decreases-walk
decreases-walk g l = l.budget - l.machine.parts.steps
