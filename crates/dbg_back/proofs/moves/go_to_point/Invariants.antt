use Rattle.std.proofs.Common.{◌≡◌, ◌-◌}
use Rattle.dbg_back.proofs.Doing.{Leads}
use Rattle.dbg_back.proofs.Going.{go_at}
use Rattle.dbg_back.proofs.moves.go_to_point.Given as goal

abbrev pub invariant-walk : goal.invariant-walk
invariant-walk g l = record {
  leads : Leads (λ start. go_at l.points l.budget) (λ start. go_at l.points l.budget) l.input l.fn.machine l.machine l.fn.trail l.trail
      (g.O.Sink.held l.fn.output) (g.O.Sink.held l.output) (g.E.Sink.held l.fn.errors) (g.E.Sink.held l.errors);
  write : g.O.Sink.faults l.output ≡ g.O.Sink.faults l.fn.output;
  errors : g.E.Sink.faults l.errors ≡ g.E.Sink.faults l.fn.errors;
}

abbrev pub decreases-walk : goal.decreases-walk
decreases-walk g l = l.budget - l.machine.parts.steps
