use Rattle.std.proofs.Common.{◌≡◌, ◌-◌, true, false, is_none}
use Rattle.emu_machine.proofs.Composed.{Leads}
use Rattle.dbg_core.proofs.Going.{go_at}
use Rattle.dbg_core.proofs.Leaving.{IsAt}
use Rattle.dbg_core.proofs.Putting.{IsWith}
use Rattle.dbg_core.proofs.moves.go_to_point.Given as goal

abbrev pub invariant-walk : goal.invariant-walk
invariant-walk g l = record {
  failed : l.machine.failed ≡ false;
  going : is_none l.machine.parts.ended ≡ true;
  leads : Leads (go_at l.points l.budget) (go_at l.points l.budget) l.fn.machine.parts l.machine.parts (g.I.Source.left l.fn.input) (g.I.Source.left l.input)
      (g.O.Sink.held l.fn.output) (g.O.Sink.held l.output) (g.E.Sink.held l.fn.errors) (g.E.Sink.held l.errors);
  came : IsAt l.fn.machine.parts l.machine.parts (g.I.Source.left l.fn.input) (g.I.Source.left l.input);
  put : IsWith l.fn.machine.parts l.machine.parts (g.I.Source.left l.fn.input) (g.I.Source.left l.input)
      (g.O.Sink.held l.fn.output) (g.O.Sink.held l.output) (g.E.Sink.held l.fn.errors) (g.E.Sink.held l.errors);
  read : g.I.Source.faults l.input ≡ g.I.Source.faults l.fn.input;
  write : g.O.Sink.faults l.output ≡ g.O.Sink.faults l.fn.output;
  errors : g.E.Sink.faults l.errors ≡ g.E.Sink.faults l.fn.errors;
}

abbrev pub decreases-walk : goal.decreases-walk
decreases-walk g l = l.budget - l.machine.parts.steps
