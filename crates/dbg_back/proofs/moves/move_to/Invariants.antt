use Rattle.std.proofs.Common.{◌≡◌, ◌+◌, ◌-◌, cond}
use Rattle.emu_machine.specs.Machines.{has_ended}
use Rattle.dbg_model.specs.Session.{walked}
use Rattle.dbg_back.proofs.Doing.{Leads}
use Rattle.dbg_back.proofs.moves.move_to.Given as goal

abbrev pub invariant-walk : goal.invariant-walk
invariant-walk g l = record {
  leads : Leads (λ start c. walked c (l.target - c.state.parts.steps)) (λ start c. walked c (l.target - c.state.parts.steps)) l.input l.fn.machine l.machine l.fn.trail l.trail
      (g.O.Sink.held l.fn.output) (g.O.Sink.held l.output) (g.E.Sink.held l.fn.errors) (g.E.Sink.held l.errors);
  write : g.O.Sink.faults l.output ≡ g.O.Sink.faults l.fn.output;
  errors : g.E.Sink.faults l.errors ≡ g.E.Sink.faults l.fn.errors;
}

-- a machine that has ended takes no step
abbrev pub decreases-walk : goal.decreases-walk
decreases-walk g l = cond (has_ended l.machine) 0 (1 + (l.target - l.machine.parts.steps))
