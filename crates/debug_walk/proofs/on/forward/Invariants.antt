use Rattle.std.proofs.Common.{◌≡◌, ◌+◌, ◌-◌, cond}
use Rattle.emu_machine.specs.Machines.{has_ended}
use Rattle.emu_model.specs.State.{State}
use Rattle.dbg_model.specs.Session.{Course}
use Rattle.dbg_back.specs.Walks.{IsWalk}
use Rattle.dbg_back.proofs.Doing.{Leads}
use Rattle.debug_walk.proofs.Seeking.{MadeSo, is_sought_at, sought_at, told}
use Rattle.debug_walk.proofs.on.forward.Given as goal

abbrev pub invariant-walk : goal.invariant-walk
invariant-walk g l = record {
  leads : Leads (λ start. sought_at (g.T.Test.meets l.test) l.until) (λ start. sought_at (g.T.Test.meets l.test) l.until) l.input l.fn.machine l.machine l.fn.trail l.trail
      (g.O.Sink.held l.fn.output) (g.O.Sink.held l.output) (g.E.Sink.held l.fn.errors) (g.E.Sink.held l.errors);
  tells : Leads (λ start c. told (is_sought_at (g.T.Test.meets l.test) l.until c) start) (λ start c. told (is_sought_at (g.T.Test.meets l.test) l.until c) start) l.input l.fn.machine l.machine l.fn.trail l.trail
      (g.O.Sink.held l.fn.output) (g.O.Sink.held l.output) (g.E.Sink.held l.fn.errors) (g.E.Sink.held l.errors);
  made : (start : State) (c : Course) → IsWalk start l.input c l.fn.machine l.fn.trail → MadeSo (g.T.Test.meets l.test) l.until start l.input c l.machine l.trail;
  write : g.O.Sink.faults l.output ≡ g.O.Sink.faults l.fn.output;
  errors : g.E.Sink.faults l.errors ≡ g.E.Sink.faults l.fn.errors;
}

-- a machine that has ended takes no step
abbrev pub decreases-walk : goal.decreases-walk
decreases-walk g l = cond (has_ended l.machine) 0 (1 + (l.until - l.machine.parts.steps))
