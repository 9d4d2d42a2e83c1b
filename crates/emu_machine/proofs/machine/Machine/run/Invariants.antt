use Rattle.std.proofs.Common.{◌≡◌, ◌≤◌, ◌-◌, false}
use Rattle.emu_machine.specs.Machines.{has_ended}
use Rattle.emu_machine.proofs.Logs.{Logs}
use Rattle.emu_machine.proofs.Runs.{LeadsRun}
use Rattle.emu_machine.proofs.Spared.{LeadsAny}
use Rattle.emu_machine.proofs.Stands.{Stands}
use Rattle.emu_machine.proofs.machine.Machine.run.Given as goal

abbrev pub invariant-loop-self : goal.invariant-loop-self
invariant-loop-self g l = record {
  going : has_ended l.self ≡ false;
  within : l.self.parts.steps ≤ l.budget;
  leads : LeadsRun l.budget l.fn.self.parts l.self.parts (g.I.Source.left l.fn.input) (g.I.Source.left l.input)
      (g.O.Sink.held l.fn.output) (g.O.Sink.held l.output) (g.E.Sink.held l.fn.errors) (g.E.Sink.held l.errors);
  logs : Logs l.budget l.fn.self.accesses l.fn.self.parts (g.I.Source.left l.fn.input) l.self.accesses l.self.parts (g.I.Source.left l.input);
  stands : Stands l.fn.self.parts (g.I.Source.left l.fn.input) l.self.parts (g.I.Source.left l.input);
  any : LeadsAny l.fn.self.parts l.self.parts (g.I.Source.left l.fn.input) (g.I.Source.left l.input)
      (g.O.Sink.held l.fn.output) (g.O.Sink.held l.output) (g.E.Sink.held l.fn.errors) (g.E.Sink.held l.errors);
  marks : l.self.marks ≡ l.fn.self.marks;
  saved : l.self.saved ≡ l.fn.self.saved;
  read : g.I.Source.faults l.input ≡ g.I.Source.faults l.fn.input;
  write : g.O.Sink.faults l.output ≡ g.O.Sink.faults l.fn.output;
  errors : g.E.Sink.faults l.errors ≡ g.E.Sink.faults l.fn.errors;
}

abbrev pub decreases-loop-self : goal.decreases-loop-self
decreases-loop-self g l = l.budget - l.self.parts.steps
