use Rattle.std.proofs.Common.{◌≡◌, ◌<◌, ◌-◌, false}
use Rattle.emu_machine.specs.Advances.{IsAhead}
use Rattle.emu_machine.specs.Machines.{has_ended}
use Rattle.emu_machine.proofs.running.Running.take_steps.Given as goal

abbrev pub invariant-loop : goal.invariant-loop
invariant-loop l = record {
  going : has_ended l.self ≡ false;
  below : l.self.parts.steps < l.until;
  marks : l.self.marks ≡ l.fn.self.marks;
  saved : l.self.saved ≡ l.fn.self.saved;
  ahead : IsAhead l.fn.self.parts l.self.parts l.fn.self.accesses l.self.accesses;
}

abbrev pub decreases-loop : goal.decreases-loop
decreases-loop l = l.until - l.self.parts.steps
