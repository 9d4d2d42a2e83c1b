use Rattle.std.proofs.Common.{◌≡◌, ◌≤◌, ◌-◌, false}
use Rattle.guest_threads.specs.Ends.{has_ended, IsPlace}
use Rattle.emu_run.specs.Living.{IsLiving}
use Rattle.guest_threads.proofs.Runs.{LeadsRun}
use Rattle.guest_threads.proofs.Stands.{Stands}
use Rattle.guest_threads.proofs.Whole.{LeadsAny}
use Rattle.guest_threads.proofs.held.Held.follow.Given as goal

abbrev pub invariant-loop-place : goal.invariant-loop-place
invariant-loop-place g l = record {
  going : has_ended l.self ≡ false;
  within : l.self.world.steps ≤ l.budget;
  placed : IsPlace l.self.world l.fn.schedule l.place;
  leads : LeadsRun l.fn.schedule l.budget l.place l.fn.self.world l.self.world (g.I.Source.left l.fn.input) (g.I.Source.left l.input)
      (g.O.Sink.held l.fn.output) (g.O.Sink.held l.output) (g.E.Sink.held l.fn.errors) (g.E.Sink.held l.errors);
  stands : Stands l.fn.schedule l.fn.self.world (g.I.Source.left l.fn.input) l.place l.self.world (g.I.Source.left l.input);
  any : LeadsAny l.fn.schedule l.place l.fn.self.world l.self.world (g.I.Source.left l.fn.input) (g.I.Source.left l.input)
      (g.O.Sink.held l.fn.output) (g.O.Sink.held l.output) (g.E.Sink.held l.fn.errors) (g.E.Sink.held l.errors);
  living : IsLiving l.fn.self.world → IsLiving l.self.world;
  read : g.I.Source.faults l.input ≡ g.I.Source.faults l.fn.input;
  write : g.O.Sink.faults l.output ≡ g.O.Sink.faults l.fn.output;
  errors : g.E.Sink.faults l.errors ≡ g.E.Sink.faults l.fn.errors;
}

abbrev pub decreases-loop-place : goal.decreases-loop-place
decreases-loop-place g l = l.budget - l.self.world.steps
