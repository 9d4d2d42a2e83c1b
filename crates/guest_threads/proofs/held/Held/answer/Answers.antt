use Rattle.std.proofs.Common.{ap, ◌∙◌}
use Rattle.emu_machine.specs.Machines.{MachineState}
use Rattle.emu_run.specs.ThreadCall.{answered}
use Rattle.emu_run.specs.Worlds.{World}
use Rattle.guest_contexts.specs.Laid.{world_of}
use Rattle.guest_contexts.proofs.Laid.{answered_is}
use Rattle.guest_threads.proofs.Views.{held_as, laid_ready}
use Rattle.guest_threads.proofs.held.Held.answer.Goals as goal

pub returns : goal.returns
returns c =
    held_as c.self.inside.machine c.self.inside.last c.self.inside.contexts.items c.args.self.now c.self.view_is c.answer.new.self c.self.inside.last c.self.inside.contexts.items (λ (w : World). answered w w.last c.args.v)
    (ap (λ (x : MachineState). x.failed) c.answer.ensures)
    (ap (λ (x : MachineState). world_of x.parts c.self.inside.last c.self.inside.contexts.items) c.answer.ensures
    ∙ answered_is c.self.inside.machine.parts c.self.inside.last c.self.inside.contexts.items c.self.invariant.last c.args.v (laid_ready c.self.inside.machine c.self.inside.last c.self.inside.contexts.items c.args.self.now c.self.view_is c.requires.ready))
