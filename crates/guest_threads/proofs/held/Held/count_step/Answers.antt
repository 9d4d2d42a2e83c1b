use Rattle.std.proofs.Common.{ap}
use Rattle.emu_machine.specs.Machines.{MachineState}
use Rattle.emu_run.specs.Worlds.{World}
use Rattle.guest_contexts.specs.Laid.{world_of}
use Rattle.emu_machine.specs.Contexts.{ended_with}
use Rattle.std.specs.Prelude.{◌+◌}
use Rattle.guest_threads.proofs.Views.{held_as}
use Rattle.guest_threads.proofs.held.Held.count_step.Goals as goal

pub returns : goal.returns
returns c =
    held_as c.self.inside.machine c.self.inside.last c.self.inside.contexts.items c.args.self.now c.self.view_is c.count_step.new.self c.self.inside.last c.self.inside.contexts.items (λ (w : World). record w { steps = w.steps + 1; ended = ended_with c.args.code w.ended })
    (ap (λ (x : MachineState). x.failed) c.count_step.ensures)
    (ap (λ (x : MachineState). world_of x.parts c.self.inside.last c.self.inside.contexts.items) c.count_step.ensures)
