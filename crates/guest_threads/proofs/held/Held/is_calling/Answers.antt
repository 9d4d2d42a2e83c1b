use Rattle.std.proofs.Common.{ap, sym, ◌∙◌}
use Rattle.emu_machine.specs.Machines.{MachineState}
use Rattle.emu_model.specs.State.{Parts}
use Rattle.emu_run.specs.Threads.{makes_call}
use Rattle.emu_run.specs.Worlds.{context, parts_with}
use Rattle.guest_threads.specs.Ends.{WorldHeld}
use Rattle.guest_contexts.proofs.Laid.{joined_is}
use Rattle.guest_threads.proofs.Views.{held}
use Rattle.guest_threads.proofs.held.Held.is_calling.Goals as goal

pub returns-clause-call : goal.returns-clause-call
returns-clause-call c =
    c.makes_call.ensures.call ∙ ap (λ (m : Parts). makes_call m) (sym (joined_is c.self.inside.machine.parts c.self.inside.last c.self.inside.contexts.items c.self.invariant.last))
    ∙ ap (λ (x : WorldHeld). makes_call (parts_with x.world (context x.world x.world.last))) c.self.view_is

pub returns-clause-unchanged : goal.returns-clause-unchanged
returns-clause-unchanged c = ap (λ (x : MachineState). held x c.self.inside.last c.self.inside.contexts.items) c.makes_call.ensures.machine ∙ c.self.view_is
