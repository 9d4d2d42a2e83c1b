use Rattle.std.proofs.Common.{List, [], ◌∷◌, ◌++◌, ap, refl, ◌∙◌}
use Rattle.emu_run.specs.Worlds.{World, Context}
use Rattle.guest_contexts.specs.Laid.{world_of}
use Rattle.emu_run.specs.ThreadCall.{with_started}
use Rattle.guest_contexts.proofs.Laid.{pushed_is}
use Rattle.guest_threads.proofs.Views.{held_as}
use Rattle.guest_threads.proofs.held.Held.add.Goals as goal

pub returns : goal.returns
returns c =
    held_as c.self.inside.machine c.self.inside.last c.self.inside.contexts.items c.args.self.now c.self.view_is c.self.inside.machine c.self.inside.last c.push_reserved.new.self.items (λ (w : World). with_started w c.args.context)
    refl
    (ap (λ (x : List Context). world_of c.self.inside.machine.parts c.self.inside.last x) c.push_reserved.ensures.items
    ∙ ap (λ (x : Context). world_of c.self.inside.machine.parts c.self.inside.last (c.self.inside.contexts.items ++ x ∷ [])) c.hold.ensures
    ∙ pushed_is c.self.inside.machine.parts c.self.inside.last c.self.inside.contexts.items c.self.invariant.last c.args.context)
