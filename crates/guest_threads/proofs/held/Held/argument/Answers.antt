use Rattle.std.proofs.Common.{ap, sym, ◌∙◌}
use Rattle.emu_model.specs.State.{Core, read_x}
use Rattle.guest_contexts.proofs.Copied.{at_number_below}
use Rattle.guest_threads.proofs.Views.{core_seen}
use Rattle.guest_threads.proofs.held.Held.argument.Goals as goal
use Rattle.std.specs.Prelude.{ℕ}

pub returns : goal.returns
returns c =
    c.x.ensures
    ∙ ap (λ (r : ℕ). read_x c.core.result.now r) (c.at.ensures ∙ at_number_below c.args.number c.requires)
    ∙ ap (λ (x : Core). read_x x c.args.number) (c.core.ensures ∙ sym (core_seen c.self.inside.machine c.self.inside.last c.self.inside.contexts.items c.args.self.now c.self.view_is c.self.invariant.last))
