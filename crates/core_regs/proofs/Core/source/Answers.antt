use Rattle.std.proofs.Common.{ℕ, get_or, ap, ◌∙◌}
use Rattle.emu_model.specs.State.{Core, read_x}
use Rattle.core_regs.proofs.Core.source.Goals as goal
use Rattle.core_regs.proofs.Placed.{source_read}

pub returns : goal.returns
returns c =
    ap (λ (p : ℕ). get_or c.self.inside.x p 0) c.place.ensures.value
    ∙ source_read c.self.inside.x c.args.r c.place.ensures.small c.self.invariant.0
    ∙ ap (λ (s : Core). read_x s c.args.r) c.self.view_is
