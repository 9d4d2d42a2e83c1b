use Rattle.std.proofs.Common.{ℕ, get_or, ap, ◌∙◌, arith}
use Rattle.emu_model.specs.State.{Core, read_x_sp}
use Rattle.core_regs.proofs.Core.reg_or_sp.Goals as goal
use Rattle.core_regs.proofs.Placed.{sp_read}

pub returns : goal.returns
returns c =
    ap (λ (p : ℕ). get_or c.self.inside.x p 0) c.place.ensures.value
    ∙ sp_read c.self.inside.x c.args.r (omega arith)
    ∙ ap (λ (s : Core). read_x_sp s c.args.r) c.self.view_is
