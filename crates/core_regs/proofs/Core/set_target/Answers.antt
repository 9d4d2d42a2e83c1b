use Rattle.std.proofs.Common.{ℕ, ◌≤◌, set, subst, sym, ap, ◌∙◌, arith}
use Rattle.emu_model.specs.Sound.{with_x_sound}
use Rattle.emu_model.specs.SoundState.{IsSoundCore}
use Rattle.emu_model.specs.State.{Core, with_x}
use Rattle.core_regs.proofs.Core.set_target.Goals as goal
use Rattle.core_regs.proofs.Placed.{seen, target_written, zero_kept}

pub invariant_of-self : goal.invariant_of-self
invariant_of-self c =
    let i = c.self.inside in
    let written = target_written i.pc i.tpidr i.flags i.monitor i.x c.args.r c.args.width c.args.v c.place.ensures.small in
    let most : c.args.width ≤ 64 = omega arith in (
      zero_kept i.x c.place.result c.low.result c.place.ensures.kept c.self.invariant.0,
      rw (c.low.ensures, c.place.ensures.value) (subst IsSoundCore (sym written) (with_x_sound (seen i.pc i.tpidr i.flags i.monitor i.x) c.args.r c.args.width c.args.v most c.self.invariant.1)),
    )

pub returns : goal.returns
returns c =
    let i = c.self.inside in
    ap (λ (p : ℕ). seen i.pc i.tpidr i.flags i.monitor (set i.x p c.low.result)) c.place.ensures.value
    ∙ rw (c.low.ensures) (target_written i.pc i.tpidr i.flags i.monitor i.x c.args.r c.args.width c.args.v c.place.ensures.small)
    ∙ ap (λ (s : Core). with_x s c.args.r c.args.width c.args.v) c.self.view_is
