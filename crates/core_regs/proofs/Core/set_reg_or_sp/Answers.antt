use Rattle.std.proofs.Common.{◌≢◌, ℕ, ◌≤◌, ◌<◌, set, subst, sym, ap, ◌∙◌, arith}
use Rattle.emu_model.specs.Sound.{with_x_sp_sound}
use Rattle.emu_model.specs.SoundState.{IsSoundCore}
use Rattle.emu_model.specs.State.{Core, with_x_sp}
use Rattle.core_regs.proofs.Core.set_reg_or_sp.Goals as goal
use Rattle.core_regs.proofs.Placed.{seen, sp_written, zero_kept}

pub invariant_of-self : goal.invariant_of-self
invariant_of-self c =
    let i = c.self.inside in
    let small : c.args.r < 32 = omega arith in
    let other : c.place.result ≢ 32 = omega arith in
    let written = sp_written i.pc i.tpidr i.flags i.monitor i.x c.args.r c.args.width c.args.v small c.self.told in
    let most : c.args.width ≤ 64 = omega arith in (
      zero_kept i.x c.place.result c.low.result other c.self.invariant.0,
      rw (c.low.ensures, c.place.ensures.value) (subst IsSoundCore (sym written) (with_x_sp_sound (seen i.pc i.tpidr i.flags i.monitor i.x) c.args.r c.args.width c.args.v most c.self.invariant.1)),
    )

pub returns : goal.returns
returns c =
    let i = c.self.inside in
    let small : c.args.r < 32 = omega arith in
    ap (λ (p : ℕ). seen i.pc i.tpidr i.flags i.monitor (set i.x p c.low.result)) c.place.ensures.value
    ∙ rw (c.low.ensures) (sp_written i.pc i.tpidr i.flags i.monitor i.x c.args.r c.args.width c.args.v small c.self.told)
    ∙ ap (λ (s : Core). with_x_sp s c.args.r c.args.width c.args.v) c.self.view_is
