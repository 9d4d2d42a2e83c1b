use Rattle.std.proofs.Common.{◌≡◌, ◌<◌, ◌+◌, ◌*◌, refl, if◌then◌else◌, ap, sym, subst, ◌∙◌, arith}
use Rattle.emu_model.specs.WithinPage.{number_in}
use Rattle.sve_effects.specs.Lane.{extended_by}
use Rattle.emu_model.specs.Lanes.{with_lanes}
use Rattle.active_lanes.specs.Kept.{is_kept}
use Rattle.element_loops.proofs.Lines.{element_fits, element_placed}
use Rattle.element_loops.proofs.line.set_register.Goals as goal

pub set_placed-requires-clause-room : goal.set_placed-requires-clause-room
set_placed-requires-clause-room c = λ k b.
    let within : k < c.args.plan.now.lanes = subst (λ n. k < n) (sym c.requires.lanes) b in
    let place : _ ≡ (k * c.args.plan.now.registers + c.args.j) * c.args.plan.now.bytes = element_placed k c.args.j c.args.plan.now.registers c.args.plan.now.bytes _ _ refl refl in
    omega (arith, place, c.requires.room, element_fits k c.args.j c.args.plan.now.registers c.args.plan.now.lanes c.args.plan.now.bytes within c.requires.register)

pub returns : goal.returns
returns c = λ f given.
    c.set_placed.ensures f (λ k b.
    given k (subst (λ n. k < n) (sym c.requires.lanes) b)
    ∙ ap (λ a. if is_kept c.args.line.now.whole c.args.line.now.pg c.args.plan.now.bits c.args.vec.now k then extended_by c.args.plan.now.is_signed c.args.plan.now.bits (8 * c.args.plan.now.bytes) (number_in c.args.bytes.now a c.args.plan.now.bytes) else 0)
    (sym (element_placed k c.args.j c.args.plan.now.registers c.args.plan.now.bytes _ _ refl refl)))
    ∙ ap (λ zd. with_lanes c.args.plan.now.bits f zd c.args.vec.now) c.register_at.ensures
