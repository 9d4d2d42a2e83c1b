use Rattle.std.proofs.Common.{◌<◌, ◌/◌, Bool, not, sym, ap, subst, ◌∙◌}
use Rattle.emu_model.specs.Active.{active}
use Rattle.element_loops.proofs.Writes.{found_here}
use Rattle.sve_ffr.proofs.ffr.first_cleared.Goals as goal

pub returns-then-not-ffr_bit : goal.returns-then-not-ffr_bit
returns-then-not-ffr_bit c =
    let within : c.loop-k.k < c.args.vec.now.bits / c.args.e = subst (λ n. c.loop-k.k < n / c.args.e) (c.bits.ensures.value ∙ c.length.ensures.value) c.loop-k-test.true in
    sym (found_here (c.args.vec.now.bits / c.args.e) c.loop-k.k (λ k. not (active c.args.e c.args.vec.now.ffr k)) within c.loop-k.invariant
    (ap (λ (b : Bool). not b) (sym c.ffr_bit.ensures ∙ c.if-not-ffr_bit.true)))
