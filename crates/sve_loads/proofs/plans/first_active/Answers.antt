use Rattle.std.proofs.Common.{◌<◌, ◌/◌, sym, subst, ◌∙◌}
use Rattle.sve_effects.specs.LaneLoop.{is_active}
use Rattle.element_loops.proofs.Writes.{found_here}
use Rattle.sve_loads.proofs.plans.first_active.Goals as goal

pub returns-then-is_active : goal.returns-then-is_active
returns-then-is_active c =
    let within : c.loop-k.k < c.args.vec.now.bits / c.args.e = subst (λ n. c.loop-k.k < n / c.args.e) (c.bits.ensures.value ∙ c.length.ensures.value) c.loop-k-test.true in
    sym (found_here (c.args.vec.now.bits / c.args.e) c.loop-k.k (is_active c.args.e c.args.vec.now c.args.pg) within c.loop-k.invariant (sym c.is_active.ensures ∙ c.if-is_active.true))
