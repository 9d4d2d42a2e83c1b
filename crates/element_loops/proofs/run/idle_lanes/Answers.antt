use Rattle.std.proofs.Common.{◌≡◌, false, sym, ◌∙◌, arith}
use Rattle.active_lanes.specs.Kept.{is_kept}
use Rattle.active_lanes.proofs.Kept.{none_kept, not_active}
use Rattle.element_loops.proofs.run.idle_lanes.Goals as goal

pub idle_from-requires-clause-off : goal.idle_from-requires-clause-off
idle_from-requires-clause-off c =
    not_active c.args.run.now.whole c.args.run.now.pg c.args.plan.now.bits c.args.vec.now c.args.k (sym (c.requires.run.on c.args.k c.requires.within) ∙ c.requires.off)

pub returns-clause-off : goal.returns-clause-off
returns-clause-off c = λ i lo hi.
    let off : is_kept c.args.run.now.whole c.args.run.now.pg c.args.plan.now.bits c.args.vec.now c.args.k ≡ false = sym (c.requires.run.on c.args.k c.requires.within) ∙ c.requires.off in
    c.requires.run.on i (omega (arith, hi, c.idle_from.ensures.few))
    ∙ none_kept c.args.run.now.whole c.args.run.now.pg c.args.plan.now.bits c.args.vec.now c.args.k i off lo (c.idle_from.ensures.off i lo hi)
