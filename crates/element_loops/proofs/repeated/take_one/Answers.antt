use Rattle.std.proofs.Common.{◌≡◌, ◌<◌, ◌/◌, ℕ, Bool, Some, ap, sym, subst, ◌∙◌}
use Rattle.sve_effects.specs.LaneLoop.{is_active}
use Rattle.sve_effects.specs.FirstLast.{first_where}
use Rattle.element_loops.specs.declared.plan.OnLanes.TheVariants.{Only}
use Rattle.element_loops.specs.declared.plan.Target.{Target}
use Rattle.element_loops.specs.Layouts.{IsReplicated, IsTarget}
use Rattle.element_loops.proofs.Writes.{found_within}
use Rattle.element_loops.proofs.repeated.take_one.Goals as goal

pub take_found-requires-clause-replicated : goal.take_found-requires-clause-replicated
take_found-requires-clause-replicated c = subst (λ (t : Target). IsTarget t c.args.plan.now c.args.vec.now) c.requires.target c.requires.plan.target

pub take_found-requires-clause-found : goal.take_found-requires-clause-found
take_found-requires-clause-found c =
    let replicated : IsReplicated c.args.pg c.args.plan.now c.args.vec.now = subst (λ (t : Target). IsTarget t c.args.plan.now c.args.vec.now) c.requires.target c.requires.plan.target in
    let test : ℕ → Bool = is_active c.args.plan.now.bits c.args.vec.now c.args.pg in
    replicated.on ∙ ap Only (sym (c.only_lane.ensures (first_where (c.args.vec.now.bits / c.args.plan.now.bits) test) replicated.on) ∙ c.in-Some.is)

pub take_found-requires-clause-within : goal.take_found-requires-clause-within
take_found-requires-clause-within c =
    let replicated : IsReplicated c.args.pg c.args.plan.now c.args.vec.now = subst (λ (t : Target). IsTarget t c.args.plan.now c.args.vec.now) c.requires.target c.requires.plan.target in
    let test : ℕ → Bool = is_active c.args.plan.now.bits c.args.vec.now c.args.pg in
    let is : first_where (c.args.vec.now.bits / c.args.plan.now.bits) test ≡ Some c.in-Some.k = sym (c.only_lane.ensures (first_where (c.args.vec.now.bits / c.args.plan.now.bits) test) replicated.on) ∙ c.in-Some.is in
    subst (λ n. c.in-Some.k < n) (sym replicated.lanes) (found_within (c.args.vec.now.bits / c.args.plan.now.bits) test c.in-Some.k is)
