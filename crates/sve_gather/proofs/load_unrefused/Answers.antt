use Rattle.std.proofs.Common.{sym, ap, ◌∙◌}
use Rattle.sve_effects.specs.Effects.{is_non_fault}
use Rattle.element_loops.specs.declared.plan.Plan.{Plan}
use Rattle.sve_gather.specs.FirstFaultPlan.{first_fault_by}
use Rattle.sve_gather.specs.PlanLaws.{first_loaded}
use Rattle.sve_gather.proofs.load_unrefused.Goals as goal

pub returns-clause-loaded : goal.returns-clause-loaded
returns-clause-loaded c = λ is.
    sym (first_loaded c.args.i.now c.args.core.now c.args.vec.now c.args.mem.now.memory c.requires.own)
    ∙ ap (λ (p : Plan). first_fault_by (is_non_fault c.args.i.now) p c.args.core.now c.args.vec.now c.args.mem.now.memory) (sym c.plan_apart-plan.ensures.value)
    ∙ c.load_gather.ensures.loaded is (is_non_fault c.args.i.now)
