use Rattle.std.proofs.Common.{ap, ◌∙◌}
use Rattle.element_loops.specs.Planned.{store_by}
use Rattle.sve_loads.specs.declared.shape.Shape.{Shape}
use Rattle.sve_loads.specs.Plans.{imm_plan}
use Rattle.sve_loads.proofs.at_once.store_imm.Goals as goal

pub returns-in-Some-clause-stored : goal.returns-in-Some-clause-stored
returns-in-Some-clause-stored c = λ is.
    ap (λ (s : Shape). store_by (imm_plan s c.args.zt c.args.pg c.args.rn c.args.imm4 c.args.core.now c.args.vec.now) c.args.core.now c.args.vec.now c.args.mem.now.memory) c.in-Some.ensures.shape
    ∙ c.store_filled_imm.ensures.stored is
