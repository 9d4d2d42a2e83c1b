use Rattle.std.proofs.Common.{ap, ◌∙◌}
use Rattle.element_loops.specs.Planned.{load_by}
use Rattle.sve_loads.specs.declared.shape.Shape.{Shape}
use Rattle.sve_loads.specs.Plans.{reg_plan}
use Rattle.sve_loads.proofs.at_once.load_nt_reg.Goals as goal

pub returns-clause-loaded : goal.returns-clause-loaded
returns-clause-loaded c = λ is.
    ap (λ (s : Shape). load_by (reg_plan s c.args.zt c.args.pg c.args.rn c.args.rm c.args.core.now c.args.vec.now) c.args.core.now c.args.vec.now c.args.mem.now.memory) c.filled_by.ensures.shape
    ∙ c.load_filled_reg.ensures.loaded is
