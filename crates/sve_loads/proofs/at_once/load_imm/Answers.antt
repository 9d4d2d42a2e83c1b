use Rattle.std.proofs.Common.{sym, ap, ◌∙◌}
use Rattle.element_loops.specs.Planned.{load_by}
use Rattle.sve_loads.specs.declared.shape.Shape.{Shape}
use Rattle.sve_loads.specs.Plans.{dtype_shape, imm_plan}
use Rattle.sve_loads.proofs.at_once.load_imm.Goals as goal

pub returns-in-Some-clause-loaded : goal.returns-in-Some-clause-loaded
returns-in-Some-clause-loaded c = λ is.
    ap (λ d. load_by (imm_plan (dtype_shape d) c.args.zt c.args.pg c.args.rn c.args.imm4 c.args.core.now c.args.vec.now) c.args.core.now c.args.vec.now c.args.mem.now.memory) (sym c.get.ensures.value)
    ∙ ap (λ (s : Shape). load_by (imm_plan s c.args.zt c.args.pg c.args.rn c.args.imm4 c.args.core.now c.args.vec.now) c.args.core.now c.args.vec.now c.args.mem.now.memory) c.in-Some.ensures.shape
    ∙ c.load_filled_imm.ensures.loaded is
