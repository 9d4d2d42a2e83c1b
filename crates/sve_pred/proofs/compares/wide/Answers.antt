use Rattle.std.proofs.Common.{refl, sym, ap, ◌∙◌}
use Rattle.emu_model.specs.Done.{Registers}
use Rattle.sve_effects.specs.LaneLoop.{lane_bits}
use Rattle.sve_effects.specs.PredicateRows.{wide_test}
use Rattle.sve_pred.proofs.Compared.{same_compared, same_told}
use Rattle.sve_pred.specs.declared.compares.Operand.TheVariants.{Covering}
use Rattle.sve_pred.proofs.compares.wide.Goals as goal

pub returns-clause-registers : goal.returns-clause-registers
returns-clause-registers c =
    c.compare.ensures.registers
    ∙ ap (λ (r : Registers). r.core) (same_compared (lane_bits c.args.size) c.register.result c.args.pg c.args.pd c.args.zn c.wide_test.result (wide_test c.args.op) (Covering c.args.zm) (Covering c.args.zm) c.args.core.now c.args.vec.now c.register.ensures c.wide_test.ensures refl)

pub returns-clause-vectors : goal.returns-clause-vectors
returns-clause-vectors c =
    c.compare.ensures.vectors
    ∙ ap (λ (r : Registers). r.vectors) (same_compared (lane_bits c.args.size) c.register.result c.args.pg c.args.pd c.args.zn c.wide_test.result (wide_test c.args.op) (Covering c.args.zm) (Covering c.args.zm) c.args.core.now c.args.vec.now c.register.ensures c.wide_test.ensures refl)

pub compare-requires-clause-told : goal.compare-requires-clause-told
compare-requires-clause-told c =
    same_told c.lane_bits.result (lane_bits c.args.size) c.args.zn (wide_test c.args.op) c.wide_test.result (Covering c.args.zm) (Covering c.args.zm) c.args.vec.now c.wide_told-words.result
    c.lane_bits.ensures.value (sym c.wide_test.ensures) refl c.wide_told-words.ensures
