use Rattle.std.proofs.Common.{refl, sym, ap, ◌∙◌}
use Rattle.emu_model.specs.Done.{Registers}
use Rattle.sve_effects.specs.LaneLoop.{lane_bits}
use Rattle.sve_effects.specs.PredicateRows.{vector_test}
use Rattle.sve_pred.proofs.Compared.{same_compared, same_told}
use Rattle.sve_pred.specs.declared.compares.Operand.TheVariants.{Lane}
use Rattle.sve_pred.proofs.compares.vectors.Goals as goal

pub returns-clause-registers : goal.returns-clause-registers
returns-clause-registers c =
    c.compare.ensures.registers
    ∙ ap (λ (r : Registers). r.core) (same_compared (lane_bits c.args.size) c.register.result c.args.pg c.args.pd c.args.zn c.vector_test.result (vector_test c.args.op) (Lane c.args.zm) (Lane c.args.zm) c.args.core.now c.args.vec.now c.register.ensures c.vector_test.ensures refl)

pub returns-clause-vectors : goal.returns-clause-vectors
returns-clause-vectors c =
    c.compare.ensures.vectors
    ∙ ap (λ (r : Registers). r.vectors) (same_compared (lane_bits c.args.size) c.register.result c.args.pg c.args.pd c.args.zn c.vector_test.result (vector_test c.args.op) (Lane c.args.zm) (Lane c.args.zm) c.args.core.now c.args.vec.now c.register.ensures c.vector_test.ensures refl)

pub compare-requires-clause-told : goal.compare-requires-clause-told
compare-requires-clause-told c =
    same_told c.lane_bits.result (lane_bits c.args.size) c.args.zn (vector_test c.args.op) c.vector_test.result (Lane c.args.zm) (Lane c.args.zm) c.args.vec.now c.vectors_told-words.result
    c.lane_bits.ensures.value (sym c.vector_test.ensures) refl c.vectors_told-words.ensures
