use Rattle.std.proofs.Common.{refl, sym, ap, ◌∙◌}
use Rattle.emu_model.specs.Done.{Registers}
use Rattle.sve_effects.specs.LaneLoop.{lane_bits}
use Rattle.sve_effects.specs.PredicateRows.{unsigned_test}
use Rattle.sve_pred.proofs.Compared.{same_compared, same_told}
use Rattle.sve_pred.proofs.Lengths.{number_fits}
use Rattle.sve_pred.specs.declared.compares.Operand.TheVariants.{Number}
use Rattle.sve_pred.proofs.compares.unsigned.Goals as goal

pub returns-clause-registers : goal.returns-clause-registers
returns-clause-registers c =
    c.compare.ensures.registers
    ∙ ap (λ (r : Registers). r.core) (same_compared (lane_bits c.args.size) c.register.result c.args.pg c.args.pd c.args.zn c.unsigned_test.result (unsigned_test c.args.op) (Number c.unsigned_immediate-n.result) (Number c.args.imm7) c.args.core.now c.args.vec.now c.register.ensures c.unsigned_test.ensures (ap Number c.unsigned_immediate-n.ensures.value))

pub returns-clause-vectors : goal.returns-clause-vectors
returns-clause-vectors c =
    c.compare.ensures.vectors
    ∙ ap (λ (r : Registers). r.vectors) (same_compared (lane_bits c.args.size) c.register.result c.args.pg c.args.pd c.args.zn c.unsigned_test.result (unsigned_test c.args.op) (Number c.unsigned_immediate-n.result) (Number c.args.imm7) c.args.core.now c.args.vec.now c.register.ensures c.unsigned_test.ensures (ap Number c.unsigned_immediate-n.ensures.value))

pub compare-requires-clause-fits : goal.compare-requires-clause-fits
compare-requires-clause-fits c = number_fits c.unsigned_immediate-n.result c.args.size c.unsigned_immediate-n.ensures.small

pub compare-requires-clause-told : goal.compare-requires-clause-told
compare-requires-clause-told c =
    same_told c.lane_bits.result (lane_bits c.args.size) c.args.zn (unsigned_test c.args.op) c.unsigned_test.result (Number c.unsigned_immediate-n.result) (Number c.unsigned_immediate-n.result) c.args.vec.now c.unsigned_told-words.result
    c.lane_bits.ensures.value (sym c.unsigned_test.ensures) refl c.unsigned_told-words.ensures
