use Rattle.std.proofs.Common.{refl, sym, ap, ◌∙◌}
use Rattle.emu_model.specs.Done.{Registers}
use Rattle.emu_bits.specs.Numbers.{sign_extended}
use Rattle.sve_effects.specs.LaneLoop.{lane_bits}
use Rattle.sve_effects.specs.PredicateRows.{signed_test}
use Rattle.sve_pred.proofs.Compared.{same_compared, same_told}
use Rattle.sve_pred.specs.declared.compares.Operand.TheVariants.{Number}
use Rattle.sve_pred.proofs.compares.signed.Goals as goal

pub returns-clause-registers : goal.returns-clause-registers
returns-clause-registers c =
    c.compare.ensures.registers
    ∙ ap (λ (r : Registers). r.core) (same_compared (lane_bits c.args.size) c.register.result c.args.pg c.args.pd c.args.zn c.signed_test.result (signed_test c.args.op) (Number c.immediate-n.result) (Number (sign_extended (lane_bits c.args.size) 5 c.args.imm5)) c.args.core.now c.args.vec.now c.register.ensures c.signed_test.ensures (ap Number c.immediate-n.ensures.value))

pub returns-clause-vectors : goal.returns-clause-vectors
returns-clause-vectors c =
    c.compare.ensures.vectors
    ∙ ap (λ (r : Registers). r.vectors) (same_compared (lane_bits c.args.size) c.register.result c.args.pg c.args.pd c.args.zn c.signed_test.result (signed_test c.args.op) (Number c.immediate-n.result) (Number (sign_extended (lane_bits c.args.size) 5 c.args.imm5)) c.args.core.now c.args.vec.now c.register.ensures c.signed_test.ensures (ap Number c.immediate-n.ensures.value))

pub compare-requires-clause-told : goal.compare-requires-clause-told
compare-requires-clause-told c =
    same_told c.lane_bits.result (lane_bits c.args.size) c.args.zn (signed_test c.args.op) c.signed_test.result (Number c.immediate-n.result) (Number c.immediate-n.result) c.args.vec.now c.signed_told-words.result
    c.lane_bits.ensures.value (sym c.signed_test.ensures) refl c.signed_told-words.ensures
