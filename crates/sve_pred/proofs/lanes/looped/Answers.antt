use Rattle.std.proofs.Common.{ℕ, ap, ◌∙◌, arith}
use Rattle.emu_bits.specs.Flags.{size_of}
use Rattle.emu_bits.specs.Numbers.{width_of}
use Rattle.emu_model.specs.State.{read_x}
use Rattle.lane_model.specs.declared.predicates.WhileTest.{WhileTest}
use Rattle.sve_effects.specs.LaneLoop.{lane_bits}
use Rattle.sve_effects.specs.Predicate.{pred_test, while_lanes}
use Rattle.sve_effects.specs.PredicateRows.{predicate_bits, ones, while_of}
use Rattle.sve_pred.proofs.Lengths.{some_lane}
use Rattle.sve_pred.proofs.lanes.looped.Goals as goal

pub while_tested-requires-clause-some : goal.while_tested-requires-clause-some
while_tested-requires-clause-some c = some_lane c.esize.result c.bits.result (omega (arith, c.bits.ensures.value))

pub returns-clause-flags : goal.returns-clause-flags
returns-clause-flags c =
    let m : ℕ = predicate_bits c.args.vec.now in
    let flags = λ (test : WhileTest) (w a b e n : ℕ). pred_test e n (ones n) (while_lanes test w a b e n) in
    c.while_tested.ensures.flags
    ∙ ap (flags c.condition.result c.width.result c.x.result c.x-2.result (size_of c.esize.result)) c.bits.ensures.value
    ∙ ap (λ e. flags c.condition.result c.width.result c.x.result c.x-2.result e m) c.esize.ensures
    ∙ ap (λ (test : WhileTest). flags test c.width.result c.x.result c.x-2.result (lane_bits c.args.size) m) c.condition.ensures
    ∙ ap (λ w. flags (while_of c.args.op) w c.x.result c.x-2.result (lane_bits c.args.size) m) c.width.ensures.value
    ∙ ap (λ a. flags (while_of c.args.op) (width_of c.args.sf) a c.x-2.result (lane_bits c.args.size) m) c.x.ensures
    ∙ ap (λ b. flags (while_of c.args.op) (width_of c.args.sf) (read_x c.args.core.now c.args.rn) b (lane_bits c.args.size) m) c.x-2.ensures
