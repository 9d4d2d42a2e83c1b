use Rattle.std.proofs.Common.{sym, ◌∙◌}
use Rattle.pred_bits.proofs.Loops.{exclusive_run, inclusive_run, whole_run}
use Rattle.pred_bits.proofs.lanes.while_count.Goals as goal

pub returns-then-not-is_inclusive-clause-value : goal.returns-then-not-is_inclusive-clause-value
returns-then-not-is_inclusive-clause-value c =
    exclusive_run c.args.test c.args.width c.args.from c.args.to c.rank-a.result c.rank-b.result c.args.lanes c.requires c.rank-a.ensures.value c.rank-b.ensures.value
    c.numbers_below.result (sym c.is_inclusive.ensures ∙ c.if-not-is_inclusive.true) c.numbers_below.ensures

pub returns-then-b-low_bits-clause-value : goal.returns-then-b-low_bits-clause-value
returns-then-b-low_bits-clause-value c =
    whole_run c.args.test c.args.width c.args.from c.args.to c.rank-a.result c.rank-b.result c.args.lanes c.requires c.rank-a.ensures.value c.rank-b.ensures.value
    (sym c.is_inclusive.ensures ∙ c.if-not-is_inclusive.false) (c.if-b-low_bits.true ∙ c.low_bits.ensures.value)

pub returns-else-b-low_bits-clause-value : goal.returns-else-b-low_bits-clause-value
returns-else-b-low_bits-clause-value c =
    inclusive_run c.args.test c.args.width c.args.from c.args.to c.rank-a.result c.rank-b.result c.args.lanes c.requires c.rank-a.ensures.value c.rank-b.ensures.value
    c.numbers_below-else-b-low_bits.result (sym c.is_inclusive.ensures ∙ c.if-not-is_inclusive.false) (λ e. c.if-b-low_bits.false (e ∙ sym c.low_bits.ensures.value)) c.numbers_below-else-b-low_bits.ensures
