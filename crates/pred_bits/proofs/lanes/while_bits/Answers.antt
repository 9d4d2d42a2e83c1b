use Rattle.std.proofs.Common.{◌<◌, ◌≤◌, ◌+◌, ◌/◌, suc, nat_lt, sym, subst, ◌∙◌}
use Rattle.lane_model.specs.FirstLast.{all_below}
use Rattle.lane_model.specs.Predicate.{while_holds}
use Rattle.pred_bits.proofs.Fields.{fields_same}
use Rattle.pred_bits.proofs.lanes.while_bits.Goals as goal

pub first_lanes-requires-clause-lanes : goal.first_lanes-requires-clause-lanes
first_lanes-requires-clause-lanes c = subst (λ e. c.while_count.result ≤ c.args.bits / (e / 8)) c.bits.ensures c.while_count.ensures.within

pub returns : goal.returns
returns c =
    c.first_lanes.ensures
    ∙ fields_same c.args.e c.args.bits (λ k. nat_lt k c.while_count.result) (λ k. all_below (suc k) (λ j. while_holds c.args.test c.args.width (c.args.from + j) c.args.to)) c.requires.whole
    (λ k h. c.while_count.ensures.value k (subst (λ e. k < c.args.bits / (e / 8)) (sym c.bits.ensures) h))
