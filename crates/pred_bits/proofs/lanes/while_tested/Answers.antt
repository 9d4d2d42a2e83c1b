use Rattle.std.proofs.Common.{◌<◌, ◌≤◌, ◌+◌, ◌/◌, suc, true, nat_lt, sym, ap, subst, ◌∙◌}
use Rattle.emu_bits.specs.Flags.{size_of}
use Rattle.lane_model.specs.Bits.{active, lanes_of}
use Rattle.lane_model.specs.Lists.{each}
use Rattle.lane_model.specs.FirstLast.{all_below}
use Rattle.lane_model.specs.Predicate.{test_flags, while_holds, while_lanes}
use Rattle.pred_bits.proofs.AllActive.{flags_same, field_active, one_active}
use Rattle.pred_bits.proofs.Fields.{fields_same}
use Rattle.pred_bits.proofs.lanes.while_tested.Goals as goal

pub flags_below-requires : goal.flags_below-requires
flags_below-requires c = subst (λ e. 0 < c.args.bits / (e / 8)) (sym c.bits.ensures) c.requires.some

pub first_lanes-requires-clause-lanes : goal.first_lanes-requires-clause-lanes
first_lanes-requires-clause-lanes c = subst (λ e. c.while_count-count.result ≤ c.args.bits / (e / 8)) c.bits.ensures c.while_count-count.ensures.within

pub returns-clause-lanes : goal.returns-clause-lanes
returns-clause-lanes c =
    c.first_lanes.ensures
    ∙ fields_same c.args.e c.args.bits (λ k. nat_lt k c.while_count-count.result) (λ k. all_below (suc k) (λ j. while_holds c.args.test c.args.width (c.args.from + j) c.args.to)) c.requires.whole
    (λ k h. c.while_count-count.ensures.value k (subst (λ e. k < c.args.bits / (e / 8)) (sym c.bits.ensures) h))

pub returns-clause-flags : goal.returns-clause-flags
returns-clause-flags c =
    c.flags_below.ensures ∙ ap (λ e. test_flags (c.args.bits / (e / 8)) (λ k. true) (λ k. nat_lt k c.while_count-count.result)) c.bits.ensures
    ∙ flags_same (lanes_of (size_of c.args.e) c.args.bits) (λ k. true) (λ k. nat_lt k c.while_count-count.result) (active (size_of c.args.e) (each c.args.bits (λ k. true)))
    (active (size_of c.args.e) (while_lanes c.args.test c.args.width c.args.from c.args.to (size_of c.args.e) c.args.bits))
    (λ k h. sym (one_active c.args.e c.args.bits k h))
    (λ k h. c.while_count-count.ensures.value k (subst (λ e. k < c.args.bits / (e / 8)) (sym c.bits.ensures) h)
    ∙ sym (field_active c.args.e c.args.bits k (λ k. all_below (suc k) (λ j. while_holds c.args.test c.args.width (c.args.from + j) c.args.to)) h))
