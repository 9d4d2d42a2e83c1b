use Rattle.std.proofs.Common.{◌≡◌, ◌≤◌, ◌/◌, min, nat_lt, ap, subst, ◌∙◌, arith}
use Rattle.emu_bits.specs.Flags.{size_of}
use Rattle.lane_model.specs.Bits.{lanes_of}
use Rattle.lane_model.specs.Predicate as model
use Rattle.pred_bits.proofs.Fields.{fields_same, cut_count}
use Rattle.pred_bits.proofs.lanes.lanes_below.Goals as goal

pub first_lanes-requires-clause-lanes : goal.first_lanes-requires-clause-lanes
first_lanes-requires-clause-lanes c = subst (λ e. c.min.result ≤ c.args.bits / (e / 8)) c.bits.ensures (omega (arith, c.min.ensures))

pub returns : goal.returns
returns c =
    let n = lanes_of (size_of c.args.e) c.args.bits in
    let count : c.min.result ≡ min c.args.count (lanes_of (size_of c.args.e) c.args.bits) = c.min.ensures ∙ ap (λ e. min c.args.count (c.args.bits / (e / 8))) c.bits.ensures in
    c.first_lanes.ensures ∙ ap (model.lanes_below (size_of c.args.e) c.args.bits) count
    ∙ fields_same c.args.e c.args.bits (λ k. nat_lt k (min c.args.count n)) (λ k. nat_lt k c.args.count) c.requires.whole (cut_count n c.args.count)
