use Rattle.std.proofs.Common.{nat_lt, ◌∙◌}
use Rattle.lane_model.proofs.Bits.{each_bit_same}
use Rattle.lane_model.specs.Predicate.{is_upto}
use Rattle.pred_bits.proofs.Bytes.{byte_fields}
use Rattle.pred_bits.proofs.whole.upto.Goals as goal

pub returns : goal.returns
returns c =
    c.lanes_below.ensures ∙ byte_fields c.args.bits (λ k. nat_lt k c.limit.result) ∙ each_bit_same c.args.bits (λ k. nat_lt k c.limit.result) (is_upto c.args.inclusive c.args.place) c.limit.ensures
