use Rattle.std.proofs.Common.{◌<◌, length, arith}
use Rattle.lane_model.specs.Bits.{is_set}
use Rattle.lane_permute.proofs.Gathered.{compacted}
use Rattle.lane_permute.proofs.by_active.compact.Goals as goal

pub returns : goal.returns
returns g c = λ i h. let here : i < length c.args.out.now = omega arith in compacted g.T.Lane.number c.args.a.now (is_set c.args.mask.now) (length c.args.out.now) c.gather-count.result c.gather-count.new.out c.clear_from.new.out c.gather-count.ensures.count c.gather-count.ensures.lanes (λ i h. let here : i < length c.gather-count.new.out = omega arith in c.clear_from.ensures i here) i here
