use Rattle.std.proofs.Common.{◌≡◌, length}
use Rattle.lane_model.specs.Permute.{active_lanes}
use Rattle.lane_model.specs.Bits.{is_set}
use Rattle.lane_permute.specs.Slices.{HasLanes}
use Rattle.lane_permute.proofs.by_active.gather.Given as goal

abbrev pub invariant-loop-k : goal.invariant-loop-k
invariant-loop-k g l = record {
  count : l.count ≡ length (active_lanes (is_set l.mask) l.k);
  lanes : HasLanes g.T.Lane.number l.a (active_lanes (is_set l.mask) l.k) l.out;
}
