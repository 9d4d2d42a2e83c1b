use Rattle.std.proofs.Common.{◌≡◌}
use Rattle.lane_model.specs.FirstLast.{first_where}
use Rattle.lane_model.specs.Bits.{is_set}
use Rattle.lane_permute.proofs.by_active.first_active.Given as goal

abbrev pub invariant-loop-k : goal.invariant-loop-k
invariant-loop-k l = l.found ≡ first_where l.k (is_set l.mask)
