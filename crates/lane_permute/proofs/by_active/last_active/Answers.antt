use Rattle.lane_model.specs.Bits.{is_set}
use Rattle.std.proofs.Common.{length, arith}
use Rattle.lane_permute.proofs.FirstLast.{found_last}
use Rattle.lane_permute.proofs.by_active.last_active.Goals as goal

pub returns-clause-found : goal.returns-clause-found
returns-clause-found c = found_last (length c.args.mask.now) c.loop-k.k (is_set c.args.mask.now) c.loop-k.found c.loop-k.invariant (omega arith)
