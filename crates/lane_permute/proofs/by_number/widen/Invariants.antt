use Rattle.std.proofs.Common.{◌≡◌, ◌<◌, ◌+◌, ℕ}
use Rattle.lane_permute.specs.Slices.{number_at}
use Rattle.lane_permute.proofs.by_number.widen.Given as goal
use Rattle.lane_model.specs.Extended.{extended_by}

abbrev pub invariant-loop-k : goal.invariant-loop-k
invariant-loop-k g l = (i : ℕ) → i < l.k → number_at g.T.Lane.number l.out i ≡ extended_by l.signed g.T.Lane.BITS g.H.Lane.BITS (number_at g.H.Lane.number l.a (l.first + i))
