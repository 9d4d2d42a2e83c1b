use Rattle.std.proofs.Common.{◌≡◌, ◌<◌, ◌-◌, ℕ}
use Rattle.lane_permute.specs.Slices.{number_at}
use Rattle.lane_permute.proofs.rev.Given as goal

abbrev pub invariant-loop-k : goal.invariant-loop-k
invariant-loop-k g l = (i : ℕ) → i < l.k → number_at g.T.Lane.number l.out i ≡ number_at g.T.Lane.number l.a (l.n - 1 - i)
