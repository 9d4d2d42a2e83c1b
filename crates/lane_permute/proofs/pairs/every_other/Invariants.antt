use Rattle.std.proofs.Common.{◌≡◌, ◌<◌, ◌+◌, ◌*◌, ℕ}
use Rattle.lane_model.specs.Permute.{taken, concatenated}
use Rattle.lane_permute.specs.Slices.{number_at}
use Rattle.lane_permute.proofs.pairs.every_other.Given as goal

abbrev pub invariant-loop-k : goal.invariant-loop-k
invariant-loop-k g l = (i : ℕ) → i < l.k → number_at g.T.Lane.number l.out i ≡ taken (number_at g.T.Lane.number l.a) (number_at g.T.Lane.number l.b) 0 0 (concatenated l.n (2 * i + l.odd))

abbrev pub invariant-loop-k-2 : goal.invariant-loop-k-2
invariant-loop-k-2 g l = (i : ℕ) → i < l.k → number_at g.T.Lane.number l.out i ≡ taken (number_at g.T.Lane.number l.a) (number_at g.T.Lane.number l.b) 0 0 (concatenated l.n (2 * i + l.odd))
