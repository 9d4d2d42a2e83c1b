use Rattle.std.proofs.Common.{◌≡◌, ◌<◌, ℕ, length}
use Rattle.lane_model.specs.Permute.{taken, indexed_place}
use Rattle.lane_permute.specs.Slices.{number_at}
use Rattle.lane_permute.proofs.by_number.chosen.Given as goal

abbrev pub invariant-loop-k : goal.invariant-loop-k
invariant-loop-k g l = (i : ℕ) → i < l.k → number_at g.T.Lane.number l.out i ≡ taken (number_at g.T.Lane.number l.a) (number_at g.T.Lane.number l.a) 0 0 (indexed_place (number_at g.T.Lane.number l.at i) (length l.a))
