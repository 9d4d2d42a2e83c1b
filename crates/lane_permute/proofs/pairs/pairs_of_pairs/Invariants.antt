use Rattle.std.proofs.Common.{◌≡◌, ◌<◌, ◌+◌, ◌*◌, ◌/◌, ℕ}
use Rattle.lane_model.specs.Permute.{taken, by_parity}
use Rattle.lane_permute.specs.Slices.{number_at}
use Rattle.lane_permute.proofs.pairs.pairs_of_pairs.Given as goal

abbrev pub invariant-loop-j : goal.invariant-loop-j
invariant-loop-j g l = (i : ℕ) → i < 2 * l.j → number_at g.T.Lane.number l.out i ≡ taken (number_at g.T.Lane.number l.a) (number_at g.T.Lane.number l.b) 0 0 (by_parity i (2 * (i / 2) + l.odd))
