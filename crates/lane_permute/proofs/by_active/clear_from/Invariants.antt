use Rattle.std.proofs.Common.{◌≡◌, ◌<◌, ◌≤◌, ℕ}
use Rattle.lane_permute.specs.Slices.{number_at}
use Rattle.lane_permute.proofs.by_active.clear_from.Given as goal

abbrev pub invariant-loop-k : goal.invariant-loop-k
invariant-loop-k g l = record {
  below : (i : ℕ) → i < l.from → number_at g.T.Lane.number l.out i ≡ number_at g.T.Lane.number l.fn.out i;
  clear : (i : ℕ) → l.from ≤ i → i < l.k → number_at g.T.Lane.number l.out i ≡ 0;
}
