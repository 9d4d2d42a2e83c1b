use Rattle.std.proofs.Common.{◌≡◌, ◌<◌, ◌≤◌, ℕ, false, get_or, length}
use Rattle.sve_effects.specs.LaneLoop.{is_active}
use Rattle.sve_permutes.proofs.slices.flags_in.Given as goal

abbrev pub invariant-loop-k : goal.invariant-loop-k
invariant-loop-k g l = record {
  count : length l.flags ≡ g.row.N;
  done : (i : ℕ) → i < l.k → get_or l.flags i false ≡ is_active l.e l.vec l.pg i;
  rest : (i : ℕ) → l.k ≤ i → get_or l.flags i false ≡ false;
}
