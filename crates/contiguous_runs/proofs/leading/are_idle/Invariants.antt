use Rattle.std.proofs.Common.{◌≡◌, ◌<◌, ◌≤◌, ◌-◌, ◌/◌, ℕ, false}
use Rattle.sve_effects.specs.LaneLoop.{is_active}
use Rattle.contiguous_runs.proofs.leading.are_idle.Given as goal

abbrev pub invariant-loop-at : goal.invariant-loop-at
invariant-loop-at l = record {
  few : l.at ≤ l.vec.bits / l.e;
  behind : l.k ≤ l.at;
  off : (i : ℕ) → l.k ≤ i → i < l.at → is_active l.e l.vec l.pg i ≡ false;
}

abbrev pub decreases-loop-at : goal.decreases-loop-at
decreases-loop-at l = l.vec.bits / l.e - l.at
