use Rattle.std.proofs.Common.{◌≡◌, ◌<◌, ◌≤◌, ◌+◌, ◌*◌, ◌/◌, ℕ, false}
use Rattle.sve_effects.specs.LaneLoop.{is_active}
use Rattle.sve_permutes.proofs.active.last_in.Given as goal

abbrev pub invariant-loop-j : goal.invariant-loop-j
invariant-loop-j l = (j : ℕ) → l.j ≤ j → j < 64 / l.e → is_active l.e l.vec l.pg (l.i * (64 / l.e) + j) ≡ false
