use Rattle.std.proofs.Common.{◌≡◌, ◌<◌, ◌+◌, ◌*◌, ◌/◌, ℕ, false}
use Rattle.sve_effects.specs.LaneLoop.{is_active}
use Rattle.sve_permutes.proofs.active.first_in.Given as goal

abbrev pub invariant-loop-j : goal.invariant-loop-j
invariant-loop-j l = (j : ℕ) → j < l.j → is_active l.e l.vec l.pg (l.i * (64 / l.e) + j) ≡ false
