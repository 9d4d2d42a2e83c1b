use Rattle.std.proofs.Common.{◌≡◌, ◌<◌, ◌*◌, ◌/◌, ℕ, true}
use Rattle.sve_effects.specs.LaneLoop.{is_active}
use Rattle.active_lanes.proofs.fields.front_of_size.Given as goal

abbrev pub invariant-loop-i : goal.invariant-loop-i
invariant-loop-i l = (k : ℕ) → k < l.i * (64 / (l.e / 8)) → is_active l.e l.vec l.pg k ≡ true
