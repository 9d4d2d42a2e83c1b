use Rattle.std.proofs.Common.{◌/◌}
use Rattle.sve_effects.specs.LaneLoop.{is_active}
use Rattle.sve_permutes.proofs.ActiveWords.{IdleBelow}
use Rattle.sve_permutes.proofs.active.first_active.Given as goal

abbrev pub invariant-loop-i : goal.invariant-loop-i
invariant-loop-i l = IdleBelow (is_active l.e l.vec l.pg) (64 / l.e) l.i
