use Rattle.std.proofs.Common.{◌≡◌, None}
use Rattle.sve_effects.specs.LaneLoop.{is_active}
use Rattle.sve_effects.specs.FirstLast.{first_where}
use Rattle.sve_loads.proofs.plans.first_active.Given as goal

abbrev pub invariant-loop-k : goal.invariant-loop-k
invariant-loop-k l = first_where l.k (is_active l.e l.vec l.pg) ≡ None
