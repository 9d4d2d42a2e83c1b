use Rattle.std.proofs.Common.{◌≡◌, ◌*◌}
use Rattle.sve_effects.specs.LaneLoop.{folded, is_active, lane_of}
use Rattle.lane_tests.proofs.active_folds.fold_lanes.Given as goal

abbrev pub invariant-loop-i : goal.invariant-loop-i
invariant-loop-i g l = l.so_far ≡ folded (is_active g.T.Lane.BITS l.vec l.pg) (g.F.LaneWiseFold.step l.op g.T.Lane.BITS) (g.F.Reduction.start l.op g.T.Lane.BITS) (lane_of g.T.Lane.BITS l.vec l.zn) (l.i * g.row.W)
