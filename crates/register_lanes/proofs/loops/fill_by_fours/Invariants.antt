use Rattle.std.proofs.Common.{◌≡◌, ◌*◌}
use Rattle.register_lanes.specs.Written.{written}
use Rattle.register_lanes.proofs.loops.fill_by_fours.Given as goal

abbrev pub invariant-loop-n : goal.invariant-loop-n
invariant-loop-n g l = record {
  bits : l.vec.bits ≡ l.fn.vec.bits;
  written : l.vec ≡ written g.T.Lane.BITS (g.L.Gives.value l.lanes g.T.Lane.BITS l.fn.vec) (4 * l.n) l.zd l.fn.vec;
}
