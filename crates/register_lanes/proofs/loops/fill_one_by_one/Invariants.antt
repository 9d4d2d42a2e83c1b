use Rattle.std.proofs.Common.{◌≡◌}
use Rattle.register_lanes.specs.Written.{written}
use Rattle.register_lanes.proofs.loops.fill_one_by_one.Given as goal

abbrev pub invariant-loop-i : goal.invariant-loop-i
invariant-loop-i g l = record {
  bits : l.vec.bits ≡ l.fn.vec.bits;
  written : l.vec ≡ written g.T.Lane.BITS (g.L.Gives.value l.lanes g.T.Lane.BITS l.fn.vec) l.i l.zd l.fn.vec;
}
