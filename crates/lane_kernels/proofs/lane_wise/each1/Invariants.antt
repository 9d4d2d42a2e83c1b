use Rattle.std.proofs.Common.{◌≡◌, ◌++◌, take, drop, map}
use Rattle.lane_kernels.proofs.lane_wise.each1.Given as goal

abbrev pub invariant-loop-k : goal.invariant-loop-k
invariant-loop-k g l =
    let f = λ (a : g.row.T.Denot). g.T.Lane.of_number (g.F.LaneWise1.entry l.op g.T.Lane.BITS (g.T.Lane.number a)) in
    take l.k l.out ++ map f (drop l.k l.a) ≡ map f l.a
