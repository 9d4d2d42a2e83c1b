use Rattle.std.proofs.Common.{◌≡◌, ◌++◌, take, drop}
use Rattle.std.specs.Simd.Lanes.{zip2}
use Rattle.lane_kernels.proofs.lane_wise.each_tested.Given as goal

abbrev pub invariant-loop-k : goal.invariant-loop-k
invariant-loop-k g l =
    let f = λ (a b : g.row.T.Denot). g.F.LaneWiseTest2.entry l.op g.T.Lane.BITS (g.T.Lane.number a) (g.T.Lane.number b) in
    take l.k l.out ++ zip2 f (drop l.k l.a) (drop l.k l.b) ≡ zip2 f l.a l.b
