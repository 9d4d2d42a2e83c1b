use Rattle.std.proofs.Common.{◌≡◌, ◌++◌, take, drop}
use Rattle.lane_kernels.specs.Chunks.{zip3}
use Rattle.lane_kernels.proofs.lane_wise.each3.Given as goal

abbrev pub invariant-loop-k : goal.invariant-loop-k
invariant-loop-k g l =
    let f = λ (a b c : g.row.T.Denot). g.T.Lane.of_number (g.F.LaneWise3.entry l.op g.T.Lane.BITS (g.T.Lane.number a) (g.T.Lane.number b) (g.T.Lane.number c)) in
    take l.k l.out ++ zip3 f (drop l.k l.a) (drop l.k l.b) (drop l.k l.c) ≡ zip3 f l.a l.b l.c
