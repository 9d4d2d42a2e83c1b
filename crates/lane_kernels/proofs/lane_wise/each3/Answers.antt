use Rattle.std.proofs.Common.{arith}
use Rattle.lane_kernels.proofs.Zips.{lane_cut3, lane_done}
use Rattle.lane_kernels.proofs.lane_wise.each3.Goals as goal

pub loop-k-preserved : goal.loop-k-preserved
loop-k-preserved g c =
    let f = λ (x y z : g.row.T.Denot). g.T.Lane.of_number (g.F.LaneWise3.entry c.args.op.now g.T.Lane.BITS (g.T.Lane.number x) (g.T.Lane.number y) (g.T.Lane.number z)) in
    lane_done c.loop-k.k c.loop-k.out c.one3.result _ _ _ (omega arith)
    (lane_cut3 f c.loop-k.k c.args.a.now c.args.b.now c.args.c.now c.index-a-k.result c.index-b-k.result c.index-c-k.result c.one3.result (omega arith) (omega arith) (omega arith)
    c.index-a-k.is c.index-b-k.is c.index-c-k.is c.one3.ensures)
    c.loop-k.invariant
