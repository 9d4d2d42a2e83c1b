use Rattle.std.proofs.Common.{arith}
use Rattle.register_lanes.proofs.PairLanes.{register_room}
use Rattle.sve_data.proofs.lanes.one_by_one.Goals as goal

pub each_lane-requires : goal.each_lane-requires
each_lane-requires g c =
    let room = register_room g.T.Lane.BITS g.row.W c.args.vec.now.bits c.args.i g.met.T.Lane.width g.met.T.Quad.whole c.requires.within in
    omega (arith, room)
