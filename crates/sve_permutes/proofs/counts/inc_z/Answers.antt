use Rattle.std.proofs.Common.{ap, sym}
use Rattle.sve_effects.specs.declared.lane_functions.LaneOp.TheVariants.{Add, Sub}
use Rattle.sve_effects.specs.Counts.{count_of, inc_lane_op}
use Rattle.sve_effects.specs.LaneLoop.{lane_bits}
use Rattle.sve_permutes.proofs.CopiedLanes.{counted_is}
use Rattle.sve_permutes.proofs.counts.inc_z.Goals as goal

pub returns-in-Inc : goal.returns-in-Inc
returns-in-Inc c =
    let v = c.args.vec.now in
    counted_is c.lane_bits-e.result (lane_bits c.args.size) c.count_of-count.result (count_of c.args.size c.args.imm4 c.args.pattern v) Add (inc_lane_op c.args.op) c.args.zdn v c.counted_lanes.new.vec
    c.counted_lanes.ensures (ap inc_lane_op (sym c.in-Inc.is)) c.lane_bits-e.ensures.value c.count_of-count.ensures

pub returns-in-Dec : goal.returns-in-Dec
returns-in-Dec c =
    let v = c.args.vec.now in
    counted_is c.lane_bits-e.result (lane_bits c.args.size) c.count_of-count.result (count_of c.args.size c.args.imm4 c.args.pattern v) Sub (inc_lane_op c.args.op) c.args.zdn v c.counted_lanes-in-Dec.new.vec
    c.counted_lanes-in-Dec.ensures (ap inc_lane_op (sym c.in-Dec.is)) c.lane_bits-e.ensures.value c.count_of-count.ensures
