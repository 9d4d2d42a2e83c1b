use Rattle.std.proofs.Common.{ap, sym}
use Rattle.sve_insn.specs.declared.ops.SatOp.{SatOp}
use Rattle.sve_effects.specs.declared.lane_functions.LaneOp.TheVariants.{SqaddAmount, Uqadd, SqsubAmount, Uqsub}
use Rattle.sve_effects.specs.Counts.{count_of, saturating}
use Rattle.sve_effects.specs.LaneLoop.{lane_bits}
use Rattle.sve_permutes.proofs.CopiedLanes.{counted_is}
use Rattle.sve_permutes.proofs.counts.sat_z.Goals as goal

pub returns-in-Sqinc : goal.returns-in-Sqinc
returns-in-Sqinc c =
    let v = c.args.vec.now in
    counted_is c.lane_bits-e.result (lane_bits c.args.size) c.count_of-count.result (count_of c.args.size c.args.imm4 c.args.pattern v) SqaddAmount (saturating c.args.op).0 c.args.zdn v c.counted_lanes.new.vec
    c.counted_lanes.ensures (ap (λ (op : SatOp). (saturating op).0) (sym c.in-Sqinc.is)) c.lane_bits-e.ensures.value c.count_of-count.ensures

pub returns-in-Uqinc : goal.returns-in-Uqinc
returns-in-Uqinc c =
    let v = c.args.vec.now in
    counted_is c.lane_bits-e.result (lane_bits c.args.size) c.count_of-count.result (count_of c.args.size c.args.imm4 c.args.pattern v) Uqadd (saturating c.args.op).0 c.args.zdn v c.counted_lanes-in-Uqinc.new.vec
    c.counted_lanes-in-Uqinc.ensures (ap (λ (op : SatOp). (saturating op).0) (sym c.in-Uqinc.is)) c.lane_bits-e.ensures.value c.count_of-count.ensures

pub returns-in-Sqdec : goal.returns-in-Sqdec
returns-in-Sqdec c =
    let v = c.args.vec.now in
    counted_is c.lane_bits-e.result (lane_bits c.args.size) c.count_of-count.result (count_of c.args.size c.args.imm4 c.args.pattern v) SqsubAmount (saturating c.args.op).0 c.args.zdn v c.counted_lanes-in-Sqdec.new.vec
    c.counted_lanes-in-Sqdec.ensures (ap (λ (op : SatOp). (saturating op).0) (sym c.in-Sqdec.is)) c.lane_bits-e.ensures.value c.count_of-count.ensures

pub returns-in-Uqdec : goal.returns-in-Uqdec
returns-in-Uqdec c =
    let v = c.args.vec.now in
    counted_is c.lane_bits-e.result (lane_bits c.args.size) c.count_of-count.result (count_of c.args.size c.args.imm4 c.args.pattern v) Uqsub (saturating c.args.op).0 c.args.zdn v c.counted_lanes-in-Uqdec.new.vec
    c.counted_lanes-in-Uqdec.ensures (ap (λ (op : SatOp). (saturating op).0) (sym c.in-Uqdec.is)) c.lane_bits-e.ensures.value c.count_of-count.ensures
