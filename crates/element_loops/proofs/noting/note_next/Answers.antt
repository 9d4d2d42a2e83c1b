use Rattle.std.proofs.Common.{◌≡◌, ◌+◌, ◌*◌, sym, ◌∙◌, arith}
use Rattle.element_loops.proofs.RunNotes.{lane_count, noted_idle, noted_more}
use Rattle.element_loops.proofs.noting.note_next.Goals as goal

pub note_lane-requires-clause-room : goal.note_lane-requires-clause-room
note_lane-requires-clause-room c = omega (arith, c.requires.count, c.position-room.ensures.within, c.position-room.ensures.room, lane_count c.args.k c.args.plan.now.registers c.args.plan.now.lanes c.requires.within)

pub returns-then-is_on-clause-noted : goal.returns-then-is_on-clause-noted
returns-then-is_on-clause-noted c =
    noted_more c.args.run.now.base c.args.run.now.pg c.args.run.now.whole c.args.plan.now c.args.vec.now c.requires.run c.args.write c.args.k c.args.at c.args.log.now.items c.note_lane.new.log.items (sym c.is_on.ensures ∙ c.if-is_on.true)
    c.requires.at c.requires.noted c.note_lane.ensures.items

pub returns-then-is_on-clause-count : goal.returns-then-is_on-clause-count
returns-then-is_on-clause-count c =
    let next : c.args.k * c.args.plan.now.registers + c.args.plan.now.registers ≡ (c.args.k + 1) * c.args.plan.now.registers = omega arith in
    omega (arith, c.note_lane.ensures.len, next, c.requires.count)

pub idle_lanes-requires-clause-off : goal.idle_lanes-requires-clause-off
idle_lanes-requires-clause-off c = sym c.is_on.ensures ∙ c.if-is_on.false

pub returns-clause-noted : goal.returns-clause-noted
returns-clause-noted c =
    c.requires.noted
    ∙ noted_idle c.args.run.now.base c.args.run.now.pg c.args.run.now.whole c.args.plan.now c.args.vec.now c.requires.run c.args.write c.args.k c.idle_lanes.result c.idle_lanes.ensures.off

pub returns-clause-count : goal.returns-clause-count
returns-clause-count c =
    let more : (c.args.k + c.idle_lanes.result) * c.args.plan.now.registers ≡ c.args.k * c.args.plan.now.registers + c.idle_lanes.result * c.args.plan.now.registers = omega arith in
    omega (arith, more, c.requires.count)
