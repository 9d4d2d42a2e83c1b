use Rattle.std.proofs.Common.{◌≤◌, arith, ◌∙◌}
use Rattle.emu_system.specs.Image.{pages_of}
use Rattle.emu_machine.proofs.Loading.{segments_more}
use Rattle.emu_machine.proofs.Room.{room_for_segment}
use Rattle.emu_machine.proofs.load.load_segments.Goals as goal

pub load_segment-requires-clause-free : goal.load_segment-requires-clause-free
load_segment-requires-clause-free c =
    let now = c.loop-segment.invariant in
    let within : pages_of c.args.segments.now ≤ c.loop-segment.pages.memory.limit = omega (arith, now.limit, c.requires.within_limit) in
    room_for_segment c.args.file.now c.args.segments.now c.loop-segment.segment-index _ c.loop-segment.pages.memory (omega arith) c.requires.loadable now.pages within

pub loop-segment-preserved : goal.loop-segment-preserved
loop-segment-preserved c =
    let now = c.loop-segment.invariant in
    let has = c.load_segment.ensures.pages in
    record {
      pages = segments_more c.args.file.now c.args.segments.now c.loop-segment.segment-index _ c.loop-segment.pages.memory c.load_segment.new.pages.memory (omega arith) now.pages has;
      limit = has.limit ∙ now.limit;
      marks = c.load_segment.ensures.marks ∙ now.marks;
    }
