use Rattle.std.proofs.Common.{◌≡◌, take}
use Rattle.std.specs.List.{flat_map}
use Rattle.std.specs.FinMap.{from_entries}
use Rattle.emu_system.specs.Start.{segment_pages}
use Rattle.emu_machine.proofs.load.load_segments.Given as goal

abbrev pub invariant-loop-segment : goal.invariant-loop-segment
invariant-loop-segment l = record {
  pages : l.pages.memory.pages ≡ from_entries (flat_map (segment_pages l.file) (take l.segment-index l.segments));
  limit : l.pages.memory.limit ≡ l.fn.pages.memory.limit;
  marks : l.pages.marks ≡ l.fn.pages.marks;
}
