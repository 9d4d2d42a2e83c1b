use Rattle.std.proofs.Common.{◌≡◌, ◌≤◌, ◌-◌, [], length}
use Rattle.emu_system.specs.Image.{segments_from}
use Rattle.elf_image.proofs.segments.read_segments.Given as goal

abbrev pub invariant-loop-index : goal.invariant-loop-index
invariant-loop-index l = record {
  list : segments_from l.bytes l.index (l.header.phnum - l.index) l.segments.items ≡ segments_from l.bytes 0 l.header.phnum [];
  few : length l.segments.items ≤ l.index;
}
