use Rattle.std.proofs.Common.{◌≡◌, drop}
use Rattle.emu_system.specs.Image.{overlaps_any}
use Rattle.elf_image.proofs.segments.overlaps_any.Given as goal

abbrev pub invariant-loop-other : goal.invariant-loop-other
invariant-loop-other l = overlaps_any l.s (drop l.other-index l.others) ≡ overlaps_any l.s l.others
