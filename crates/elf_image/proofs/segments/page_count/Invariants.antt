use Rattle.std.proofs.Common.{◌≡◌, ◌≤◌, ◌*◌, ◌^◌, take}
use Rattle.std.specs.Prelude.{sum_by}
use Rattle.emu_system.specs.Image.{page_count}
use Rattle.elf_image.proofs.segments.page_count.Given as goal

abbrev pub invariant-loop-s : goal.invariant-loop-s
invariant-loop-s l = record {
  is : l.count ≡ sum_by page_count (take l.s-index l.segments);
  small : l.count ≤ l.s-index * 2 ^ 64;
}
