use Rattle.std.proofs.Common.{◌≡◌, drop}
use Rattle.emu_system.specs.Image.{headers_address}
use Rattle.elf_image.proofs.segments.headers_address.Given as goal

abbrev pub invariant-loop-s : goal.invariant-loop-s
invariant-loop-s l = headers_address l.phoff (drop l.s-index l.segments) ≡ headers_address l.phoff l.segments
