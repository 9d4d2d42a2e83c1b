use Rattle.std.proofs.Common.{◌≡◌}
use Rattle.elf_image.specs.Images.{seen_image}
use Rattle.vl_sweep.proofs.LoadAppended.{first_lines}
use Rattle.vl_sweep.proofs.load_runs.load_lines.Given as goal

abbrev pub invariant-lengths : goal.invariant-lengths
invariant-lengths l = l.lines.held ≡ first_lines l.bytes (seen_image l.image) l.shorter
