use Rattle.std.proofs.Common.{◌≡◌, ◌+◌, ◌≤◌, drop, length}
use Rattle.asm_image.proofs.Newlines.{lines_left}
use Rattle.listing_model.specs.Lines.{lines_of}
use Rattle.asm_image.proofs.text_lines.count_lines.Given as goal

abbrev pub invariant-loop-c : goal.invariant-loop-c
invariant-loop-c l = (l.count ≤ l.c-index) × (length (lines_of l.bytes) ≡ l.count + lines_left l.is_open (drop l.c-index l.bytes))
