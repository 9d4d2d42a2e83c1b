use Rattle.std.proofs.Common.{◌≡◌, ◌+◌, ◌-◌, ◌≤◌, drop, length}
use Rattle.std.specs.List.{prefix_len}
use Rattle.asm_image.specs.TextLines.{in_line}
use Rattle.asm_image.proofs.text_lines.newline_from.Given as goal

abbrev pub invariant-loop-to : goal.invariant-loop-to
invariant-loop-to l = (l.at ≤ l.to) × (l.to ≤ length l.bytes) × (l.at + prefix_len in_line (drop l.at l.bytes) ≡ l.to + prefix_len in_line (drop l.to l.bytes))

abbrev pub decreases-loop-to : goal.decreases-loop-to
decreases-loop-to l = length l.bytes - l.to
