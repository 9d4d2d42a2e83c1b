use Rattle.std.proofs.Common.{◌≡◌, ◌+◌, ◌-◌, ◌≤◌, drop, length}
use Rattle.std.specs.List.{prefix_len}
use Rattle.asm_text.specs.Plain.{is_plain}
use Rattle.asm_text.proofs.strings.plain_end.Given as goal

abbrev pub invariant-loop-to : goal.invariant-loop-to
invariant-loop-to l = (l.at ≤ l.to) × (l.to ≤ length l.bytes) × (l.at + prefix_len is_plain (drop l.at l.bytes) ≡ l.to + prefix_len is_plain (drop l.to l.bytes))

abbrev pub decreases-loop-to : goal.decreases-loop-to
decreases-loop-to l = length l.bytes - l.to
