use Rattle.std.proofs.Common.{◌≡◌, ◌+◌, ◌-◌, ◌≤◌, false, drop, length}
use Rattle.asm_tokens.specs.Tokens.{string_length}
use Rattle.asm_tokens.proofs.scan.string_end.Given as goal

abbrev pub invariant-loop-to : goal.invariant-loop-to
invariant-loop-to l = (l.at ≤ l.to) × (l.to ≤ length l.bytes) × (l.at + string_length false (drop l.at l.bytes) ≡ l.to + string_length l.escaped (drop l.to l.bytes))

abbrev pub decreases-loop-to : goal.decreases-loop-to
decreases-loop-to l = length l.bytes - l.to
