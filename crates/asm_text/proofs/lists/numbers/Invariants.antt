use Rattle.std.proofs.Common.{◌-◌, drop, length}
use Rattle.std.specs.Str.{IsCharBoundary}
use Rattle.asm_text.proofs.Reading.{SoFar}
use Rattle.asm_tokens.specs.Tokens.{tokens}
use Rattle.asm_text.proofs.lists.numbers.Given as goal

abbrev pub invariant-loop-next : goal.invariant-loop-next
invariant-loop-next l =
    IsCharBoundary l.text l.at × SoFar l.labels l.size (tokens (drop l.fn.at l.text)) (tokens (drop l.at l.text)) l.numbers

abbrev pub decreases-loop-next : goal.decreases-loop-next
decreases-loop-next l = length l.text - l.at
