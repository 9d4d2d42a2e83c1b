use Rattle.std.proofs.Common.{◌≡◌, ◌-◌, ◌∷◌, ◌<◌, drop, length, slice_range}
use Rattle.std.specs.Str.{IsCharBoundary}
use Rattle.asm_tokens.specs.Tokens.{tokens}
use Rattle.text_model.specs.Statement.{last_of}
use Rattle.text_code.proofs.operands.last_label.Given as goal

abbrev pub invariant-loop-token : goal.invariant-loop-token
invariant-loop-token l =
    (last_of (tokens l.rest) ≡ last_of (slice_range l.rest l.last.from l.last.to ∷ tokens (drop l.last.to l.rest)))
    × IsCharBoundary l.rest l.last.from × IsCharBoundary l.rest l.last.to × (l.last.from < l.last.to)

abbrev pub decreases-loop-token : goal.decreases-loop-token
decreases-loop-token l = length l.rest - l.last.to
