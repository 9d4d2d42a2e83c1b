use Rattle.std.proofs.Common.{◌≡◌, ◌-◌, ◌++◌, drop, length}
use Rattle.std.specs.Str.{IsCharBoundary}
use Rattle.asm_tokens.specs.Tokens.{tokens}
use Rattle.text_model.specs.Statement.{items_of, items_from}
use Rattle.text_code.proofs.operands.items.Given as goal

abbrev pub invariant-loop-item : goal.invariant-loop-item
invariant-loop-item l =
    (items_of (tokens l.rest) ≡ l.items.items ++ items_from 0 (tokens (drop l.at l.rest)))
    × IsCharBoundary l.rest l.at

abbrev pub decreases-loop-item : goal.decreases-loop-item
decreases-loop-item l = length l.rest - l.at
