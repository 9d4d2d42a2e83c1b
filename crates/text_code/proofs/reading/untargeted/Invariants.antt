use Rattle.std.proofs.Common.{◌≡◌, ◌+◌, ◌++◌, length}
use Rattle.text_model.specs.Statement.{untargeted}
use Rattle.text_code.proofs.reading.untargeted.Given as goal

abbrev pub invariant-loop-item : goal.invariant-loop-item
invariant-loop-item l =
    (untargeted l.label l.items ≡ l.all.items ++ untargeted l.label l.left)
    × (length l.left + length l.all.items ≡ length l.items)

abbrev pub decreases-loop-item : goal.decreases-loop-item
decreases-loop-item l = length l.left
