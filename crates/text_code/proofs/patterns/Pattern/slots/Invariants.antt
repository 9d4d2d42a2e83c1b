use Rattle.std.proofs.Common.{◌≡◌, ◌++◌, drop, length}
use Rattle.text_model.specs.Lists.{slots_of}
use Rattle.text_code.proofs.patterns.Pattern.slots.Given as goal

-- those so far and those of the numbers that are left are all
abbrev pub invariant-loop-number : goal.invariant-loop-number
invariant-loop-number l =
    (slots_of l.self.slots ≡ l.all.items ++ slots_of (drop l.number-index l.self.slots))
    × (length l.all.items ≡ l.number-index)
