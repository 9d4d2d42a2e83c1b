use Rattle.std.proofs.Common.{◌≡◌, ◌+◌, ◌++◌, length, true, false}
use Rattle.text_model.specs.Reading.{filled}
use Rattle.text_code.specs.Sound.{are_sound}
use Rattle.text_code.proofs.filling.filled.Given as goal

abbrev pub invariant-loop-slot : goal.invariant-loop-slot
invariant-loop-slot l =
    (filled false l.slots l.items ≡ l.all.items ++ filled l.out l.left l.next)
    × (length l.left + length l.all.items ≡ length l.slots)
    × (are_sound l.left ≡ true)

abbrev pub decreases-loop-slot : goal.decreases-loop-slot
decreases-loop-slot l = length l.left
