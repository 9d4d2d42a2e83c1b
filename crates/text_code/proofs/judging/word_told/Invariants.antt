use Rattle.std.proofs.Common.{◌≡◌, length, true}
use Rattle.text_model.specs.Told.{built}
use Rattle.text_code.specs.Sound.{are_sound}
use Rattle.text_code.specs.Tables.{built_of}
use Rattle.text_code.proofs.judging.word_told.Given as goal

abbrev pub invariant-loop-slot : goal.invariant-loop-slot
invariant-loop-slot l =
    (built (record { mask = 0; word = l.base }) l.slots l.items ≡ built (built_of l.built) l.left l.next)
    × (are_sound l.left ≡ true)

abbrev pub decreases-loop-slot : goal.decreases-loop-slot
decreases-loop-slot l = length l.left
