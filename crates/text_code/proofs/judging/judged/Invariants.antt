use Rattle.std.proofs.Common.{◌≡◌, ◌&&◌, length, true}
use Rattle.text_model.specs.Slots.{items_in}
use Rattle.text_model.specs.Reading.{same_classes}
use Rattle.text_code.specs.Judging.{verdict, are_shown}
use Rattle.text_code.specs.Sound.{are_sound}
use Rattle.text_code.proofs.judging.judged.Given as goal

abbrev pub invariant-loop-slot : goal.invariant-loop-slot
invariant-loop-slot l =
    (verdict {A = Unit {0}} (same_classes (items_in l.slots l.word) l.items) (are_shown l.slots l.items l.word) tt
    ≡ verdict {A = Unit {0}} (same_classes (items_in l.left l.word) l.next) (l.fine && are_shown l.left l.next l.word) tt)
    × (are_sound l.left ≡ true)

abbrev pub decreases-loop-slot : goal.decreases-loop-slot
decreases-loop-slot l = length l.left
