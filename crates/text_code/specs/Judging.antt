-- What a pattern makes of items before the table is asked of the word. This is this project's own.
use Rattle.std.specs.Prelude.{ℕ, ℤ, ◌&&◌, Bool, true, false, if◌then◌else◌, Result, Ok, Err, List, [], ◌∷◌}
use Rattle.std.specs.Ordering.{int_eq}
use Rattle.text_model.specs.declared.slots.Slot.{Slot}
use Rattle.text_model.specs.declared.slots.Item.{Item}
use Rattle.text_model.specs.declared.slots.Refusal.{Refusal}
use Rattle.text_model.specs.declared.slots.Refusal.TheVariants.{BadOperands, OutOfRange}
use Rattle.text_model.specs.Slots.{places, joined, value_in, items_in, fits}
use Rattle.text_model.specs.Reading.{Pattern, filled, same_classes, is_canonical, word_told}

-- a verdict, and what stands behind a good one
abbrev pub verdict : {A : Type 0} → Bool → Bool → A → Result A Refusal
verdict shaped fine x = if shaped then (if fine then Ok x else Err OutOfRange) else Err BadOperands

-- a value is what a slot shows of a word, as it may be shown
abbrev pub is_shown : Slot → ℕ → ℤ → Bool
is_shown s w x =
    int_eq (value_in s.codec w) x && (fits s w && is_canonical s.codec.kind (joined (places s.codec.parts) w))

abbrev pub are_shown : List Slot → List Item → ℕ → Bool
are_shown [] is w = true
are_shown (s ∷ ss) [] w = false
are_shown (s ∷ ss) (i ∷ is) w = is_shown s w i.value && are_shown ss is w

abbrev pub answer_to : Pattern → List Item → Result ℕ Refusal
answer_to p is =
    let js = filled false p.slots is in
    let w = word_told p js in
    verdict (same_classes (items_in p.slots w) js) (are_shown p.slots js w) w
