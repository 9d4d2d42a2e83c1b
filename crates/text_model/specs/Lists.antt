-- Names and slots by their numbers.
use Rattle.std.specs.Prelude.{ℕ, ◌==◌, if◌then◌else◌, List, [], ◌∷◌, get_or, map}
use denote.Ref.{Bor}
use Rattle.text_model.specs.declared.slots.Slot.{Slot}
use Rattle.text_model.specs.declared.slot_list.TheConstants.{SLOTS, NONE}
use Rattle.text_model.specs.declared.name_list.TheConstants.{NAMES}

abbrev pub texts_of : List (Bor (List ℕ)) → List (List ℕ)
texts_of [] = []
texts_of (t ∷ ts) = t.now ∷ texts_of ts

abbrev pub name_at : ℕ → List ℕ
name_at n = get_or (map (λ t. t.now) NAMES) n []

abbrev pub slot_at : ℕ → Slot
slot_at n = get_or SLOTS n NONE

-- the slots of a pattern, up to the end
abbrev pub slots_of : List ℕ → List Slot
slots_of [] = []
slots_of (n ∷ ns) = if n == 0 then [] else slot_at n ∷ slots_of ns
