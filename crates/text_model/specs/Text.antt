-- The text of an instruction: its pattern's name and the tokens of its slots, laid out. Which of the ways of writing
-- that the Arm manual allows is printed is this project's own.
use Rattle.std.specs.Prelude.{ℕ, ◌-◌, ◌^◌, ℤ, pos, unsigned_abs, ◌==◌, ◌&&◌, Bool, false, if◌then◌else◌, Option, Some, None, List, [], ◌∷◌, ◌++◌, bit_and, bit_or, flat_map}
use Rattle.std.specs.Option.{option_map_or}
use Rattle.std.specs.Fmt.{decimal, digits}
use Rattle.std.specs.Int.{is_negative}
use Rattle.emu_bits.specs.Rows.{Place, ones_at}
use Rattle.asm_tokens.specs.Layout.{laid, hash}
use Rattle.asm_tokens.specs.Numbers.{minus}
use Rattle.text_model.specs.declared.slots.Shape.{Shape}
use Rattle.text_model.specs.declared.slots.Shape.TheVariants.{Only, Told, Shown}
use Rattle.text_model.specs.declared.slots.Kind.{Kind}
use Rattle.text_model.specs.declared.slots.Kind.TheVariants.{Target}
use Rattle.text_model.specs.declared.slots.Style.{Style}
use Rattle.text_model.specs.declared.slots.Style.TheVariants as style
use Rattle.text_model.specs.declared.slots.Slot.{Slot}
use Rattle.text_model.specs.declared.slots.Item.{Item}
use Rattle.text_model.specs.Slots.{place_of, places, bits_in, joined, class_in, shown_number, target_address, all_fit}
use Rattle.text_model.specs.Reading.{Pattern}
use Rattle.text_model.specs.Words.{spelled}

-- ---- tokens

-- `0x` and hexadecimal
abbrev pub hexadecimal : ℕ → List ℕ
hexadecimal n = 48 ∷ 120 ∷ digits 16 false n

-- the tokens of an item: of a number its digits, with the signs that its style gives it
abbrev pub item_tokens : Style → Item → List (List ℕ)
item_tokens style.Word i = spelled i.class (unsigned_abs i.value) ∷ []
item_tokens style.Counted i =
    let n = decimal (unsigned_abs i.value) in
    (hash ∷ []) ∷ (if is_negative i.value then (minus ∷ []) ∷ n ∷ [] else n ∷ [])
item_tokens style.Bare i = decimal (unsigned_abs i.value) ∷ []
item_tokens (style.Hexadecimal w) i = (hash ∷ []) ∷ hexadecimal (unsigned_abs i.value) ∷ []
item_tokens style.Address i = hexadecimal (unsigned_abs i.value) ∷ []

-- the value that is printed: of a target its address, where the instruction stands at pc
abbrev pub printed : Kind → ℕ → ℕ → ℕ → ℤ
printed (Target n g) b v pc = pos (target_address n g b v pc)
printed k b v pc = shown_number k b v

abbrev pub printed_item : Slot → ℕ → ℕ → Item
printed_item s w pc =
    let ps = places s.codec.parts in
    record { class = class_in s.shape w; value = printed s.codec.kind (bits_in ps) (joined ps w) pc }

abbrev pub slot_tokens : List Slot → ℕ → ℕ → List (List ℕ)
slot_tokens ss w pc = flat_map (λ s. item_tokens s.style (printed_item s w pc)) ss

-- the text that a pattern gives of a word
abbrev pub text : Pattern → ℕ → ℕ → List ℕ
text p w pc = p.name ++ laid p.name (slot_tokens p.slots w pc)

-- ---- the pattern

abbrev pub class_places : Shape → List Place
class_places (Only c) = []
class_places (Told b g) = place_of b ∷ []
class_places (Shown b g) = []

-- the places that a slot tells
abbrev pub slot_places : Slot → List Place
slot_places s = class_places s.shape ++ places s.codec.parts

abbrev pub ones_of : List Place → ℕ
ones_of [] = 0
ones_of (p ∷ ps) = bit_or (ones_at p) (ones_of ps)

-- the bits that some slots tell
abbrev pub told_bits : List Slot → ℕ
told_bits [] = 0
told_bits (s ∷ ss) = bit_or (ones_of (slot_places s)) (told_bits ss)

-- A pattern shows a word: the other bits are those that its name settles, and each slot can show its own.
abbrev pub shows : Pattern → ℕ → Bool
shows p w = bit_and w (2 ^ 32 - 1 - told_bits p.slots) == p.base && all_fit p.slots w

-- the first of some patterns that shows a word
abbrev pub chosen : List Pattern → ℕ → Option Pattern
chosen [] w = None
chosen (p ∷ ps) w = if shows p w then Some p else chosen ps w

-- The text of a word of a line with these patterns, where it stands at pc.
abbrev pub text_of : List Pattern → ℕ → ℕ → List ℕ
text_of ps w pc = option_map_or (λ p. text p w pc) (chosen ps w) []
