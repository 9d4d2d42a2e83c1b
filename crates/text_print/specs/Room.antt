-- The most bytes that a pattern's text takes. This is this project's own.
use Rattle.std.specs.Prelude.{ℕ, ◌+◌, ◌-◌, ◌*◌, ◌^◌, ◌&&◌, ◌||◌, Bool, true, false, if◌then◌else◌, List, [], ◌∷◌, length, max, nat_lt, nat_le}
use Rattle.text_model.specs.declared.classes.Class.{Class}
use Rattle.text_model.specs.declared.slots.Shape.{Shape}
use Rattle.text_model.specs.declared.slots.Shape.TheVariants.{Only, Told, Shown}
use Rattle.text_model.specs.declared.slots.Kind.{Kind}
use Rattle.text_model.specs.declared.slots.Kind.TheVariants.{Fixed, UnnamedCount, Scaled, Falling, Signed, Target, Bitmask, Spread}
use Rattle.text_model.specs.declared.slots.Style.{Style}
use Rattle.text_model.specs.declared.slots.Style.TheVariants as style
use Rattle.text_model.specs.declared.slots.Slot.{Slot}
use Rattle.text_model.specs.Classes.{same_class}
use Rattle.text_model.specs.Reading.{Pattern}
use Rattle.text_model.specs.Slots.{places, bits_in, classes_of}
use Rattle.text_model.specs.Words.{Family, Word, families, dictionary}

-- ---- words

-- the longest of a class's words
abbrev pub longest_word : List Word → Class → ℕ
longest_word [] c = 0
longest_word (w ∷ ws) c = if same_class c w.class then max (length w.text) (longest_word ws c) else longest_word ws c

-- the same with registers, whose numbers have two digits at most
abbrev pub longest_in : List Family → Class → ℕ
longest_in [] c = longest_word dictionary c
longest_in (f ∷ fs) c = if same_class c f.class then max (3 + length f.suffix) (longest_in fs c) else longest_in fs c

unfoldable pub longest : Class → ℕ
longest c = longest_in families c

abbrev pub longest_of : List Class → ℕ
longest_of [] = 0
longest_of (c ∷ cs) = max (longest c) (longest_of cs)

abbrev pub longest_shown : Shape → ℕ
longest_shown (Only c) = longest c
longest_shown (Told b g) = longest_of (classes_of g)
longest_shown (Shown b g) = longest_of (classes_of g)

-- ---- numbers

-- no number that a slot shows of b bits is greater
abbrev pub greatest : Kind → ℕ → ℕ
greatest (Fixed x) b = x
greatest UnnamedCount b = 2 ^ b
greatest (Scaled n k) b = n * (2 ^ b + k)
greatest Falling b = 2 ^ b
greatest (Signed n) b = n * 2 ^ b
greatest (Target n g) b = 2 ^ 64 - 1
greatest (Bitmask w) b = 2 ^ 64 - 1
greatest Spread b = 2 ^ 64 - 1
greatest k b = 2 ^ 64

abbrev pub is_word : Style → Bool
is_word style.Word = true
is_word s = false

-- a number that a slot shows has 64 bits at most
abbrev pub is_small : Slot → Bool
is_small s = is_word s.style || nat_lt (greatest s.codec.kind (bits_in (places s.codec.parts))) (2 ^ 64)

-- ---- tokens

-- the most bytes of tokens, each with a space before it
abbrev pub room_of : List (List ℕ) → ℕ
room_of [] = 0
room_of (t ∷ ts) = 1 + length t + room_of ts

-- The most that those of a slot take: a number has up to 20 digits in decimal, up to 16 in hexadecimal behind `0x`; `#`
-- and `-` have one character each.
abbrev pub styled_room : Style → Shape → ℕ
styled_room style.Word k = 1 + longest_shown k
styled_room style.Counted k = 2 + 2 + 21
styled_room style.Bare k = 21
styled_room (style.Hexadecimal w) k = 2 + 19
styled_room style.Address k = 19

abbrev pub slots_room : List Slot → ℕ
slots_room [] = 0
slots_room (s ∷ ss) = styled_room s.style s.shape + slots_room ss

abbrev pub are_small : List Slot → Bool
are_small [] = true
are_small (s ∷ ss) = is_small s && are_small ss

-- A pattern's text has at most 96 bytes.
abbrev pub has_room : Pattern → Bool
has_room p = are_small p.slots && nat_le (length p.name + slots_room p.slots) 96

abbrev pub all_have_room : List Pattern → Bool
all_have_room [] = true
all_have_room (p ∷ ps) = has_room p && all_have_room ps

abbrev pub all_lines_have_room : List (List Pattern) → Bool
all_lines_have_room [] = true
all_lines_have_room (ps ∷ pss) = all_have_room ps && all_lines_have_room pss

-- ---- what the code spells

-- registers whose letters are ASCII and whose words are short
abbrev pub is_short_family : Family → Bool
is_short_family f = nat_lt f.letter 128 && (nat_le f.count 100 && nat_le (length f.suffix) 17)

abbrev pub are_short_words : List Word → Bool
are_short_words [] = true
are_short_words (w ∷ ws) = nat_le (length w.text) 20 && are_short_words ws
