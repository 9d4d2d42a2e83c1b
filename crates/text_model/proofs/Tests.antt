-- What is computed over patterns, for the laws of a table.
use Rattle.std.proofs.Common.{ℕ, ◌+◌, ◌-◌, ◌*◌, ◌/◌, ◌%◌, ◌^◌, ◌==◌, ◌&&◌, ◌||◌, if◌then◌else◌, Bool, true, false, not, Option, Some, None, List, [], ◌∷◌, ◌++◌, length, bit_and, bit_or, nat_lt, nat_le}
use Rattle.std.specs.Str.{bytes_eq}
use Rattle.emu_bits.specs.Rows.{Place, width, ones_at, ones_in, outside, Line}
use Rattle.emu_bits.proofs.Computed.{are_apart}
use Rattle.emu_bits.proofs.AllBelow.{all_below}
use Rattle.text_model.specs.declared.classes.Class.{Class}
use Rattle.text_model.specs.declared.classes.Class.TheVariants.{Number, Comma, Count}
use Rattle.text_model.specs.declared.classes.Group.{Group}
use Rattle.text_model.specs.declared.slots.Parts.TheVariants.{Nowhere}
use Rattle.text_model.specs.declared.slots.Shape.{Shape}
use Rattle.text_model.specs.declared.slots.Shape.TheVariants.{Only, Told, Shown}
use Rattle.text_model.specs.declared.slots.Style.{Style}
use Rattle.text_model.specs.declared.slots.Style.TheVariants.{Word, Counted, Hexadecimal, Address}
use Rattle.text_model.specs.declared.slots.Need.{Need}
use Rattle.text_model.specs.declared.slots.Need.TheVariants.{Must, Begins, Inside}
use Rattle.text_model.specs.declared.slots.Slot.{Slot}
use Rattle.text_model.specs.declared.slots.Kind.{Kind}
use Rattle.text_model.specs.declared.slots.Kind.TheVariants.{Fixed, Plain, Stack, After, NamedCount, UnnamedCount, Scaled, Falling, Signed, Target, Bitmask, Spread, LeftShift, Inverted}
use Rattle.text_model.specs.Slots.{place_of, classes_of, class_at, places, bits_in}
use Rattle.text_model.specs.Told.{index_of}
use Rattle.text_model.specs.Reading.{Pattern, is_left_out, is_target, has_target}
use Rattle.text_model.specs.Text.{ones_of, slot_places, told_bits, chosen}
use Rattle.text_model.specs.ClassNumbers.{class_number}
use Rattle.text_model.specs.Classes.{same_class}
use Rattle.text_model.specs.Statement.{lowered}
use Rattle.text_model.specs.Aim.{Reach, reach_of, reach_bits}
use Rattle.asm_tokens.specs.AreTokens.{is_token}
use Rattle.text_model.proofs.Building.{are_places, masked}
use Rattle.text_model.proofs.Spelling.{size_of}

-- ---- one slot

-- each class of a group tells its place
abbrev pub tells_places : Group → Bool
tells_places g = all_below (length (classes_of g)) (λ v. index_of 0 (class_at g v) (classes_of g) == v)

abbrev pub is_good_shape : Shape → Bool
is_good_shape (Only c) = true
is_good_shape (Told b g) = tells_places g
is_good_shape (Shown b g) = true

-- a number of b bits is told by what a slot of this kind shows
abbrev pub is_good_kind : Kind → ℕ → Bool
is_good_kind (Fixed x) b = b == 0
is_good_kind Plain b = true
is_good_kind Stack b = b == 5
is_good_kind (After k) b = b == 5 && nat_lt k 32
is_good_kind NamedCount b = b == 5
is_good_kind UnnamedCount b = true
is_good_kind (Scaled n k) b = nat_lt 0 n
is_good_kind Falling b = true
is_good_kind (Signed n) b = nat_lt 0 n && nat_lt 0 b
is_good_kind (Target n g) b = true
is_good_kind (Bitmask w) b = b == 13 && (w == 64 || w == 32)
is_good_kind Spread b = b == 8
is_good_kind (LeftShift w) b = false
is_good_kind Inverted b = b == 4

-- what stands in place of a part that was left out begins with a comma
abbrev pub is_good_need : Shape → Need → Bool
is_good_need (Only c) Begins = same_class c Comma
is_good_need k Begins = false
is_good_need k n = true

-- what is written in hexadecimal isn't negative
abbrev pub is_good_style : Style → Kind → Bool
is_good_style (Hexadecimal w) (Bitmask v) = true
is_good_style (Hexadecimal w) Spread = true
is_good_style (Hexadecimal w) k = false
is_good_style s k = true

abbrev pub is_good : Slot → Bool
is_good s = (is_good_shape s.shape && is_good_kind s.codec.kind (bits_in (places s.codec.parts))) && ((is_good_need s.shape s.need && is_good_style s.style s.codec.kind) && are_places (slot_places s))

-- ---- one pattern

abbrev pub are_good : List Slot → Bool
are_good [] = true
are_good (s ∷ ss) = is_good s && are_good ss

abbrev pub all_places : List Slot → List Place
all_places [] = []
all_places (s ∷ ss) = slot_places s ++ all_places ss

-- each bit is settled by the name or told by a slot
abbrev pub is_readable : Pattern → Bool
is_readable p = are_good p.slots && ((bit_or (2 ^ 32 - 1 - told_bits p.slots) (told_bits p.slots) == 2 ^ 32 - 1) && (masked 0 (all_places p.slots) == told_bits p.slots))

-- ---- two patterns of one name

abbrev pub is_in : ℕ → List ℕ → Bool
is_in x [] = false
is_in x (y ∷ ys) = x == y || is_in x ys

abbrev pub none_shared : List ℕ → List ℕ → Bool
none_shared [] ys = true
none_shared (x ∷ xs) ys = not (is_in x ys) && none_shared xs ys

abbrev pub class_numbers : List Class → List ℕ
class_numbers [] = []
class_numbers (c ∷ cs) = class_number c ∷ class_numbers cs

-- the classes that a shape may show
abbrev pub classes_in : Shape → List ℕ
classes_in (Only c) = class_number c ∷ []
classes_in (Told b g) = class_numbers (classes_of g)
classes_in (Shown b g) = class_numbers (classes_of g)

abbrev pub are_exclusive : Shape → Shape → Bool
are_exclusive k l = none_shared (classes_in k) (classes_in l)

-- a slot's item is taken to be left out, or is taken, where an item of a shape is next
abbrev pub skips : Need → Bool → Shape → Bool
skips Must out k = false
skips Begins out k = not (is_in (class_number Comma) (classes_in k))
skips (Inside v) out k = out

abbrev pub is_comma_shape : Shape → Bool
is_comma_shape (Only c) = same_class c Comma
is_comma_shape (Told b g) = false
is_comma_shape (Shown b g) = false

abbrev pub takes : Need → Bool → Shape → Bool
takes Must out k = true
takes Begins out k = is_comma_shape k
takes (Inside v) out k = not out

-- items of the second slots are never of the first slots' classes
abbrev pub are_unlike : Bool → List Slot → List Slot → Bool
are_unlike out [] [] = false
are_unlike out [] (p ∷ ps) = true
are_unlike out (q ∷ qs) [] = if is_left_out q.need out [] then are_unlike true qs [] else true
are_unlike out (q ∷ qs) (p ∷ ps) =
    if skips q.need out p.shape then are_unlike true qs (p ∷ ps)
    else takes q.need out p.shape && (are_exclusive p.shape q.shape || are_unlike false qs ps)

-- slots with a number in place of the last item
abbrev pub number_slot : Slot
number_slot = record { style = Word; shape = Only Number; codec = record { kind = Fixed 0; parts = Nowhere }; need = Must }

abbrev pub retargeted : List Slot → List Slot
retargeted [] = []
retargeted (s ∷ []) = number_slot ∷ []
retargeted (s ∷ t ∷ ts) = s ∷ retargeted (t ∷ ts)

-- The first pattern doesn't read what the second shows.
abbrev pub is_apart : Pattern → Pattern → Bool
is_apart p q = not (bytes_eq q.name p.name) || (are_unlike false p.slots q.slots && (not (has_target p.slots) || are_unlike false p.slots (retargeted q.slots)))

abbrev pub is_apart_from : Pattern → List Pattern → Bool
is_apart_from p [] = true
is_apart_from p (q ∷ qs) = is_apart p q && is_apart_from p qs

-- ---- all patterns

abbrev pub all_apart : List Pattern → Bool
all_apart [] = true
all_apart (p ∷ ps) = is_apart_from p ps && all_apart ps

abbrev pub all_readable : List Pattern → Bool
all_readable [] = true
all_readable (p ∷ ps) = is_readable p && all_readable ps

-- ---- how slots are written

-- one more than the greatest word that a slot of this kind shows; 0 where it shows numbers
abbrev pub word_bound : Kind → ℕ → ℕ
word_bound (Fixed x) b = x + 1
word_bound Plain b = 2 ^ b
word_bound Stack b = 33
word_bound (After k) b = 32
word_bound NamedCount b = 32
word_bound Inverted b = 16
word_bound k b = 0

-- no number that a slot of this kind shows is greater; 2^64 where it shows words
abbrev pub number_bound : Kind → ℕ → ℕ
number_bound (Fixed x) b = x
number_bound UnnamedCount b = 2 ^ b
number_bound (Scaled n k) b = n * (2 ^ b + k)
number_bound Falling b = 2 ^ b
number_bound (Signed n) b = n * 2 ^ b
number_bound (Target n g) b = 0
number_bound (Bitmask w) b = 0
number_bound Spread b = 0
number_bound k b = 2 ^ 64

abbrev pub is_word : Style → Bool
is_word Word = true
is_word s = false

abbrev pub is_counted : Style → Bool
is_counted Counted = true
is_counted s = false

-- a class has words for all values below a bound
abbrev pub has_words : ℕ → List Class → Bool
has_words n [] = true
has_words n (c ∷ cs) = nat_le n (size_of c) && has_words n cs

-- the word of a count has a name
abbrev pub is_count_named : Kind → Shape → Bool
is_count_named NamedCount k = true
is_count_named c k = not (is_in (class_number Count) (classes_in k))

abbrev pub class_list : Shape → List Class
class_list (Only c) = c ∷ []
class_list (Told b g) = classes_of g
class_list (Shown b g) = classes_of g

abbrev pub is_written_word : Slot → ℕ → Bool
is_written_word s b = (nat_lt 0 (word_bound s.codec.kind b) && has_words (word_bound s.codec.kind b) (class_list s.shape)) && is_count_named s.codec.kind s.shape

-- a number that may be negative is written with its sign
abbrev pub has_sign : Kind → Style → Bool
has_sign (Signed n) s = is_counted s
has_sign k s = true

abbrev pub is_number_shape : Shape → Bool
is_number_shape (Only c) = same_class c Number
is_number_shape (Told b g) = false
is_number_shape (Shown b g) = false

abbrev pub is_written_number : Slot → ℕ → Bool
is_written_number s b = is_number_shape s.shape && (nat_lt (number_bound s.codec.kind b) (2 ^ 64) && has_sign s.codec.kind s.style)

abbrev pub is_written : Slot → Bool
is_written s = let b = bits_in (places s.codec.parts) in if is_word s.style then is_written_word s b else is_written_number s b

abbrev pub are_written : List Slot → Bool
are_written [] = true
are_written (s ∷ ss) = is_written s && are_written ss

abbrev pub all_written : List Pattern → Bool
all_written [] = true
all_written (p ∷ ps) = ((is_token p.name && bytes_eq (lowered p.name) p.name) && are_written p.slots) && all_written ps

-- ---- targets

-- a mask has all bits of some places, or none
abbrev pub has_all : ℕ → List Place → Bool
has_all m [] = true
has_all m (p ∷ ps) = (nat_le p.low p.high && bit_and m (ones_at p) == ones_at p) && has_all m ps

abbrev pub has_none : ℕ → List Place → Bool
has_none m [] = true
has_none m (p ∷ ps) = (nat_le p.low p.high && bit_and m (ones_at p) == 0) && has_none m ps

-- the places that a shape looks at
abbrev pub shape_places : Shape → List Place
shape_places (Only c) = []
shape_places (Told b g) = place_of b ∷ []
shape_places (Shown b g) = place_of b ∷ []

-- a slot looks at bits of the mask alone; a target at bits that are none of it
abbrev pub looks_within : ℕ → Slot → Bool
looks_within m s = if is_target s.codec.kind then is_number_shape s.shape && has_none m (places s.codec.parts) else has_all m (shape_places s.shape ++ places s.codec.parts)

abbrev pub look_within : ℕ → List Slot → Bool
look_within m [] = true
look_within m (s ∷ ss) = looks_within m s && look_within m ss

abbrev pub is_plain_address : Style → Bool
is_plain_address Address = true
is_plain_address s = false

-- a slot that shows an address
abbrev pub is_address_slot : Slot → Bool
is_address_slot s = is_number_shape s.shape && is_plain_address s.style

-- only the last slot is a target, and is written as an address
abbrev pub ends_in_target : List Slot → Bool
ends_in_target [] = false
ends_in_target (s ∷ []) = is_target s.codec.kind && is_address_slot s
ends_in_target (s ∷ t ∷ ts) = not (is_target s.codec.kind) && ends_in_target (t ∷ ts)

-- the target's bits are of no other slot, and not settled by the name
abbrev pub is_aimed_well : Pattern → Bool
is_aimed_well p =
    let m = 2 ^ 32 - 1 - reach_bits (reach_of p.slots) in
    (not (has_target p.slots) || ends_in_target p.slots) && ((bit_and m (2 ^ 32 - 1 - told_bits p.slots) == 2 ^ 32 - 1 - told_bits p.slots) && look_within m p.slots)

abbrev pub all_aimed_well : List Pattern → Bool
all_aimed_well [] = true
all_aimed_well (p ∷ ps) = is_aimed_well p && all_aimed_well ps

-- A target reaches to and fro: its scale divides 2^64, its numbers go round within it, and its places don't overlap.
abbrev pub is_good_scale : ℕ → ℕ → Bool
is_good_scale n b = nat_lt 0 n && ((n * (2 ^ 64 / n) == 2 ^ 64) && (nat_le (2 ^ b) (2 ^ 64 / n) && (2 ^ 64 / n % 2 ^ b == 0)))

abbrev pub are_good_places : List Place → Bool
are_good_places ps = are_places ps && ((masked 0 ps == ones_of ps) && (bit_or (2 ^ 32 - 1 - ones_of ps) (ones_of ps) == 2 ^ 32 - 1))

abbrev pub is_good_reach : Option Reach → Bool
is_good_reach None = true
is_good_reach (Some r) = is_good_scale r.by (bits_in r.parts) && are_good_places r.parts

abbrev pub all_reach_well : List Pattern → Bool
all_reach_well [] = true
all_reach_well (p ∷ ps) = is_good_reach (reach_of p.slots) && all_reach_well ps

-- ---- each word of a line has a pattern

-- whatever its bits are, a slot of this shape or kind can show them
abbrev pub has_every_class : Shape → Bool
has_every_class (Only c) = true
has_every_class (Told b g) = nat_le (2 ^ width (place_of b)) (length (classes_of g))
has_every_class (Shown b g) = nat_le (2 ^ width (place_of b)) (length (classes_of g))

abbrev pub shows_every : Kind → Bool
shows_every NamedCount = false
shows_every UnnamedCount = false
shows_every k = true

-- whether a slot can show its bits is settled by bits of a mask
abbrev pub is_settled : ℕ → Slot → Bool
is_settled m s = (has_every_class s.shape || has_all m (shape_places s.shape)) && (shows_every s.codec.kind || has_all m (places s.codec.parts))

abbrev pub all_settled : ℕ → List Slot → Bool
all_settled m [] = true
all_settled m (s ∷ ss) = is_settled m s && all_settled m ss

-- whether a pattern shows a word is settled by bits of a mask
abbrev pub is_chosen_by : ℕ → Pattern → Bool
is_chosen_by m p = (bit_and m (2 ^ 32 - 1 - told_bits p.slots) == 2 ^ 32 - 1 - told_bits p.slots) && all_settled m p.slots

abbrev pub all_chosen_by : ℕ → List Pattern → Bool
all_chosen_by m [] = true
all_chosen_by m (p ∷ ps) = is_chosen_by m p && all_chosen_by m ps

-- a test of all values at some places of a word
abbrev pub every : List Place → ℕ → (List ℕ → ℕ → Bool) → Bool
every [] x q = q [] x
every (p ∷ ps) x q = all_below (2 ^ width p) (λ v. every ps (bit_or x (v * 2 ^ p.low)) (λ vs y. q (v ∷ vs) y))

abbrev pub is_some_pattern : Option Pattern → Bool
is_some_pattern None = false
is_some_pattern (Some p) = true

abbrev pub each_row : ℕ → List ℕ → List Place → (ℕ → List ℕ → Bool) → List Pattern → Bool
each_row k [] fs ok qs = true
each_row k (x ∷ xs) fs ok qs = every fs x (λ vs y. not (ok k vs) || is_some_pattern (chosen qs y)) && each_row (k + 1) xs fs ok qs

-- Each word of a line has a pattern: these places alone choose it, and they are tried with all values; `ok` is what the line's
-- condition asks of these values.
abbrev pub is_total : {F : Type 0} → List Pattern → Line F → List Place → (ℕ → List ℕ → Bool) → Bool
is_total qs l fs ok = are_apart fs && (all_chosen_by (bit_or (outside l.places) (ones_in fs)) qs && each_row 0 l.words fs ok qs)
