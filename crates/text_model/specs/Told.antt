-- What an item tells of the bits of a word: those that a slot shows as this item, where there are such. That they are
-- so is tested by showing them again (Reading.antt). This is this project's own.
use Rattle.std.specs.Prelude.{ℕ, zero, suc, ◌+◌, ◌-◌, ◌*◌, ◌/◌, ◌%◌, ◌^◌, ℤ, unsigned_abs, ◌==◌, Bool, if◌then◌else◌, List, [], ◌∷◌, ◌++◌, bit_and, bit_or}
use Rattle.std.specs.Int.{is_negative}
use Rattle.emu_bits.specs.Rows.{Place, width, ones_at}
use Rattle.text_model.specs.declared.classes.Class.{Class}
use Rattle.text_model.specs.declared.slots.Shape.{Shape}
use Rattle.text_model.specs.declared.slots.Shape.TheVariants.{Only, Told, Shown}
use Rattle.text_model.specs.declared.slots.Kind.{Kind}
use Rattle.text_model.specs.declared.slots.Kind.TheVariants.{Fixed, Plain, Stack, After, NamedCount, UnnamedCount, Scaled, Falling, Signed, Target, Bitmask, Spread, LeftShift, Inverted}
use Rattle.text_model.specs.declared.slots.Codec.{Codec}
use Rattle.text_model.specs.declared.slots.Slot.{Slot}
use Rattle.text_model.specs.declared.slots.Item.{Item}
use Rattle.text_model.specs.Masks.{bitmask_fields}
use Rattle.text_model.specs.Slots.{place_of, places, bits_in, classes_of, inverse}
use Rattle.text_model.specs.Classes.{same_class}

-- what a place of a word has
pub record Binding : Type 0 where
  pub place : Place
  pub value : ℕ

-- the place of a class among some, 0 where it isn't among them
abbrev pub index_of : ℕ → Class → List Class → ℕ
index_of k c [] = 0
index_of k c (d ∷ ds) = if same_class c d then k else index_of (k + 1) c ds

abbrev pub class_tells : Shape → Class → List Binding
class_tells (Only c) x = []
class_tells (Told b g) x = record { place = place_of b; value = index_of 0 x (classes_of g) } ∷ []
class_tells (Shown b g) x = []

-- the number of k bits whose bit j is the lowest one of byte j of m
abbrev pub gathered : ℕ → ℕ → ℕ
gathered zero m = 0
gathered (suc k) m = m % 2 + 2 * gathered k (m / 256)

-- The number of b bits that is shown as an integer, which is negative or isn't, and is m without its sign.
abbrev pub told_of : Kind → ℕ → Bool → ℕ → ℕ
told_of (Fixed x) b negative m = 0
told_of Plain b negative m = m
told_of Stack b negative m = if m == 32 then 31 else m
told_of (After k) b negative m = (m + (32 - k)) % 32
told_of NamedCount b negative m = m
told_of UnnamedCount b negative m = m
told_of (Scaled n k) b negative m = m / n - k
told_of Falling b negative m = 2 ^ b - m
told_of (Signed n) b negative m = if negative then 2 ^ b - m / n else m / n
told_of (Target n g) b negative m = 0
told_of (Bitmask w) b negative m = bitmask_fields w m
told_of Spread b negative m = gathered 8 m
told_of (LeftShift w) b negative m = (w - m) % w * 64 + (w - 1 - m)
told_of Inverted b negative m = inverse m

abbrev pub told_number : Kind → ℕ → ℤ → ℕ
told_number k b z = told_of k b (is_negative z) (unsigned_abs z)

-- what each of some places has of a number, the first place its highest bits; of each value the low bits count, as many
-- as the place has
abbrev pub parted : List Place → ℕ → List Binding
parted [] v = []
parted (p ∷ ps) v = record { place = p; value = v / 2 ^ bits_in ps } ∷ parted ps v

abbrev pub codec_tells : Codec → ℤ → List Binding
codec_tells c z = parted (places c.parts) (told_number c.kind (bits_in (places c.parts)) z)

abbrev pub slot_tells : Slot → Item → List Binding
slot_tells s i = class_tells s.shape i.class ++ codec_tells s.codec i.value

-- ---- the word that bindings make

-- a word, and the bits of it that have been told
pub record Built : Type 0 where
  pub mask : ℕ
  pub word : ℕ

-- What a place has is bound in, unless it has been told before.
abbrev pub bound : Built → Binding → Built
bound a b = if bit_and a.mask (ones_at b.place) == 0
    then record {
      mask = bit_or a.mask (ones_at b.place);
      word = bit_or a.word (b.value % 2 ^ width b.place * 2 ^ b.place.low);
    }
    else a

abbrev pub all_bound : Built → List Binding → Built
all_bound a [] = a
all_bound a (b ∷ bs) = all_bound (bound a b) bs

-- the same of all items
abbrev pub built : Built → List Slot → List Item → Built
built a [] is = a
built a (s ∷ ss) [] = a
built a (s ∷ ss) (i ∷ is) = built (all_bound a (slot_tells s i)) ss is
