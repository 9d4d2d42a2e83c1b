-- What a slot shows of a word: an item, which is a class and an integer. The kinds are those of the tables 'Assembler
-- Symbols' of the entries of the Arm Architecture Reference Manual for A-profile (DDI 0487), C6 to C8, each said by the
-- bits of its fields; that a text is a row of slots is this project's own.
use Rattle.std.specs.Prelude.{ℕ, zero, suc, ◌+◌, ◌-◌, ◌*◌, ◌/◌, ◌%◌, ◌^◌, ℤ, pos, neg_ℤ, ◌==◌, ◌&&◌, ◌||◌, Bool, true, if◌then◌else◌, List, [], ◌∷◌, length, map, get_or, nat_lt, nat_le, unwrap_or}
use Rattle.std.specs.List.{list_all}
use Rattle.emu_bits.specs.Fields.{field}
use Rattle.emu_bits.specs.Rows.{Place, ◌to◌, width}
use Rattle.text_model.specs.declared.classes.Class.{Class}
use Rattle.text_model.specs.declared.classes.Class.TheVariants.{Unknown, W, X, B, H, S, D, Q, V8b, V16b, V4h, V8h, V2s, V4s, Zb, Zh, Zs, Zd, Pb, Ph, Ps, Pd, ExtendByte, ExtendHalfword, ExtendWord, ExtendDoubleword, Merging, Zeroing}
use Rattle.text_model.specs.declared.classes.Group.{Group}
use Rattle.text_model.specs.declared.classes.Group.TheVariants.{General, GeneralReversed, GeneralOfLane, Scalar, WideScalar, Lanes, HalfLanes, QuarterLanes, Flags, WordVector, HalfwordVector, ByteVector, Extend, NarrowExtend, Predication}
use Rattle.text_model.specs.declared.slots.Bits.{Bits}
use Rattle.text_model.specs.declared.slots.Parts.{Parts}
use Rattle.text_model.specs.declared.slots.Parts.TheVariants.{Nowhere, At, Two, Three}
use Rattle.text_model.specs.declared.slots.Shape.{Shape}
use Rattle.text_model.specs.declared.slots.Shape.TheVariants.{Only, Told, Shown}
use Rattle.text_model.specs.declared.slots.Kind.{Kind}
use Rattle.text_model.specs.declared.slots.Kind.TheVariants.{Fixed, Plain, Stack, After, NamedCount, UnnamedCount, Scaled, Falling, Signed, Target, Bitmask, Spread, LeftShift, Inverted}
use Rattle.text_model.specs.declared.slots.Codec.{Codec}
use Rattle.text_model.specs.declared.slots.Slot.{Slot}
use Rattle.text_model.specs.declared.slots.Item.{Item}
use Rattle.text_model.specs.Masks.{bitmask_at}

-- ---- bits of a word

abbrev pub place_of : Bits → Place
place_of b = b.high to b.low

abbrev pub places : Parts → List Place
places Nowhere = []
places (At a) = place_of a ∷ []
places (Two a b) = place_of a ∷ place_of b ∷ []
places (Three a b c) = place_of a ∷ place_of b ∷ place_of c ∷ []

-- how many bits some places have
abbrev pub bits_in : List Place → ℕ
bits_in [] = 0
bits_in (p ∷ ps) = width p + bits_in ps

abbrev pub at_place : Place → ℕ → ℕ
at_place p w = field w p.low (width p)

-- the number that a word has at places, those of the first its highest bits
abbrev pub joined : List Place → ℕ → ℕ
joined [] w = 0
joined (p ∷ ps) w = at_place p w * 2 ^ bits_in ps + joined ps w

-- ---- the class

abbrev pub classes_of : Group → List Class
classes_of General = W ∷ X ∷ []
classes_of GeneralReversed = X ∷ W ∷ []
classes_of GeneralOfLane = W ∷ W ∷ W ∷ X ∷ []
classes_of Scalar = B ∷ H ∷ S ∷ D ∷ []
classes_of WideScalar = S ∷ D ∷ Q ∷ []
classes_of Lanes = Zb ∷ Zh ∷ Zs ∷ Zd ∷ []
classes_of HalfLanes = Zb ∷ Zb ∷ Zh ∷ Zs ∷ []
classes_of QuarterLanes = Zb ∷ Zb ∷ Zb ∷ Zh ∷ []
classes_of Flags = Pb ∷ Ph ∷ Ps ∷ Pd ∷ []
classes_of WordVector = V2s ∷ V4s ∷ []
classes_of HalfwordVector = V4h ∷ V8h ∷ []
classes_of ByteVector = V8b ∷ V16b ∷ []
classes_of Extend = ExtendByte ∷ ExtendHalfword ∷ ExtendWord ∷ ExtendDoubleword ∷ []
classes_of NarrowExtend = ExtendByte ∷ ExtendHalfword ∷ ExtendWord ∷ []
classes_of Predication = Zeroing ∷ Merging ∷ []

-- The class that a number picks of a group; where it picks none, the first.
abbrev pub class_at : Group → ℕ → Class
class_at g v = get_or (classes_of g) v (get_or (classes_of g) 0 Unknown)

abbrev pub class_in : Shape → ℕ → Class
class_in (Only c) w = c
class_in (Told b g) w = class_at g (at_place (place_of b) w)
class_in (Shown b g) w = class_at g (at_place (place_of b) w)

-- ---- the value

-- the highest bit of a number of b bits is 0; where it is 1, a signed number is negative
abbrev pub is_low : ℕ → ℕ → Bool
is_low b v = nat_lt v (2 ^ (b - 1))

-- bytes of 255 where the bits of a number are 1, the lowest k of them
abbrev pub spread : ℕ → ℕ → ℕ
spread zero v = 0
spread (suc k) v = v % 2 * 255 + 256 * spread k (v / 2)

-- the condition that holds where one doesn't
abbrev pub inverse : ℕ → ℕ
inverse c = if c % 2 == 0 then c + 1 else c - 1

-- What a slot shows of the number v of b bits: a number, or which one of its class a register or another word is. Of a
-- target it shows 0: the address depends on the instruction's.
abbrev pub shown_number : Kind → ℕ → ℕ → ℤ
shown_number (Fixed x) b v = pos x
shown_number Plain b v = pos v
shown_number Stack b v = pos (if v == 31 then 32 else v)
shown_number (After k) b v = pos ((v + k) % 32)
shown_number NamedCount b v = pos v
shown_number UnnamedCount b v = pos v
shown_number (Scaled n k) b v = pos (n * (v + k))
shown_number Falling b v = pos (2 ^ b - v)
shown_number (Signed n) b v = if is_low b v then pos (n * v) else neg_ℤ (pos (n * (2 ^ b - v)))
shown_number (Target n g) b v = pos 0
shown_number (Bitmask w) b v = pos (unwrap_or (bitmask_at w v) 0)
shown_number Spread b v = pos (spread 8 v)
shown_number (LeftShift w) b v = pos (w - 1 - v % 64)
shown_number Inverted b v = pos (inverse v)

-- the address that a target of v, a number of b bits, is, where the instruction stands at pc: v is signed and counts n
-- bytes, from pc rounded down to a multiple of g on
abbrev pub target_address : ℕ → ℕ → ℕ → ℕ → ℕ → ℕ
target_address n g b v pc = (pc - pc % g + (if is_low b v then n * v else 2 ^ 64 - n * (2 ^ b - v))) % 2 ^ 64

abbrev pub value_in : Codec → ℕ → ℤ
value_in c w = shown_number c.kind (bits_in (places c.parts)) (joined (places c.parts) w)

-- ---- the item

abbrev pub item_in : Slot → ℕ → Item
item_in s w = record { class = class_in s.shape w; value = value_in s.codec w }

abbrev pub items_in : List Slot → ℕ → List Item
items_in ss w = map (λ s. item_in s w) ss

-- ---- what a slot can't show

abbrev pub is_picked : Group → ℕ → Bool
is_picked g v = nat_lt v (length (classes_of g))

-- the bits pick a class
abbrev pub has_class : Shape → ℕ → Bool
has_class (Only c) w = true
has_class (Told b g) w = is_picked g (at_place (place_of b) w)
has_class (Shown b g) w = is_picked g (at_place (place_of b) w)

-- a count that has a name
abbrev pub is_named : ℕ → Bool
is_named v = nat_lt v 14 || nat_le 29 v

-- the number can be shown so
abbrev pub can_show : Kind → ℕ → Bool
can_show NamedCount v = is_named v
can_show UnnamedCount v = nat_lt 13 v && nat_lt v 29
can_show k v = true

-- a slot can show what a word has at its bits
abbrev pub fits : Slot → ℕ → Bool
fits s w = has_class s.shape w && can_show s.codec.kind (joined (places s.codec.parts) w)

abbrev pub all_fit : List Slot → ℕ → Bool
all_fit ss w = list_all (λ s. fits s w) ss
