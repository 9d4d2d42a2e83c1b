-- Slots whose bits lie in a word and whose numbers the code can compute with.
use Rattle.std.specs.Prelude.{ℕ, ◌==◌, ◌&&◌, ◌||◌, Bool, true, List, [], ◌∷◌, length, nat_lt, nat_le}
use Rattle.text_model.specs.declared.slots.Bits.{Bits}
use Rattle.text_model.specs.declared.slots.Parts.{Parts}
use Rattle.text_model.specs.declared.slots.Parts.TheVariants.{Nowhere, At, Two, Three}
use Rattle.text_model.specs.declared.slots.Shape.{Shape}
use Rattle.text_model.specs.declared.slots.Shape.TheVariants.{Only, Told, Shown}
use Rattle.text_model.specs.declared.slots.Kind.{Kind}
use Rattle.text_model.specs.declared.slots.Kind.TheVariants.{After, Scaled, Signed, Target, Bitmask, LeftShift}
use Rattle.text_model.specs.declared.slots.Style.{Style}
use Rattle.text_model.specs.declared.slots.Style.TheVariants.{Hexadecimal}
use Rattle.text_model.specs.declared.slots.Codec.{Codec}
use Rattle.text_model.specs.declared.slots.Slot.{Slot}
use Rattle.text_model.specs.Slots.{places, bits_in}

abbrev pub are_in_word : Bits → Bool
are_in_word b = nat_le b.low b.high && nat_lt b.high 32

abbrev pub are_parts : Parts → Bool
are_parts Nowhere = true
are_parts (At a) = are_in_word a
are_parts (Two a b) = are_in_word a && are_in_word b
are_parts (Three a b c) = are_in_word a && (are_in_word b && are_in_word c)

abbrev pub is_sound_shape : Shape → Bool
is_sound_shape (Only c) = true
is_sound_shape (Told b g) = are_in_word b
is_sound_shape (Shown b g) = are_in_word b

-- where the number has n bits
abbrev pub is_sound_kind : Kind → ℕ → Bool
is_sound_kind (After k) n = nat_le k 32
is_sound_kind (Scaled m k) n = nat_lt 0 m
is_sound_kind (Signed m) n = nat_lt 0 m && nat_lt 0 n
is_sound_kind (Target m g) n = (nat_lt 0 m && nat_lt 0 g) && nat_lt 0 n
is_sound_kind (Bitmask w) n = (w == 32 || w == 64) && n == 13
is_sound_kind (LeftShift w) n = w == 32 || w == 64
is_sound_kind k n = true

abbrev pub is_sound_codec : Codec → Bool
is_sound_codec c =
    are_parts c.parts && (nat_le (bits_in (places c.parts)) 32 && is_sound_kind c.kind (bits_in (places c.parts)))

-- a negative number read in hexadecimal is raised by a power of two of this many bits
abbrev pub is_sound_style : Style → Bool
is_sound_style (Hexadecimal w) = nat_lt 0 w && nat_le w 64
is_sound_style s = true

abbrev pub is_sound : Slot → Bool
is_sound s = is_sound_style s.style && (is_sound_shape s.shape && is_sound_codec s.codec)

abbrev pub are_sound : List Slot → Bool
are_sound [] = true
are_sound (s ∷ ss) = is_sound s && are_sound ss

-- no more slots than an instruction's text has at most
abbrev pub are_few : List Slot → Bool
are_few ss = nat_le (length ss) 24
