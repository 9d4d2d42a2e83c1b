-- Numbers in the notations of a person's session.
use Rattle.std.specs.Prelude.{ℕ, zero, suc, ◌+◌, ◌-◌, ◌/◌, ◌%◌, ◌^◌, false, List, [], ◌∷◌, ◌++◌, codes, nat_lt, nat_le}
use Rattle.std.specs.Prelude.{◌&&◌, if◌then◌else◌}
use Rattle.std.specs.Fmt.{decimal, digits}
use Rattle.debug_places.specs.declared.formats.Notation.{Notation}
use Rattle.debug_places.specs.declared.formats.Notation.TheVariants.{Hexadecimal, Signed, Unsigned, Binary, Character}
use Rattle.debug_places.specs.declared.formats.Notation.TheVariants.{Text, Instruction}

abbrev pub hex_text : ℕ → List ℕ
hex_text n = codes "0x" ++ digits 16 false n

-- bit n of a number
abbrev pub bit_digit : ℕ → ℕ → List ℕ
bit_digit v n = (48 + v / 2 ^ n % 2) ∷ []

-- n bits, the highest first
unfoldable pub bits_text : ℕ → ℕ → List ℕ
bits_text zero v = []
bits_text (suc n) v = bit_digit v n ++ bits_text n v

-- a number of so many bits as one with a sign
abbrev pub signed_text : ℕ → ℕ → List ℕ
signed_text bits v = if nat_lt v (2 ^ (bits - 1)) then decimal v else codes "-" ++ decimal (2 ^ bits - v)

-- a character that can be shown, and a dot for any other
abbrev pub character : ℕ → ℕ
character v = if nat_le 32 v && nat_lt v 127 then v else 46

-- `'a' 97`: that of the lowest byte, and the number
abbrev pub character_text : ℕ → List ℕ
character_text v = codes "'" ++ character (v % 256) ∷ codes "' " ++ decimal v

abbrev pub number_text : Notation → ℕ → ℕ → List ℕ
number_text Hexadecimal bits v = hex_text v
number_text Signed bits v = signed_text bits v
number_text Unsigned bits v = decimal v
number_text Binary bits v = bits_text bits v
number_text Character bits v = character_text v
number_text Text bits v = hex_text v
number_text Instruction bits v = hex_text v
