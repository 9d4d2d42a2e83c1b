-- Where the lists of the dictionary have the words of a class.
use Rattle.std.specs.Prelude.{ℕ, ◌+◌, ◌==◌, ◌&&◌, if◌then◌else◌, Bool, true, Option, Some, None, option_map, List, [], ◌∷◌, ◌++◌, length, get_or, nat_lt, nat_le}
use denote.Ref.{Bor}
use Rattle.text_code.specs.declared.dictionary.Family as code
use Rattle.text_code.specs.declared.dictionary.Word as code_word
use Rattle.text_model.specs.declared.classes.Class.{Class}
use Rattle.text_model.specs.ClassNumbers.{class_number}
use Rattle.text_model.specs.Classes.{same_class}
use Rattle.text_model.specs.Words.{Family, Word, dictionary, two_digits, spelled_word}
use Rattle.text_print.specs.declared.by_class.TheConstants.{NONE, FAMILIES, ROWS, PLACES}
use Rattle.text_print.specs.Room.{is_short_family}

-- ---- places

abbrev pub family_place : Class → ℕ
family_place c = get_or FAMILIES (class_number c) NONE

abbrev pub word_place : Class → ℕ → ℕ
word_place c v = get_or PLACES (get_or ROWS (class_number c) NONE + v) NONE

-- ---- registers

abbrev pub as_family : code.Family → Family
as_family f = record { letter = f.letter; suffix = f.suffix.now; class = f.class; count = f.count }

-- a family that the program found
abbrev pub family_at : Option (Bor code.Family) → Option Family
family_at r = option_map as_family (option_map (λ f. f.now) r)

-- the word of a class and a value, where the class has the registers of this family
abbrev pub spelled_by : Option Family → Class → ℕ → List ℕ
spelled_by None c v = spelled_word dictionary c v
spelled_by (Some f) c v =
    if nat_lt v f.count then f.letter ∷ (two_digits v ++ f.suffix) else spelled_word dictionary c v

abbrev pub is_short_register : Option Family → Bool
is_short_register None = true
is_short_register (Some f) = is_short_family f

-- ---- other words

abbrev pub as_word : code_word.Word → Word
as_word w = record { text = w.text.now; class = w.class; value = w.value }

-- a word that the program found
abbrev pub word_at : Option (Bor code_word.Word) → Option Word
word_at r = option_map as_word (option_map (λ w. w.now) r)

abbrev pub is_word_of : Word → Class → ℕ → Bool
is_word_of w c v = same_class c w.class && v == w.value

-- the word of a class and a value, where it is this one or there is none
abbrev pub spelled_at : Option Word → Class → ℕ → List ℕ
spelled_at None c v = []
spelled_at (Some w) c v = if is_word_of w c v then w.text else []

abbrev pub is_short_word : Option Word → Bool
is_short_word None = true
is_short_word (Some w) = nat_le (length w.text) 20
