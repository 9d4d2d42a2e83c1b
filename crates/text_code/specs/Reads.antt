-- A table of patterns as the code reads by it: those of a name, and what they make of a statement. This is this
-- project's own.
use Rattle.std.specs.Prelude.{ℕ, ◌%◌, ◌^◌, unsigned_abs, ◌≤◌, ◌&&◌, Bool, true, if◌then◌else◌, Option, Some, None, Result, Ok, Err, List, [], ◌∷◌, get_or, length, nat_lt, slice_range}
use Rattle.std.specs.Str.{IsCharBoundary}
use Rattle.std.specs.Str.{bytes_eq}
use Rattle.text_model.specs.declared.slots.Item.{Item}
use Rattle.text_model.specs.declared.slots.Refusal.{Refusal}
use Rattle.text_model.specs.declared.slots.Refusal.TheVariants.{UnknownName, OutOfRange}
use Rattle.text_model.specs.Reading.{Pattern, Read, Operands, word_told, judged, items_to_read, best}
use Rattle.text_model.specs.Statement.{Destination, to_label, to_address, Statement}
use Rattle.asm_tokens.specs.declared.token.Token.{Token}
use Rattle.text_code.specs.declared.patterns.Spot.{Spot}
use Rattle.text_code.specs.declared.reading.Aim.{Aim}
use Rattle.text_code.specs.declared.reading.Aim.TheVariants.{Label, Address}
use Rattle.text_code.specs.declared.reading.Found.{Found}
use Rattle.text_code.specs.Sound.{are_sound, are_few}

-- the patterns of a name
abbrev pub with_name : List ℕ → List Pattern → List Pattern
with_name n [] = []
with_name n (p ∷ ps) = if bytes_eq n p.name then p ∷ with_name n ps else with_name n ps

abbrev pub no_pattern : Pattern
no_pattern = record { name = []; base = 0; slots = [] }

-- the pattern at a spot of some lines
abbrev pub at_spot : List (List Pattern) → Spot → Pattern
at_spot pss s = get_or (get_or pss s.line []) s.place no_pattern

abbrev pub at_spots : List (List Pattern) → List Spot → List Pattern
at_spots pss [] = []
at_spots pss (s ∷ ss) = at_spot pss s ∷ at_spots pss ss

-- spots that there are
abbrev pub are_spots : List (List Pattern) → List Spot → Bool
are_spots pss [] = true
are_spots pss (s ∷ ss) =
    (nat_lt s.line (length pss) && nat_lt s.place (length (get_or pss s.line []))) && are_spots pss ss

-- patterns with which the code can compute
abbrev pub all_sound : List Pattern → Bool
all_sound [] = true
all_sound (p ∷ ps) = (are_sound p.slots && are_few p.slots) && all_sound ps

abbrev pub all_lines_sound : List (List Pattern) → Bool
all_lines_sound [] = true
all_lines_sound (ps ∷ pss) = all_sound ps && all_lines_sound pss

-- ---- what patterns of one name make of a statement

abbrev pub answer_named : (ℕ → Bool) → Pattern → Operands → Result Read Refusal
answer_named in_table p o = let is = items_to_read p o in judged in_table p is (word_told p is)

abbrev pub reads_named : (ℕ → Bool) → List Pattern → Operands → Result Read Refusal
reads_named in_table [] o = Err UnknownName
reads_named in_table (p ∷ ps) o = best (answer_named in_table p o) (reads_named in_table ps o)

-- what a pattern makes of operands, by the word that it reads in its items before the table is asked
abbrev pub asked_of : (ℕ → Bool) → Bool → Result ℕ Refusal → Result Read Refusal
asked_of in_table aimed (Err e) = Err e
asked_of in_table aimed (Ok v) = if in_table v then Ok (record { word = v; aimed = aimed }) else Err OutOfRange

-- ---- what the code answers

abbrev pub aim_of : List ℕ → Option Aim → Option Destination
aim_of text None = None
aim_of text (Some (Label t)) = Some (to_label (slice_range text t.from t.to))
aim_of text (Some (Address a)) = Some (to_address a)

-- what a statement goes to, by the label that ends it, if one does, and its last item
abbrev pub aim_at : Option Token → Option Item → Option Aim
aim_at label None = None
aim_at None (Some i) = Some (Address (unsigned_abs i.value % 2 ^ 64))
aim_at (Some t) (Some i) = Some (Label t)

-- what was found in a text, as the definitions say it
abbrev pub statement_of : List ℕ → Found → Statement
statement_of text f = record { word = f.word; target = aim_of text f.target }

-- a word and whether it has a target, as the definitions say it
abbrev pub read_of : Result (ℕ × Bool) Refusal → Result Read Refusal
read_of (Ok r) = Ok (record { word = r.0; aimed = r.1 })
read_of (Err e) = Err e

-- a label may be cut out of the text
abbrev pub IsCut : List ℕ → Option Aim → Type 0
IsCut text None = Unit {0}
IsCut text (Some (Address a)) = Unit {0}
IsCut text (Some (Label t)) = IsCharBoundary text t.from × IsCharBoundary text t.to × (t.from ≤ t.to)
