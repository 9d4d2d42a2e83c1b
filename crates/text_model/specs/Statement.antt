-- A statement's tokens as items, and what a table's patterns make of them. What a label is, and that a target is the
-- last item, is this project's own.
use Rattle.std.specs.Prelude.{ℕ, zero, suc, ◌-◌, ◌%◌, ◌^◌, ◌==◌, ◌&&◌, ◌||◌, Bool, false, not, if◌then◌else◌, Option, Some, None, Result, Ok, Err, List, [], ◌∷◌, nat_lt, map, pos, unsigned_abs}
use Rattle.std.specs.Option.{option_map_or}
use Rattle.std.specs.Char.{is_ascii_digit, to_ascii_lowercase}
use Rattle.std.specs.Int.{is_negative}
use Rattle.std.specs.List.{list_all}
use Rattle.asm_tokens.specs.Tokens.{is_word_byte, dot}
use Rattle.asm_tokens.specs.Numbers as numbers
use Rattle.text_model.specs.declared.classes.Class.TheVariants.{Number}
use Rattle.text_model.specs.declared.slots.Item.{Item}
use Rattle.text_model.specs.declared.slots.Refusal.{Refusal}
use Rattle.text_model.specs.Classes.{same_class}
use Rattle.text_model.specs.Reading.{Pattern, Read, Operands, reads}
use Rattle.text_model.specs.Words.{item, classed}

-- ---- items

abbrev pub lowered : List ℕ → List ℕ
lowered cs = map to_ascii_lowercase cs

-- the item that tokens begin with, where this is the number that they begin with
abbrev pub item_by : Option numbers.Number → List ℕ → Item
item_by (Some n) t = item Number (numbers.value n)
item_by None t = classed (lowered t)

-- how many tokens it has behind the first
abbrev pub more_tokens : Option numbers.Number → ℕ
more_tokens n = option_map_or (λ n. n.count - 1) n 0

-- the items behind the first n tokens
abbrev pub items_from : ℕ → List (List ℕ) → List Item
items_from n [] = []
items_from (suc n) (t ∷ ts) = items_from n ts
items_from zero (t ∷ ts) = let o = numbers.number_of (t ∷ ts) in item_by o t ∷ items_from (more_tokens o) ts

-- The items of a statement's tokens: numbers, words and marks.
abbrev pub items_of : List (List ℕ) → List Item
items_of ts = items_from 0 ts

-- ---- targets

-- letters, digits and `_`, not beginning with a digit
abbrev pub is_label : List ℕ → Bool
is_label [] = false
is_label (c ∷ cs) = not (is_ascii_digit c) && list_all (λ d. is_word_byte d && not (d == dot)) (c ∷ cs)

abbrev pub last_of : {A : Type 0} → List A → Option A
last_of [] = None
last_of (x ∷ []) = Some x
last_of (x ∷ y ∷ ys) = last_of (y ∷ ys)

abbrev pub ends_in_label : List (List ℕ) → Bool
ends_in_label ts = option_map_or is_label (last_of ts) false

-- a number from 0 to 2^64 - 1
abbrev pub is_address : Item → Bool
is_address i = same_class i.class Number && (not (is_negative i.value) && nat_lt (unsigned_abs i.value) (2 ^ 64))

-- items with 0 in place of the last one, where it is a label or an address
abbrev pub untargeted : Bool → List Item → List Item
untargeted label [] = []
untargeted label (i ∷ []) = (if label || is_address i then item Number (pos 0) else i) ∷ []
untargeted label (i ∷ j ∷ js) = i ∷ untargeted label (j ∷ js)

-- what a statement jumps to or addresses
pub data Destination : Type 0 where
  to_label : List ℕ → Destination
  to_address : ℕ → Destination

abbrev pub destination : Option (List ℕ) → Option Item → Option Destination
destination None o = None
destination (Some t) None = None
destination (Some t) (Some i) = Some (if is_label t then to_label t else to_address (unsigned_abs i.value % 2 ^ 64))

-- where a statement with a target goes: its last token is a label, or its last item an address
abbrev pub last_target : List (List ℕ) → List Item → Option Destination
last_target ts is = destination (last_of ts) (last_of is)

-- ---- the statement

-- What is read: a word, whose bits of a target are 0, and the target.
pub record Statement : Type 0 where
  pub word : ℕ
  pub target : Option Destination

abbrev pub with_target : List (List ℕ) → Result Read Refusal → Result Statement Refusal
with_target ts (Err e) = Err e
with_target ts (Ok r) = Ok (record { word = r.word; target = if r.aimed then last_target ts (items_of ts) else None })

abbrev pub operands_of : List (List ℕ) → Operands
operands_of ts = record { items = items_of ts; untargeted = untargeted (ends_in_label ts) (items_of ts) }

-- What a table's patterns make of a name and the tokens behind it.
abbrev pub reads_tokens : (ℕ → Bool) → List Pattern → List ℕ → List (List ℕ) → Result Statement Refusal
reads_tokens in_table ps name ts = with_target ts (reads in_table ps (lowered name) (operands_of ts))
