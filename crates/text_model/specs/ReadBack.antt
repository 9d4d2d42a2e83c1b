-- What the laws of reading say of a text: what is read of it, and the address that it shows.
use Rattle.std.specs.Prelude.{ℕ, ◌-◌, ◌^◌, Option, Some, None, List, bit_and, Bool, Result, Err, [], ◌∷◌}
use Rattle.text_model.specs.declared.slots.Slot.{Slot}
use Rattle.text_model.specs.Slots.{bits_in, joined, target_address}
use Rattle.text_model.specs.Aim.{Reach, reach_of, reach_bits}
use Rattle.text_model.specs.declared.slots.Refusal.{Refusal}
use Rattle.text_model.specs.declared.slots.Refusal.TheVariants.{UnknownName}
use Rattle.text_model.specs.Reading.{Pattern}
use Rattle.text_model.specs.Statement.{Destination, to_address, Statement, reads_tokens}
use Rattle.asm_tokens.specs.Tokens.{tokens}

-- a word with the bits of its target 0
abbrev pub unaimed : List Slot → ℕ → ℕ
unaimed ss w = bit_and w (2 ^ 32 - 1 - reach_bits (reach_of ss))

abbrev pub reached : Option Reach → ℕ → ℕ → Option ℕ
reached None w pc = None
reached (Some r) w pc = Some (target_address r.by r.page (bits_in r.parts) (joined r.parts w) pc)

-- the address that a word shows where it stands at pc
abbrev pub target_of : List Slot → ℕ → ℕ → Option ℕ
target_of ss w pc = reached (reach_of ss) w pc

abbrev pub destination_of : Option ℕ → Option Destination
destination_of None = None
destination_of (Some a) = Some (to_address a)

abbrev pub reads_first : (ℕ → Bool) → List Pattern → List (List ℕ) → Result Statement Refusal
reads_first in_table ps [] = Err UnknownName
reads_first in_table ps (name ∷ ts) = reads_tokens in_table ps name ts

-- What a table's patterns make of a statement's text.
abbrev pub reads_text : (ℕ → Bool) → List Pattern → List ℕ → Result Statement Refusal
reads_text in_table ps cs = reads_first in_table ps (tokens cs)
