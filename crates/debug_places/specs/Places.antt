-- Places: addresses as a person writes them. A place is a number, a register or a symbol, also with a number added or
-- taken away, all modulo 2^64, or a line of the source. `main`, `main+8`, `*0x400100`, `sp+16`, `spoil.c:12`.
use Rattle.std.specs.Prelude.{ℕ, ◌-◌, ◌%◌, ◌^◌, Bool, not, ◌&&◌, List, drop, codes, Option, Some, None, Result, Ok, Err}
use Rattle.std.specs.Prelude.{nat_eq, if◌then◌else◌}
use Rattle.std.specs.List.{find, starts_with}
use Rattle.std.specs.Option.{option_map}
use Rattle.elf_symbols.specs.Lookup.{address_of, has_name}
use Rattle.elf_symbols.specs.declared.Symbol.{Symbol}
use Rattle.line_words.specs.Lines.{number_of_word}
use Rattle.source_lines.specs.Tables.{address_of_line}
use Rattle.source_lines.specs.declared.rows.Row.{Row}
use Rattle.line_words.specs.Refusals.{and_then}
use Rattle.debug_places.specs.declared.places.Base.{Base}
use Rattle.debug_places.specs.declared.places.Base.TheVariants.{At, Of}
use Rattle.debug_places.specs.declared.places.Place.{Place}
use Rattle.debug_places.specs.declared.refusals.Why.{Why}
use Rattle.debug_places.specs.declared.refusals.Why.TheVariants.{BadNumber, UnknownPlace, TwoSymbols}
use Rattle.debug_names.specs.declared.registers.Register.{Register}
use Rattle.debug_names.specs.Registers.{cut, register_of}

-- ---- symbols

-- another symbol of the name at another address
abbrev pub is_other : List ℕ → ℕ → Symbol → Bool
is_other name first s = has_name name s && not (nat_eq s.address first)

abbrev pub other_address_of : List ℕ → ℕ → List Symbol → Option ℕ
other_address_of name first symbols = option_map (λ s. s.address) (find (is_other name first) symbols)

-- the one address of a name, or that there are two
abbrev pub one_address : ℕ → Option ℕ → Result Base Why
one_address first None = Ok (At first)
one_address first (Some other) = Err (TwoSymbols first other)

-- ---- what a place begins with

abbrev pub address_or : Why → Option ℕ → Result Base Why
address_or why None = Err why
address_or why (Some address) = Ok (At address)

abbrev pub symbol_or : List Symbol → List ℕ → Option ℕ → Result Base Why
symbol_or symbols name None = address_or UnknownPlace (number_of_word name)
symbol_or symbols name (Some first) = one_address first (other_address_of name first symbols)

abbrev pub register_or : List Symbol → List ℕ → Option Register → Result Base Why
register_or symbols name None = symbol_or symbols name (address_of name symbols)
register_or symbols name (Some register) = Ok (Of register)

-- a number behind `*`; a register, a symbol, or else a number
abbrev pub base_of : List Symbol → List ℕ → Result Base Why
base_of symbols word =
    if starts_with nat_eq word (codes "*") then address_or BadNumber (number_of_word (drop 1 word))
    else register_or symbols word (register_of word)

-- ---- with a number

abbrev pub placed : ℕ → Base → Place
placed plus base = record { base = base; plus = plus }

abbrev pub placed_alone : Base → Result Place Why
placed_alone base = Ok (placed 0 base)

abbrev pub with_offset : Base → Option ℕ → Result Place Why
with_offset base None = Err BadNumber
with_offset base (Some plus) = Ok (placed plus base)

-- what is added where so much is taken away
abbrev pub taken_away : ℕ → ℕ
taken_away n = (2 ^ 64 - n) % 2 ^ 64

abbrev pub minus_by : List Symbol → List ℕ → Option (List ℕ × List ℕ) → Result Place Why
minus_by symbols word None = and_then (base_of symbols word) placed_alone
minus_by symbols word (Some parts) =
    and_then (base_of symbols parts.0) (λ base. with_offset base (option_map taken_away (number_of_word parts.1)))

abbrev pub plus_by : List Symbol → List ℕ → Option (List ℕ × List ℕ) → Result Place Why
plus_by symbols word None = minus_by symbols word (cut 45 word)
plus_by symbols word (Some parts) =
    and_then (base_of symbols parts.0) (λ base. with_offset base (number_of_word parts.1))

-- ---- a line of the source: a file and a number behind a colon

abbrev pub address_in : List Row → List ℕ → Option ℕ → Option ℕ
address_in rows file None = None
address_in rows file (Some line) = address_of_line file line rows

abbrev pub address_by : List Row → Option (List ℕ × List ℕ) → Option ℕ
address_by rows None = None
address_by rows (Some parts) = address_in rows parts.0 (number_of_word parts.1)

abbrev pub line_address : List Row → List ℕ → Option ℕ
line_address rows word = address_by rows (cut 58 word)

-- a line that the rows have, or else a place by its base
abbrev pub place_or : List Symbol → List ℕ → Option ℕ → Result Place Why
place_or symbols word None = plus_by symbols word (cut 43 word)
place_or symbols word (Some address) = Ok (placed 0 (At address))

abbrev pub place_of : List Symbol → List Row → List ℕ → Result Place Why
place_of symbols rows word = place_or symbols word (line_address rows word)
