-- The steps that the options of a trace ask for, by the symbols of a file in order: a place is a symbol's name or an
-- address as `0x400100`.
use Rattle.std.specs.Prelude.{ℕ, ◌-◌, ◌^◌, List, [], get_or, codes, nat_eq, nat_le, nat_lt, Option, Some, None}
use Rattle.std.specs.Prelude.{Result, Ok, if◌then◌else◌}
use Rattle.std.specs.List.{find, starts_with}
use Rattle.std.specs.Option.{option_map}
use Rattle.elf_symbols.specs.declared.Symbol.{Symbol}
use Rattle.elf_symbols.specs.Lookup.{address_of, has_name}
use Rattle.line_words.specs.Lines.{number_of_word}
use Rattle.line_words.specs.Refusals.{and_then}
use Rattle.trace_options.specs.declared.options.Given.{Given}
use Rattle.trace_options.specs.declared.options.TraceFault.{TraceFault}
use Rattle.trace_options.specs.declared.options.TraceWhy.TheVariants.{BadNumber, CallAlone, UnknownPlace, UnknownSymbol}
use Rattle.trace_options.specs.declared.window.Range.{Range}
use Rattle.trace_options.specs.declared.window.Window.{Window}
use Rattle.trace_options.specs.Options.{refusal_at}

-- ---- numbers

-- the number of the word at a place, from `least` on
abbrev pub known_number : ℕ → ℕ → Option ℕ → Result ℕ TraceFault
known_number place least None = refusal_at BadNumber place
known_number place least (Some number) = if nat_le least number then Ok number else refusal_at BadNumber place

-- what stands at a place, or where no place is given, another
abbrev pub number_at : List (List ℕ) → Option ℕ → ℕ → ℕ → Result ℕ TraceFault
number_at words None least or = Ok or
number_at words (Some place) least or = known_number place least (number_of_word (get_or words place []))

-- ---- addresses

abbrev pub or_number : List ℕ → Option ℕ → Option ℕ
or_number word (Some address) = Some address
or_number word None = if starts_with nat_eq word (codes "0x") then number_of_word word else None

-- that of the first symbol of this name, or else the number behind `0x`
abbrev pub address_named : List Symbol → List ℕ → Option ℕ
address_named symbols word = or_number word (address_of word symbols)

abbrev pub known_address : ℕ → Option ℕ → Result (Option ℕ) TraceFault
known_address place None = refusal_at UnknownPlace place
known_address place (Some address) = Ok (Some address)

abbrev pub address_at : List Symbol → List (List ℕ) → Option ℕ → Result (Option ℕ) TraceFault
address_at symbols words None = Ok None
address_at symbols words (Some place) = known_address place (address_named symbols (get_or words place []))

-- arrivals are counted, from 1, where the first step has its address
abbrev pub call_at : List (List ℕ) → Option ℕ → Option ℕ → Result ℕ TraceFault
call_at words None from = Ok 1
call_at words (Some place) None = refusal_at CallAlone place
call_at words (Some place) (Some address) = number_at words (Some place) 1 1

-- ---- ranges

abbrev pub next_above : ℕ → List Symbol → Option ℕ
next_above address symbols = option_map (λ s. s.address) (find (λ s. nat_lt address s.address) symbols)

-- up to the next symbol, or to the last address, at which no instruction can stand
abbrev pub size_up_to : ℕ → Option ℕ → ℕ
size_up_to address None = 2 ^ 64 - 1 - address
size_up_to address (Some next) = next - address

-- the bytes of a symbol: where the file doesn't tell its size, those up to the next one
abbrev pub range_of : List Symbol → Symbol → Range
range_of symbols s = record {
  start = s.address;
  size = if nat_eq s.size 0 then size_up_to s.address (next_above s.address symbols) else s.size;
}

abbrev pub known_range : ℕ → List Symbol → Option Symbol → Result (Option Range) TraceFault
known_range place symbols None = refusal_at UnknownSymbol place
known_range place symbols (Some s) = Ok (Some (range_of symbols s))

-- that of the first symbol of the name at a place
abbrev pub range_at : List Symbol → List (List ℕ) → Option ℕ → Result (Option Range) TraceFault
range_at symbols words None = Ok None
range_at symbols words (Some place) = known_range place symbols (find (has_name (get_or words place [])) symbols)

-- ---- the window

abbrev pub window_of : List Symbol → List (List ℕ) → Given → Result Window TraceFault
window_of symbols words given =
    and_then (address_at symbols words given.from) (λ from.
    and_then (call_at words given.call from) (λ call.
    and_then (address_at symbols words given.until) (λ until.
    and_then (range_at symbols words given.range) (λ within.
    and_then (number_at words given.after 0 0) (λ after.
    and_then (number_at words given.steps 1 (2 ^ 64 - 1)) (λ steps.
    Ok (record { after = after; from = from; call = call; steps = steps; until = until; within = within })))))))
