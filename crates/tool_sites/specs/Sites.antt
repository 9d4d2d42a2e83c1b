-- Addresses as places by symbols, and where a machine stopped.
use Rattle.std.specs.Prelude.{ℕ, ◌-◌, Bool, ◌&&◌, not, List, [], Option, Some, None, nat_eq, nat_le, nat_lt}
use Rattle.std.specs.Prelude.{if◌then◌else◌}
use Rattle.std.specs.List.{list_all}
use Rattle.std.specs.Str.{is_utf8}
use Rattle.elf_symbols.specs.declared.Symbol.{Symbol}
use Rattle.elf_symbols.specs.Lookup.{last_reaching}
use Rattle.emu_model.specs.State.{Parts, read_x}
use Rattle.tool_texts.specs.Places.{SeenPlace}
use Rattle.tool_texts.specs.declared.stops.Stop.{Stop}

-- no control character of ASCII
abbrev pub is_shown : ℕ → Bool
is_shown c = nat_le 32 c && not (nat_eq c 127)

-- a name that is text without control characters; any other is shown as none
abbrev pub shown_name : List ℕ → List ℕ
shown_name name = if is_utf8 name && list_all is_shown name then name else []

-- a symbol that is farther away isn't told: 1 MiB
abbrev pub symbol_reach : ℕ
symbol_reach = 1048576

-- an address without a symbol
abbrev pub nameless : ℕ → SeenPlace
nameless a = record { address = a; name = []; offset = 0 }

-- an address by a symbol at it or below it
abbrev pub place_by : ℕ → Option Symbol → SeenPlace
place_by a None = nameless a
place_by a (Some s) =
    if nat_lt (a - s.address) symbol_reach
    then record { address = a; name = shown_name s.name.now; offset = a - s.address } else nameless a

-- an address by the symbol that reaches it
abbrev pub place_of : List Symbol → ℕ → SeenPlace
place_of symbols a = place_by a (last_reaching a symbols)

-- where a machine stopped, with the address in X30
abbrev pub stop_of : List Symbol → Parts → Stop
stop_of symbols m = record {
  place = place_of symbols m.core.pc;
  caller = place_of symbols (read_x m.core 30);
  steps = m.steps;
}
