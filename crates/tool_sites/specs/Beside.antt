-- What is next to an address that was refused.
use Rattle.std.specs.Prelude.{ℕ, ◌+◌, ◌-◌, ◌*◌, ◌^◌, Bool, ◌&&◌, List, [], ◌∷◌, Option, Some, None, is_some, max, min}
use Rattle.std.specs.Prelude.{nat_eq, nat_lt, nat_le, unwrap_or, if◌then◌else◌}
use Rattle.elf_symbols.specs.declared.Symbol.{Symbol}
use Rattle.emu_model.specs.Access.{Memory, page_of, page_size}
use Rattle.emu_system.specs.Stack.{stack_top}
use Rattle.emu_system.specs.declared.image.Segment.{Segment}
use Rattle.tool_texts.specs.Places.{SeenPlace}
use Rattle.tool_texts.specs.declared.accesses.Beside.{Beside}
use Rattle.tool_texts.specs.declared.accesses.Beside.TheVariants.{Null, Unallowed, BelowStack, BehindStack}
use Rattle.tool_texts.specs.declared.accesses.Beside.TheVariants.{BelowSegment, BehindSegment, BehindSymbol}
use Rattle.tool_texts.specs.declared.accesses.Beside.TheVariants.{BehindBreak}
use Rattle.tool_sites.specs.Guards.{beside_guards}
use Rattle.tool_sites.specs.Nearby.{behind_page, beside_mapping, follows, least_above, least_below, near_pages}
use Rattle.tool_sites.specs.Sites.{nameless, symbol_reach, shown_name}

-- the address of the stack's lowest byte
abbrev pub stack_low : ℕ
stack_low = stack_top - 256 * page_size

-- ---- segments

-- the address behind a segment's last byte
abbrev pub end_of : Segment → ℕ
end_of s = min (s.address + s.memory_size) (2 ^ 64 - 1)

-- that address, where it isn't above another one; else 0
abbrev pub end_by : ℕ → Segment → ℕ
end_by a s = if nat_le (end_of s) a then end_of s else 0

-- the greatest of those addresses that isn't above an address, and 0 where all are
abbrev pub end_below : ℕ → List Segment → ℕ
end_below a [] = 0
end_below a (s ∷ segments) = max (end_by a s) (end_below a segments)

-- the address of a segment that is above another one; else the greatest number of 64 bits
abbrev pub start_by : ℕ → Segment → ℕ
start_by a s = if nat_lt a s.address then s.address else 2 ^ 64 - 1

-- the least address of a segment that is above an address
abbrev pub start_above : ℕ → List Segment → ℕ
start_above a [] = 2 ^ 64 - 1
start_above a (s ∷ segments) = min (start_by a s) (start_above a segments)

-- ---- symbols

-- a symbol with a size that ends at an address or below it
unfoldable pub ends_by : ℕ → Symbol → Bool
ends_by a s = nat_lt 0 s.size && nat_le s.address a && nat_le s.size (a - s.address)

-- one that was found behind this one, or else this one, where it ends so
abbrev pub or_this : Option Symbol → ℕ → Symbol → Option Symbol
or_this (Some found) a s = Some found
or_this None a s = if ends_by a s then Some s else None

-- the last of some symbols that ends at an address or below it
unfoldable pub last_ending : ℕ → List Symbol → Option Symbol
last_ending a [] = None
last_ending a (s ∷ symbols) = or_this (last_ending a symbols) a s

-- the place of an address by the end of a symbol
abbrev pub end_place : ℕ → Option Symbol → SeenPlace
end_place a None = nameless a
end_place a (Some s) = record { address = a; name = shown_name s.name.now; offset = 0 }

-- how far an address is behind the last byte of a symbol; 0 where there is none
abbrev pub behind_by : ℕ → Option Symbol → ℕ
behind_by a None = 0
behind_by a (Some s) = a - s.address - (s.size - 1)

-- ---- what is next to it

-- behind a segment: by the symbol that ends last below it, where that is near
abbrev pub behind_segment : List Symbol → ℕ → ℕ → Beside
behind_segment symbols a count =
    let n = behind_by a (last_ending a symbols) in
    if nat_lt 0 n && nat_le n symbol_reach then BehindSymbol n else BehindSegment count

-- next to a segment, or else by the numbers of pages to the nearest ones below and above, which are 0 where none is near
abbrev pub beside_segments : List Symbol → List Segment → ℕ → ℕ → ℕ → Beside
beside_segments symbols segments a below above =
    if nat_lt 0 (end_below a segments) && nat_lt (a - end_below a segments) symbol_reach
    then behind_segment symbols a (a - end_below a segments + 1)
    else (if nat_le (start_above a segments - a) symbol_reach
    then BelowSegment (start_above a segments - a) else beside_mapping a below above)

-- the nearest page below is of the break: no segment is above, and the pages behind the last one follow it without a gap
abbrev pub is_break : List Segment → Memory → ℕ → ℕ → Bool
is_break segments memory a below =
    nat_lt 0 below && (nat_eq (start_above a segments) (2 ^ 64 - 1)
    && follows memory (end_below a segments) (a - page_size * below))

abbrev pub beside_break : List Symbol → List Segment → Memory → ℕ → ℕ → ℕ → Beside
beside_break symbols segments memory a below above =
    if is_break segments memory a below then BehindBreak (behind_page a below)
    else beside_segments symbols segments a below above

-- next to the stack, or else to other pages
abbrev pub beside_stack : List Symbol → List Segment → Memory → ℕ → Beside
beside_stack symbols segments memory a =
    if nat_lt a stack_low && nat_le (stack_low - a) symbol_reach then BelowStack (stack_low - a)
    else (if nat_le stack_top a && nat_lt (a - stack_top) symbol_reach then BehindStack (a - stack_top + 1)
    else beside_break symbols segments memory a (least_below memory a near_pages) (least_above memory a near_pages))

-- in no page that is mapped: next to a guarded buffer, or else to pages
abbrev pub beside_unmapped : List Symbol → List Segment → Memory → ℕ → Beside
beside_unmapped symbols segments memory a =
    unwrap_or (beside_guards symbols memory a) (beside_stack symbols segments memory a)

-- what is next to an address whose access was refused
abbrev pub beside : List Symbol → List Segment → Memory → ℕ → Beside
beside symbols segments memory a =
    if nat_lt a page_size then Null
    else (if is_some (page_of memory a) then Unallowed else beside_unmapped symbols segments memory a)

-- the symbol that is nearest below
abbrev pub near_of : List Symbol → ℕ → SeenPlace
near_of symbols a = end_place a (last_ending a symbols)
