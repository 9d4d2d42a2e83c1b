-- The guarded buffer that is next to an address: a buffer which ends or begins where a page does that has none behind or
-- before it. A program keeps a table of its guarded buffers under the symbol `guarded_buffers`: 256 entries of a
-- doubleword, the address of the first byte, and another, the number of bytes. An address of 0 is no buffer.
use Rattle.std.specs.Prelude.{ℕ, zero, suc, ◌+◌, ◌-◌, ◌*◌, ◌^◌, List, codes, Option, Some, None, min, nat_eq, nat_lt}
use Rattle.std.specs.Prelude.{nat_le, if◌then◌else◌}
use Rattle.elf_symbols.specs.Lookup.{address_of}
use Rattle.elf_symbols.specs.declared.Symbol.{Symbol}
use Rattle.emu_model.specs.Access.{Memory, address}
use Rattle.tool_sites.specs.Words.{doubleword_at}
use Rattle.tool_sites.specs.declared.guards.Buffer.{Buffer}
use Rattle.tool_texts.specs.declared.accesses.Beside.{Beside}
use Rattle.tool_texts.specs.declared.accesses.Beside.TheVariants.{BehindBuffer, BelowBuffer}

abbrev pub no_buffer : Buffer
no_buffer = record { begin = 0; count = 0 }

-- entry k of the table at an address
abbrev pub buffer_at : Memory → ℕ → ℕ → Buffer
buffer_at m table k = record {
  begin = doubleword_at m (address (table + 16 * k));
  count = doubleword_at m (address (table + (16 * k + 8)));
}

-- the address behind the last byte
abbrev pub end_of_buffer : Buffer → ℕ
end_of_buffer b = min (b.begin + b.count) (2 ^ 64 - 1)

-- how far an address is below the first byte, or behind the last one; the greatest number of 64 bits where it is in the
-- buffer or there is none
abbrev pub away : ℕ → Buffer → ℕ
away a b =
    if nat_eq b.begin 0 then 2 ^ 64 - 1
    else (if nat_lt a b.begin then b.begin - a
    else (if nat_le (end_of_buffer b) a then a - (end_of_buffer b - 1) else 2 ^ 64 - 1))

-- the second of two buffers where it is nearer, else the first
abbrev pub nearer : ℕ → Buffer → Buffer → Buffer
nearer a b other = if nat_lt (away a other) (away a b) then other else b

-- the nearest of the first n entries
unfoldable pub nearest : Memory → ℕ → ℕ → ℕ → Buffer
nearest m table a zero = no_buffer
nearest m table a (suc n) = nearer a (nearest m table a n) (buffer_at m table n)

-- a buffer that is farther away isn't told: two pages
abbrev pub near_buffer : ℕ
near_buffer = 8192

abbrev pub beside_buffer : ℕ → Buffer → Option Beside
beside_buffer a b =
    if nat_lt near_buffer (away a b) then None
    else (if nat_lt a b.begin then Some (BelowBuffer (away a b) b.count) else Some (BehindBuffer (away a b) b.count))

abbrev pub beside_table : Memory → ℕ → Option ℕ → Option Beside
beside_table m a None = None
beside_table m a (Some table) = beside_buffer a (nearest m table a 256)

-- by the table of a program
abbrev pub beside_guards : List Symbol → Memory → ℕ → Option Beside
beside_guards symbols m a = beside_table m a (address_of (codes "guarded_buffers") symbols)
