-- The mapped pages that are next to an address without one, and whether they are those that the break gave.
use Rattle.std.specs.Prelude.{ℕ, zero, suc, ◌+◌, ◌-◌, ◌*◌, ◌/◌, ◌%◌, ◌^◌, Bool, true, false, ◌&&◌, ◌||◌, is_some, min}
use Rattle.std.specs.Prelude.{nat_eq, nat_lt, nat_le, if◌then◌else◌}
use Rattle.emu_model.specs.Access.{Memory, address, most_mapped_pages, page_of, page_size}
use Rattle.tool_texts.specs.declared.accesses.Beside.{Beside}
use Rattle.tool_texts.specs.declared.accesses.Beside.TheVariants.{BehindMapping, BelowMapping, Nowhere}

-- pages that are farther away aren't told: 1 MiB
abbrev pub near_pages : ℕ
near_pages = 256

-- k where the page that is k pages below is mapped, else 0; and the same of the one above
abbrev pub place_below : Memory → ℕ → ℕ → ℕ
place_below m a k = if nat_le (page_size * k) a && is_some (page_of m (a - page_size * k)) then k else 0

abbrev pub place_above : Memory → ℕ → ℕ → ℕ
place_above m a k =
    if nat_le (page_size * k) (2 ^ 64 - 1 - a) && is_some (page_of m (a + page_size * k)) then k else 0

-- a number that was found, or else another one
abbrev pub first_of : ℕ → ℕ → ℕ
first_of found k = if nat_eq found 0 then k else found

-- the least number of pages, of 1 to n, by which a mapped page is below; and above; 0 where there is none
unfoldable pub least_below : Memory → ℕ → ℕ → ℕ
least_below m a zero = 0
least_below m a (suc n) = first_of (least_below m a n) (place_below m a (suc n))

unfoldable pub least_above : Memory → ℕ → ℕ → ℕ
least_above m a zero = 0
least_above m a (suc n) = first_of (least_above m a n) (place_above m a (suc n))

-- how far an address is behind the last byte of the page k pages below, and below the first one of that above
abbrev pub behind_page : ℕ → ℕ → ℕ
behind_page a k = a % page_size + page_size * (k - 1) + 1

abbrev pub below_page : ℕ → ℕ → ℕ
below_page a k = page_size * k - a % page_size

-- ---- the break

-- n pages in a row are mapped, from an address on
unfoldable pub all_mapped : Memory → ℕ → ℕ → Bool
all_mapped m from zero = true
all_mapped m from (suc n) = all_mapped m from n && is_some (page_of m (address (from + page_size * n)))

-- the address of the page behind those of a segment that ends before an address
abbrev pub next_page : ℕ → ℕ
next_page end = min (end + 4095) (2 ^ 64 - 1) / page_size * page_size

-- so many pages behind one, and that one, are mapped
abbrev pub are_mapped : Memory → ℕ → ℕ → Bool
are_mapped m from more = if nat_lt more most_mapped_pages then all_mapped m from (more + 1) else false

-- the page at an address is one of those that follow a segment's end without a gap
abbrev pub follows : Memory → ℕ → ℕ → Bool
follows m end top =
    nat_lt 0 end && (nat_le (next_page end) top && are_mapped m (next_page end) ((top - next_page end) / page_size))

-- ---- a mapping

-- by the numbers of pages to those below and above, which are 0 where none is near: the nearer of them
abbrev pub beside_mapping : ℕ → ℕ → ℕ → Beside
beside_mapping a below above =
    if nat_lt 0 below && (nat_eq above 0 || nat_le below above) then BehindMapping (behind_page a below)
    else (if nat_lt 0 above then BelowMapping (below_page a above) else Nowhere)
