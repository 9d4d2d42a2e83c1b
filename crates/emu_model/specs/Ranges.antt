-- Bytes in a row and pages, as the map of a memory's bytes has them.
use Rattle.std.specs.Prelude.{◌≡◌, if◌then◌else◌, ℕ, ◌+◌, ◌/◌, List, [], ◌∷◌, map, Option}
use Rattle.std.specs.Option.{unwrap_or}
use Rattle.std.specs.List.{range_with_len}
use Rattle.std.specs.Ordering.{nat_cmp}
use Rattle.std.specs.FinMap.{FinMap, get}
use Rattle.emu_model.specs.Access.{address, page_size}
use Rattle.emu_model.specs.ByteMap.{put}
use Rattle.emu_model.specs.Pages.{is_page_in}

-- the bytes of the map at the n addresses from a on, and 0 where it has none
abbrev pub bytes_in_row : FinMap nat_cmp ℕ → ℕ → ℕ → List ℕ
bytes_in_row bytes a n = map (λ k. unwrap_or (get bytes (address k)) 0) (range_with_len a n)

-- bytes put one after the other from address a on, each where the map has its address
abbrev pub with_bytes_in_row : FinMap nat_cmp ℕ → ℕ → List ℕ → FinMap nat_cmp ℕ
with_bytes_in_row bytes a [] = bytes
with_bytes_in_row bytes a (x ∷ xs) = with_bytes_in_row (put bytes (address a) x) (a + 1) xs

-- the new map has `what` at each address of `count` pages from page `first` on, and at any other what the old one has
abbrev pub IsSetInPages : ℕ → ℕ → Option ℕ → FinMap nat_cmp ℕ → FinMap nat_cmp ℕ → Type 0
IsSetInPages first count what old new = (a : ℕ) → get new a ≡ (if is_page_in first count (a / page_size) then what else get old a)
