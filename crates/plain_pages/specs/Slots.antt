-- What a list of slots stands for: the entries of pages that a list of pages in frames has too.
use Rattle.std.specs.Prelude.{◌≡◌, ◌<◌, ℕ, List, map, length, get_or}
use Rattle.emu_model.specs.Access.{Memory, Page}
use Rattle.page_list.specs.Bytes.{as_bytes}
use Rattle.plain_pages.specs.declared.slots.Slot.{Slot}
use Rattle.plain_pages.specs.declared.pages.Pages.TheInside.{Inside}
pub use Rattle.guest_pages.specs.Places.{Entry, IsEntry, IsAbove, IsBelow, IsFrom, IsAscending, AreInOrder, pages_of, zeroed_entries, page_with_rights, changed, all_changed}

abbrev pub page_in : Slot → Page
page_in s = record { rights = s.rights; bytes = as_bytes s.bytes.items }

abbrev pub entry_of : Slot → Entry
entry_of s = (s.number, page_in s)

abbrev pub entries_of : List Slot → List Entry
entries_of slots = map entry_of slots

abbrev pub memory_of : Inside → Memory
memory_of a = record { pages = pages_of (entries_of a.slots.items); limit = a.limit }

abbrev pub IsInOrder : Inside → Type 0
IsInOrder a = AreInOrder a.limit (entries_of a.slots.items)

-- the slot at place i has the page
pub record IsAt (slots : List Slot) (page i : ℕ) : Type 0 where
  pub within : i < length slots
  pub number : (d : Slot) → (get_or slots i d).number ≡ page
