-- Pages that are mapped with what stands in them.
use Rattle.std.specs.Prelude.{◌≡◌, ◌≤◌, ◌+◌, ℕ, true, cond, Some, None}
use Rattle.std.specs.FinMap.{get}
use Rattle.emu_system.specs.declared.image.Segment.{Segment}
use Rattle.emu_model.specs.Access.{Memory, Page}
use Rattle.emu_model.specs.Pages.{is_page_in}

-- `count` pages from page `first` on, none of which was mapped, are mapped now, each as `page` says of its number, and each
-- other page is as it was
pub record HasPages (first count : ℕ) (page : ℕ → Page) (old new : Memory) : Type 0 where
  pub free : (q : ℕ) → is_page_in first count q ≡ true → get old.pages q ≡ None
  pub pages : (q : ℕ) → get new.pages q ≡ cond (is_page_in first count q) (Some (page q)) (get old.pages q)
  pub limit : new.limit ≡ old.limit

-- ends at or below 0x7F0000000000
abbrev pub IsBelowLimit : Segment → Type 0
IsBelowLimit s = s.address + s.memory_size ≤ 0x7F0000000000
