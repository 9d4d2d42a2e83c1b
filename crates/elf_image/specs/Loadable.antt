-- What the segments of an accepted image keep to.
use Rattle.std.specs.Prelude.{◌≡◌, ◌≢◌, ℕ, ◌+◌, ◌%◌, ◌<◌, ◌≤◌, ◌⊎◌, List, length}
use Rattle.std.specs.List.{All, AllPairs}
use Rattle.emu_model.specs.Access.{page_size}
use Rattle.emu_system.specs.declared.image.Segment.{Segment}
use Rattle.emu_system.specs.Image.{Image, first_page, end_page, pages_of, stack_page_count}

-- some bytes of memory, from 4,096 on and below 0x7F0000000000, whose first ones are file bytes at congruent offsets;
-- so its pages are some, from page 1 on
pub record IsLoadableSegment (file : List ℕ) (s : Segment) : Type 0 where
  pub nonempty : 0 < s.memory_size
  pub low : page_size ≤ s.address
  pub high : s.address + s.memory_size ≤ 0x7F0000000000
  pub within : s.offset + s.file_size ≤ length file
  pub part : s.file_size ≤ s.memory_size
  pub congruent : s.file_size ≢ 0 → s.offset % page_size ≡ s.address % page_size
  pub paged : first_page s < end_page s
  pub above : 1 ≤ first_page s
  pub below : end_page s ≤ 0x7F0000000

-- no page belongs to both
abbrev pub ShareNoPage : Segment → Segment → Type 0
ShareNoPage s t = (end_page s ≤ first_page t) ⊎ (end_page t ≤ first_page s)

-- at most 64 segments, each as above, no two of which share a page
pub record AreLoadable (file : List ℕ) (segments : List Segment) : Type 0 where
  pub few : length segments ≤ 64
  pub sound : All (IsLoadableSegment file) segments
  pub apart : AllPairs ShareNoPage segments

-- some segments, which are loadable, of no more pages than the limit, with those of the stack
pub record IsLoadable (file : List ℕ) (limit : ℕ) (image : Image) : Type 0 where
  pub some : 0 < length image.segments
  pub segments : AreLoadable file image.segments
  pub within_limit : pages_of image.segments + stack_page_count ≤ limit
