-- What the table of frames has, and what it is beside the list of the spare ones.
use Rattle.std.specs.Prelude.{◌≡◌, ℕ, ◌+◌, ◌-◌, ◌*◌, ◌<◌, ◌≤◌, ◌^◌, ◌==◌, Bool, false, ◌||◌, List, [], ◌∷◌, length, slice_index_or, Option, Some, None}
use Rattle.std.specs.FinMap.{from_entries, len}
use Rattle.frame_arena.specs.Size.{frame_size}
use Rattle.frame_arena.specs.Frames.{Block, Frames, Live}
use Rattle.frame_arena.specs.Links.{Place}
use Rattle.std.specs.Vec.{vec_capacity}
use denote.RawPtr.{Ptr, block_ptr, block_of, count_of}
use Rattle.frame_arena.specs.declared.memory.Memory.{Memory}
use Rattle.frame_arena.specs.declared.page.Page.{Page}
use Rattle.frame_arena.specs.declared.slot.Slot.{Slot}
use Rattle.frame_arena.specs.declared.slot.Slot.TheVariants.{Spare, Used}
use Rattle.frame_arena.specs.declared.arena.FrameArena.TheInside.{Inside}

abbrev pub page_in : Slot → Option Page
page_in Spare = None
page_in (Used others page) = Some page

-- how many frames name the block of a slot but for one
abbrev pub others_in : Slot → ℕ
others_in Spare = 0
others_in (Used others page) = others

abbrev pub with_others : Slot → ℕ → Slot
with_others Spare k = Spare
with_others (Used others page) k = Used k page

-- the bytes of a live frame
abbrev pub slot_bytes : Slot → Option (List ℕ)
slot_bytes Spare = None
slot_bytes (Used others page) = Some page.bytes

-- the block of a slot, if it is in use
abbrev pub slot_block : Slot → Option Block
slot_block Spare = None
slot_block (Used others page) = Some (record { bytes = page.bytes; count = others + 1 })

abbrev pub no_page : Slot
no_page = Spare

-- the block n, if it is in use
abbrev pub block_at : List Slot → ℕ → Option Block
block_at ss n = slot_block (slice_index_or ss n no_page)

abbrev pub entry : ℕ → Option Block → List (ℕ × Block) → List (ℕ × Block)
entry n None es = es
entry n (Some x) es = (n, x) ∷ es

-- the live frames from the number n on
abbrev pub entries_of : ℕ → List Slot → List (ℕ × Block)
entries_of n [] = []
entries_of n (s ∷ ss) = entry n (slot_block s) (entries_of (n + 1) ss)

abbrev pub live_slots : List Slot → Live
live_slots ss = from_entries (entries_of 0 ss)

-- of n frames those of the table were cut off the region, and those of the list were given back
abbrev pub seen : ℕ → List Slot → List Place → Frames
seen n ss fs = record { live = live_slots ss; spare = n - length ss + length fs; total = n }

abbrev pub frames_of : Inside → Frames
frames_of a = seen a.total a.slots.items a.free.frames

abbrev pub lists : ℕ → List Place → Bool
lists q [] = false
lists q (f ∷ fs) = (q == f.2) || lists q fs

-- frames of the table that are not live, each once
abbrev pub AreVacant : List Slot → List Place → Type 0
AreVacant ss [] = Unit {0}
AreVacant ss (f ∷ fs) = (f.2 < length ss) × (block_at ss f.2 ≡ None) × (lists f.2 fs ≡ false) × AreVacant ss fs

-- each frame of the table is live or in the list
abbrev pub IsWhole : List Slot → List Place → Type 0
IsWhole ss fs = len (live_slots ss) + length fs ≡ length ss

-- the object and the place in it of the frame n of the region at p
abbrev pub IsSeat : Ptr → ℕ → ℕ → ℕ → Type 0
IsSeat p n block place = (block ≡ block_of p) × (place ≡ count_of p + n * frame_size)

abbrev pub IsSeated : Ptr → ℕ → Option Page → Type 0
IsSeated p n None = Unit {0}
IsSeated p n (Some page) = IsSeat p n page.block page.place

-- each page lies where its number says
abbrev pub AreSeated : Ptr → List Slot → Type 0
AreSeated p ss = (n : ℕ) → IsSeated p n (page_in (slice_index_or ss n no_page))

abbrev pub AreSpareSeated : Ptr → List Place → Type 0
AreSpareSeated p [] = Unit {0}
AreSpareSeated p (f ∷ fs) = IsSeat p f.2 f.0 f.1 × AreSpareSeated p fs

-- m frames that lie from the frame n on
abbrev pub IsRest : Ptr → ℕ → ℕ → Option Memory → Type 0
IsRest p n m None = ⊥
IsRest p n m (Some rest) = (rest.ptr ≡ block_ptr (block_of p) (count_of p + n * frame_size)) × (rest.size ≡ m * frame_size)

pub record IsKept (a : Inside) : Type 0 where
  pub given : a.given ≡ length a.free.frames
  pub vacant : AreVacant a.slots.items a.free.frames
  pub whole : IsWhole a.slots.items a.free.frames
  pub most : length a.slots.items ≤ a.total
  pub narrow : a.total < 2 ^ 32
  pub room : a.total ≤ vec_capacity a.slots
  pub seated : AreSeated a.lease.ptr a.slots.items
  pub spare_seated : AreSpareSeated a.lease.ptr a.free.frames
  pub rest : IsRest a.lease.ptr (length a.slots.items) (a.total - length a.slots.items) a.rest
  pub start : a.lease.ptr ≡ block_ptr (block_of a.lease.ptr) (count_of a.lease.ptr)
  pub leased : (a.lease.alloc ≡ a.alloc) × (a.lease.size ≡ a.total * frame_size)
