-- What a list of slots stands for, by the bytes of the blocks in use, and how often blocks are named.
use Rattle.std.specs.Prelude.{◌≡◌, ◌≤◌, ◌<◌, ◌^◌, if◌then◌else◌, ℕ, zero, suc, ◌+◌, ◌*◌, ◌==◌, Bool, true, false, ◌&&◌, not, List, [], ◌∷◌, map, length, get_or, set, Option, Some, None, is_none, unwrap_or}
use Rattle.std.specs.List.{sum_by, AllByRecursion}
use Rattle.std.specs.Vec.{vec_capacity}
use Rattle.emu_model.specs.Access.{gives, page_size, most_mapped_pages}
use Rattle.emu_model.specs.Pages.{zeros}
use Rattle.emu_model.specs.declared.access.Kind.{Kind}
use Rattle.emu_model.specs.declared.access.Kind.TheVariants.{Fetch, Read, Write}
use Rattle.emu_model.specs.declared.access.Rights.{Rights}
use Rattle.frame_arena.specs.Frames.{Frames, Live, bytes_of, count_of, given, shared, zeroed}
use Rattle.page_list.specs.Bytes.{as_bytes}
use Rattle.page_list.specs.Entries.{AtHand, Entry, Listed, is_held, line_of, lines, no_page}
use Rattle.page_list.specs.declared.code.CodePage.{CodePage}
use Rattle.page_list.specs.declared.hand.Hand.{Hand}
use Rattle.page_list.specs.declared.hand.Lines.{Lines}
use Rattle.page_list.specs.declared.slots.Slot.{Slot}
use Rattle.page_list.specs.declared.slots.Hold.{Hold}
use Rattle.page_list.specs.declared.slots.Hold.TheVariants.{Bare, Own, Shared}
use Rattle.page_list.specs.declared.slots.Mark.{Mark}
use Rattle.page_list.specs.declared.list.PageList.TheInside.{Inside}

-- the frame that a page has, if it has one
abbrev pub hold_frame : Hold → Option ℕ
hold_frame Bare = None
hold_frame (Own f) = Some f
hold_frame (Shared f) = Some f

-- whether it is said to name its block alone
abbrev pub hold_own : Hold → Bool
hold_own Bare = false
hold_own (Own f) = true
hold_own (Shared f) = false

abbrev pub frame_of : Slot → Option ℕ
frame_of s = hold_frame s.hold

abbrev pub is_own : Slot → Bool
is_own s = hold_own s.hold

-- the bytes of a page: those of its block, and zeros where it has none
abbrev pub bytes_in : Live → Option ℕ → List ℕ
bytes_in live None = zeros page_size
bytes_in live (Some f) = as_bytes (bytes_of live f)

abbrev pub entry_in : Live → Slot → Entry
entry_in live s = (s.number, record { rights = s.rights; bytes = bytes_in live (frame_of s) })

abbrev pub entries_in : Live → List Slot → List Entry
entries_in live slots = map (entry_in live) slots

abbrev pub no_slot : Slot
no_slot = record { number = 0; rights = record { r = false; w = false; x = false }; hold = Bare }

abbrev pub slot_at : List Slot → ℕ → Slot
slot_at slots i = get_or slots i no_slot

-- the frame of the page at place i
abbrev pub frame_at : List Slot → ℕ → Option ℕ
frame_at slots i = frame_of (slot_at slots i)

-- the slots of `count` pages from `first` on that have no frame
abbrev pub zeroed_slots : ℕ → ℕ → Rights → List Slot
zeroed_slots first zero rights = []
zeroed_slots first (suc count) rights = record { number = first; rights = rights; hold = Bare } ∷ zeroed_slots (first + 1) count rights

-- the frame is shared from now on
abbrev pub shared_hold : Hold → Hold
shared_hold Bare = Bare
shared_hold (Own f) = Shared f
shared_hold (Shared f) = Shared f

abbrev pub shared_slot : Slot → Slot
shared_slot s = record s { hold = shared_hold s.hold }

-- the frame alone names its block again
abbrev pub owned_hold : Hold → Hold
owned_hold Bare = Bare
owned_hold (Own f) = Own f
owned_hold (Shared f) = Own f

abbrev pub owned_slot : Slot → Slot
owned_slot s = record s { hold = owned_hold s.hold }

-- without a frame
abbrev pub emptied_slot : Slot → Slot
emptied_slot s = record s { hold = Bare }

abbrev pub shared_slots : List Slot → List Slot
shared_slots slots = map shared_slot slots

abbrev pub one : Bool → ℕ
one b = if b then 1 else 0

abbrev pub is_frame : ℕ → Option ℕ → Bool
is_frame f None = false
is_frame f (Some g) = f == g

-- 1 where that is the frame f
abbrev pub has : ℕ → Option ℕ → ℕ
has f o = one (is_frame f o)

-- how many slots have the frame f
abbrev pub holders : ℕ → List Slot → ℕ
holders f slots = sum_by (λ (s : Slot). has f (frame_of s)) slots

-- one slot names the block
abbrev pub is_sole : Live → Option ℕ → Bool
is_sole live None = false
is_sole live (Some f) = count_of live f == 1

-- how many slots have a block that they alone name
abbrev pub sole_in : Live → List Slot → ℕ
sole_in live slots = sum_by (λ (s : Slot). one (is_sole live (frame_of s))) slots

-- how many slots say that they alone name their block where they don't
abbrev pub wrong_in : Live → List Slot → ℕ
wrong_in live slots = sum_by (λ (s : Slot). one (is_own s && not (is_sole live (frame_of s)))) slots

-- the slots that say that they alone name their block do
abbrev pub AreOwn : Live → List Slot → Type 0
AreOwn live slots = wrong_in live slots ≡ 0

-- each block is named as often as slots have it, or oftener
abbrev pub AreHeld : Live → List Slot → Type 0
AreHeld live slots = (f : ℕ) → holders f slots ≤ count_of live f

-- the same of two lists side by side
abbrev pub AreBeside : Live → List Slot → List Slot → Type 0
AreBeside live slots others = (f : ℕ) → holders f slots + holders f others ≤ count_of live f

-- counts change as slots do, and blocks that stay named keep their bytes
pub record Changes (before after : Frames) (old new : List Slot) : Type 0 where
  pub counts : (f : ℕ) → count_of after.live f + holders f old ≡ count_of before.live f + holders f new
  pub bytes : (f : ℕ) → 1 ≤ count_of before.live f → 1 ≤ count_of after.live f → bytes_of after.live f ≡ bytes_of before.live f
  pub total : after.total ≡ before.total

-- the bytes of a slot's block, and zeros where it has none
abbrev pub block_bytes : Live → Option ℕ → List ℕ
block_bytes live None = zeroed
block_bytes live (Some f) = bytes_of live f

-- a frame is given back where there is one
abbrev pub given_if : Frames → Option ℕ → Frames
given_if a None = a
given_if a (Some f) = given a f

-- one frame more names the block where there is one
abbrev pub shared_if : Frames → Option ℕ → Frames
shared_if a None = a
shared_if a (Some f) = shared a f

-- the frames that are spare or that slots alone name grow no fewer
abbrev pub HasRoom : Frames → Frames → List Slot → List Slot → List Slot → Type 0
HasRoom before after old new others = before.spare + (sole_in before.live old + sole_in before.live others) ≤ after.spare + (sole_in after.live new + sole_in after.live others)

-- ---- marks

abbrev pub mark_in : Live → Mark → Option (List Entry)
mark_in live m = if m.set then Some (entries_in live m.slots.items) else None

abbrev pub marks_in : Live → List Mark → List (Option (List Entry))
marks_in live marks = map (mark_in live) marks

-- how many slots of the marks have the frame f
abbrev pub marked : ℕ → List Mark → ℕ
marked f marks = sum_by (λ (m : Mark). holders f m.slots.items) marks

abbrev pub hand_of : Hand → AtHand
hand_of h = record { code = h.code.number; reads = h.reads.value.pages; writes = h.writes.value.pages; places = h.writes.value.places }

abbrev pub listed : Inside → Listed
listed a = record { pages = entries_in a.arena.live a.slots.items; limit = a.limit; hand = hand_of a.hand; marks = marks_in a.arena.live a.marks.items; spare = a.arena.spare }

-- a mark has room, one that isn't set is empty, and its slots say of no block that they alone name it
pub record IsMark (limit : ℕ) (m : Mark) : Type 0 where
  pub room : limit ≤ vec_capacity m.slots
  pub most : length m.slots.items ≤ limit
  pub unset : m.set ≡ false → m.slots.items ≡ []
  pub plain : shared_slots m.slots.items ≡ m.slots.items

-- what is kept of an object with marks
pub record HasMarks (total limit : ℕ) (marks : List Mark) : Type 0 where
  pub sixteen : length marks ≡ 16
  pub frames : total ≡ 3 * limit
  pub few : limit ≤ most_mapped_pages

-- a page that is held for this kind of access has a frame of its own
abbrev pub needs_own : Kind → Bool
needs_own Read = false
needs_own Write = true
needs_own Fetch = false

-- the page at place i gives the right, has this number and this frame, or none, and one that is held for writes has a frame
-- of its own
pub record IsHeldAt (slots : List Slot) (kind : Kind) (page : ℕ) (frame : Option ℕ) (i : ℕ) : Type 0 where
  pub within : i < length slots
  pub number : (slot_at slots i).number ≡ page
  pub allowed : gives (slot_at slots i).rights kind ≡ true
  pub frame_is : frame_at slots i ≡ frame
  pub own : needs_own kind ≡ true → is_own (slot_at slots i) ≡ true

-- the page at hand for fetches, if there is one, has a place
abbrev pub IsCode : List Slot → CodePage → Type 0
IsCode slots code = code.number < no_page → (i : ℕ) × IsHeldAt slots Fetch code.number (Some code.frame) i

-- the frame in line k, if its page has one
abbrev pub line_frame : Lines → ℕ → Option ℕ
line_frame l k = if get_or l.bare k false then None else Some (get_or l.frames k 0)

-- each page in the lines is at its place, but for lines that have a page of another line
abbrev pub AreLines : List Slot → Kind → Lines → Type 0
AreLines slots kind l = (k : ℕ) → k < lines → line_of (get_or l.pages k 0) ≡ k → IsHeldAt slots kind (get_or l.pages k 0) (line_frame l k) (get_or l.places k 0)

pub record AreAtHand (slots : List Slot) (hand : Hand) : Type 0 where
  pub code : IsCode slots hand.code
  pub reads : AreLines slots Read hand.reads.value
  pub writes : AreLines slots Write hand.writes.value

-- the page at hand where a page gets the frame f: the same page, with that frame where it is that page
abbrev pub code_after : CodePage → Slot → ℕ → CodePage
code_after code s f = if s.number == code.number && s.rights.x then record { number = code.number; frame = f } else code

-- the lines with a page, its frame and its place in its line
abbrev pub with_line : Lines → ℕ → Option ℕ → ℕ → Lines
with_line l page frame place = record { pages = set l.pages (line_of page) page; frames = set l.frames (line_of page) (unwrap_or frame 0); bare = set l.bare (line_of page) (is_none frame); places = set l.places (line_of page) place }

-- the lines with the line of a page empty
abbrev pub without_line : Lines → ℕ → Lines
without_line l page = record l { pages = set l.pages (line_of page) (line_of page + 1) }

-- the lines where the page at a place gets the frame f: the same pages, and its line has that frame where it has the page
abbrev pub lines_after : Lines → ℕ → ℕ → ℕ → Lines
lines_after l page place f = if is_held l.pages page && (get_or l.places (line_of page) 0 == place) then record l { frames = set l.frames (line_of page) f; bare = set l.bare (line_of page) false } else l

pub record IsKept (a : Inside) : Type 0 where
  pub counts : (f : ℕ) → count_of a.arena.live f ≡ holders f a.slots.items + marked f a.marks.items
  pub own : AreOwn a.arena.live a.slots.items
  pub spare : a.limit ≤ a.arena.spare + sole_in a.arena.live a.slots.items
  pub room : a.limit ≤ vec_capacity a.slots
  pub most : length a.slots.items ≤ a.limit
  pub narrow : a.limit < 2 ^ 32
  pub hand : AreAtHand a.slots.items a.hand
  pub marks : AllByRecursion (IsMark a.limit) a.marks.items
  pub object : 0 < length a.marks.items → HasMarks a.arena.total a.limit a.marks.items
