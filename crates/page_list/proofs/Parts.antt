-- Bytes of a page that are lent, in the block that its frame alone names.
use Rattle.std.proofs.Common.{◌≡◌, ◌<◌, ◌≤◌, ◌+◌, ◌-◌, ◌%◌, ℕ, true, List, length, take, Option, Some, ap, ◌∙◌, sym, arith}
use Rattle.std.proofs.lemmas.Bool.{eqb-true}
use Rattle.std.proofs.lemmas.List.{take-map}
use Rattle.emu_model.specs.Access.{page_size}
use Rattle.emu_model.specs.WithinPage.{overwritten, page_with_bytes}
use Rattle.frame_arena.specs.Frames.{Live, bytes_of, count_of}
use Rattle.page_list.specs.Bytes.{as_bytes}
use Rattle.page_list.specs.Entries.{Entry, changed_at, entry_at}
use Rattle.page_list.specs.Slots.{bytes_in, entry_in, entries_in, frame_at, holders, is_sole, marked, marks_in, no_slot, frame_of, slot_at}
use Rattle.page_list.specs.declared.slots.Mark.{Mark}
use Rattle.page_list.specs.declared.slots.Slot.{Slot}
use Rattle.page_list.proofs.Bytes.{as_bytes-overwritten}
use Rattle.page_list.proofs.Held.{after_write, bytes-written, bytes-written_same, entry_is, holds_at, marks_unchanged, slot_there, written}

-- the page of the slot x, in the block k, with w from place `at` on
page_after : (live : Live) (x : Slot) (k at : ℕ) (w : List ℕ) (sole : count_of live k ≡ 1) → frame_of x ≡ Some k →
    (entry_in (after_write live k (overwritten at (take (page_size - at) w) (bytes_of live k)) sole) x).1 ≡ page_with_bytes at (take (page_size - at) (as_bytes w)) (entry_in live x).1
page_after live x k at w sole is =
    let old = bytes_of live k in let z = overwritten at (take (page_size - at) w) old in
    ap (λ (o : Option ℕ). record { rights = x.rights; bytes = bytes_in (after_write live k z sole) o }) is
    ∙ ap (λ (b : List ℕ). record { rights = x.rights; bytes = as_bytes b }) (bytes-written_same live k z sole)
    ∙ ap (λ (b : List ℕ). record { rights = x.rights; bytes = b }) (as_bytes-overwritten at (take (page_size - at) w) old)
    ∙ ap (λ (b : List ℕ). record { rights = x.rights; bytes = overwritten at b (as_bytes old) }) (sym (take-map (λ b. b % 256) (page_size - at) w))
    ∙ ap (λ (o : Option ℕ). record { rights = x.rights; bytes = overwritten at (take (page_size - at) (as_bytes w)) (bytes_in live o) }) (sym is)

-- the frame of a page alone names its block
pub sole_at : (live : Live) (ss : List Slot) (i k : ℕ) → frame_at ss i ≡ Some k → is_sole live (frame_at ss i) ≡ true → count_of live k ≡ 1
sole_at live ss i k is t = eqb-true (count_of live k) 1 (sym (ap (is_sole live) is) ∙ t)

module _ (live : Live) (ss : List Slot) (ms : List Mark) (i k at : ℕ) (l : i < length ss) (is : frame_at ss i ≡ Some k) (sole : count_of live k ≡ 1) (counts : (f : ℕ) → count_of live f ≡ holders f ss + marked f ms) where
  holds : 1 ≤ holders k ss
  holds = holds_at ss i no_slot k l is

  module _ (w : List ℕ) where
    abbrev pub piece : List ℕ
    piece = overwritten at (take (page_size - at) w) (bytes_of live k)

    -- the entries once w was written
    pub lent_pages : entries_in (after_write live k piece sole) ss ≡ changed_at (page_with_bytes at (take (page_size - at) (as_bytes w))) i (entries_in live ss)
    lent_pages =
        let once : holders k ss ≤ 1 = let n = counts k in omega (arith, n, sole) in
        written live (after_write live k piece sole) k (bytes-written live k piece sole) (page_with_bytes at (take (page_size - at) (as_bytes w))) ss i (slot_at ss i) l (slot_there ss i l) is once (page_after live (slot_at ss i) k at w sole is)

    -- no mark has the block
    pub lent_marks : marks_in (after_write live k piece sole) ms ≡ marks_in live ms
    lent_marks =
        let some = holds in let alone : marked k ms ≡ 0 = let n = counts k in omega (arith, n, sole, some) in
        marks_unchanged live (after_write live k piece sole) ms (λ f m. bytes-written live k piece sole f (λ e. let n = ap (λ (f : ℕ). marked f ms) e in omega (arith, n, alone, m)))

  -- the bytes of the entry are those of the block
  pub lent_entry : as_bytes (bytes_of live k) ≡ bytes_of live k → (entry_at (entries_in live ss) i).1.bytes ≡ bytes_of live k
  lent_entry whole = ap (λ (e : Entry). e.1.bytes) (entry_is live ss i (slot_at ss i) l (slot_there ss i l)) ∙ ap (λ (o : Option ℕ). bytes_in live o) is ∙ whole
