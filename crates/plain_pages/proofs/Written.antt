-- The slots after the bytes of a page were replaced.
use Rattle.std.proofs.Common.{◌≡◌, ◌<◌, ◌≤◌, ◌+◌, ◌*◌, ◌^◌, ℕ, Bool, true, false, cond, List, ◌++◌, take, drop, length, sym, ap, ◌∙◌, refl, arith}
use Rattle.std.proofs.lemmas.List.{length-map, with_items_is}
use Rattle.std.specs.FinMap.{FinMap, get}
use Rattle.std.specs.Ordering.{nat_cmp}
use Rattle.std.specs.Vec.{with_items}
use Rattle.emu_model.specs.Access.{Page, page_size}
use Rattle.emu_model.specs.Pages.{with_bytes}
use Rattle.emu_model.specs.SoundState.{IsByte, AreBytes}
use Rattle.emu_model.specs.WithinPage.{overwritten, page_with_bytes, length_overwritten, with_bytes_is}
use Rattle.plain_pages.specs.declared.slots.Slot.{Slot}
use Rattle.plain_pages.specs.declared.pages.Pages.TheInside.{Inside}
use Rattle.plain_pages.specs.Slots.{pages_of, Entry, AreInOrder, IsInOrder, entry_of, entries_of, memory_of, changed}
use Rattle.guest_pages.proofs.Parts.{all_join, all_front, all_back}
use Rattle.guest_pages.proofs.Maps.{changed_is, order_changed, length_changed, whole}

-- slots that stand for as many entries, written back into their vector
pub written_back : (a : Inside) (new : List Slot) (es : List Entry) → entries_of new ≡ es → length es ≡ length (entries_of a.slots.items) → entries_of (with_items a.slots new).items ≡ es
written_back a new es is long =
    ap entries_of (with_items_is a.slots new (sym (length-map new entry_of) ∙ ap length is ∙ long ∙ length-map a.slots.items entry_of ∙ sym a.slots.ok.0)) ∙ is

module _ (a : Inside) (page at : ℕ) (bytes : List ℕ) (far : page < 2 ^ 52) (fits : at + length bytes ≤ page_size) (small : AreBytes bytes) (h : IsInOrder a) where
  are_overwritten : (old : List ℕ) → AreBytes old → AreBytes (overwritten at bytes old)
  are_overwritten old h =
      all_join IsByte (take at old) (bytes ++ drop (length bytes) (drop at old)) (all_front IsByte old at h)
      (all_join IsByte bytes (drop (length bytes) (drop at old)) small (all_back IsByte (drop at old) (length bytes) (all_back IsByte old at h)))

  -- the order is kept
  pub order_written : AreInOrder a.limit (changed (page_with_bytes at bytes) page (entries_of a.slots.items))
  order_written = order_changed a.limit (page_with_bytes at bytes) page (entries_of a.slots.items) (λ p long old. (length_overwritten at bytes p.bytes (omega (arith, long, fits)) ∙ long, are_overwritten p.bytes old)) h

  -- and they stand for the memory with the bytes replaced
  pub written_is : record { pages = pages_of (changed (page_with_bytes at bytes) page (entries_of a.slots.items)); limit = a.limit } ≡ with_bytes (memory_of a) (page * page_size + at) bytes
  written_is =
      ap (λ (p : FinMap nat_cmp Page). record { pages = p; limit = a.limit }) (changed_is (page_with_bytes at bytes) (entries_of a.slots.items) page)
      ∙ sym (with_bytes_is bytes (memory_of a) page at (get (pages_of (entries_of a.slots.items)) page) far fits (λ p e. whole (entries_of a.slots.items) page p h.each e) refl)

  pub stored_back : (b : Bool) (new : List Slot) → entries_of new ≡ cond b (changed (page_with_bytes at bytes) page (entries_of a.slots.items)) (entries_of a.slots.items)
      → entries_of (with_items a.slots new).items ≡ cond b (changed (page_with_bytes at bytes) page (entries_of a.slots.items)) (entries_of a.slots.items)
  stored_back true new is = written_back a new _ is (length_changed (page_with_bytes at bytes) page (entries_of a.slots.items))
  stored_back false new is = written_back a new _ is refl

  pub order_stored : (b : Bool) → AreInOrder a.limit (cond b (changed (page_with_bytes at bytes) page (entries_of a.slots.items)) (entries_of a.slots.items))
  order_stored true = order_written
  order_stored false = h

  pub stored_is : (b : Bool) → record { pages = pages_of (cond b (changed (page_with_bytes at bytes) page (entries_of a.slots.items)) (entries_of a.slots.items)); limit = a.limit } ≡ cond b (with_bytes (memory_of a) (page * page_size + at) bytes) (memory_of a)
  stored_is true = written_is
  stored_is false = refl
