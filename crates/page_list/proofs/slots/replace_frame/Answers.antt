use Rattle.std.proofs.Common.{◌≡◌, ◌≤◌, ◌+◌, ℕ, List, Option, Some, None, IfSome, refl, ap, subst, ◌∙◌, sym, arith}
use Rattle.std.proofs.lemmas.List.{get_or_default}
use Rattle.emu_model.specs.Access.{page_size}
use Rattle.emu_model.specs.Pages.{zeros}
use Rattle.emu_model.specs.PageEquations.{zeros_is}
use Rattle.frame_arena.specs.Frames.{Frames, Live, IsLive, Takes, bytes_of, count_of, zeroed}
use Rattle.page_list.specs.declared.slots.Hold.TheVariants.{Own}
use Rattle.page_list.specs.declared.slots.Slot.{Slot}
use Rattle.page_list.specs.Bytes.{as_bytes}
use Rattle.page_list.specs.Slots.{AreAtHand, AreOwn, Changes, block_bytes, code_after, frame_of, bytes_in, entries_in, given_if, lines_after, no_slot, slot_at, sole_in}
use Rattle.page_list.proofs.Bytes.{as_bytes-zeros}
use Rattle.page_list.proofs.Codes.{hand_moved, hand_same, not_own}
use Rattle.page_list.proofs.Held.{slot_there, frame_is_held, named_at, sole_less, counts-own, own-own, room-own, entries-own, other_than, taken_spare, taken_sole, taken_counts, taken_bytes, taken_block, taken_room, taken_total, taken_live, still_named}
use Rattle.page_list.proofs.slots.replace_frame.Goals as goal

zeroed_is : as_bytes zeroed ≡ zeros page_size
unfolding zeroed
zeroed_is = ap as_bytes (sym (zeros_is page_size)) ∙ as_bytes-zeros page_size

block_is : (live : Live) (o : Option ℕ) → as_bytes (block_bytes live o) ≡ bytes_in live o
block_is live None = zeroed_is
block_is live (Some f) = refl

pub new_frame-frame-requires-clause-live : goal.new_frame-frame-requires-clause-live
new_frame-frame-requires-clause-live c = frame_is_held c.args.arena.now.live c.args.slots.now.items c.args.i c.index.result.now c.requires.held c.requires.place c.index.ensures

pub new_frame-frame-requires-clause-spare : goal.new_frame-frame-requires-clause-spare
new_frame-frame-requires-clause-spare c =
    let ss = c.args.slots.now.items in let i = c.args.i in let a = c.args.arena.now in let x = slot_at ss i in let l = c.requires.place in let at = slot_there ss i l in
    let less = sole_less a.live ss i x l at c.requires.shared in omega (arith, less, c.requires.room)

pub give_if-requires : goal.give_if-requires
give_if-requires c =
    let ss = c.args.slots.now.items in let i = c.args.i in let a = c.args.arena.now in let x = slot_at ss i in let l = c.requires.place in let at = slot_there ss i l in
    let k = c.new_frame-frame.result in let b = c.new_frame-frame.new.arena in let z = block_bytes a.live (frame_of x) in
    let same : c.index.result.now ≡ x = c.index.ensures ∙ get_or_default ss i c.index.result.now no_slot l in
    let t : Takes a k z b = subst (λ (s : Slot). Takes a k (block_bytes a.live (frame_of s)) b) same c.new_frame-frame.ensures in
    subst (λ (o : Option ℕ). IfSome o (λ f. IsLive b f)) (sym c.put_frame-old.ensures.frame)
    (taken_live a b k z t (frame_of x) (λ f is. named_at a.live ss i x f c.requires.held l at is))

pub returns-clause-entries : goal.returns-clause-entries
returns-clause-entries c =
    let ss = c.args.slots.now.items in let i = c.args.i in let a = c.args.arena.now in let x = slot_at ss i in let l = c.requires.place in let at = slot_there ss i l in
    let k = c.new_frame-frame.result in let b = c.new_frame-frame.new.arena in let z = block_bytes a.live (frame_of x) in
    let same : c.index.result.now ≡ x = c.index.ensures ∙ get_or_default ss i c.index.result.now no_slot l in
    let t : Takes a k z b = subst (λ (s : Slot). Takes a k (block_bytes a.live (frame_of s)) b) same c.new_frame-frame.ensures in
    let named : (f : ℕ) → frame_of x ≡ Some f → 1 ≤ count_of a.live f = λ f is. named_at a.live ss i x f c.requires.held l at is in
    let after : c.give_if.new.arena ≡ given_if b (frame_of x) = c.give_if.ensures ∙ ap (λ (o : Option ℕ). given_if b o) c.put_frame-old.ensures.frame in
    let slots = c.put_frame-old.ensures.slots in let live = (given_if b (frame_of x)).live in
    let spare = taken_spare a b k z t (frame_of x) named in let sole = taken_sole a b k z t (frame_of x) named in let counts = taken_counts a b k z t (frame_of x) named in let bytes = taken_bytes a b k z t (frame_of x) named in
    let block : as_bytes (bytes_of live k) ≡ bytes_in a.live (frame_of x) = ap as_bytes (taken_block a b k z t (frame_of x) named) ∙ block_is a.live (frame_of x) in
    (λ j. entries_in (after j).live (slots j))
    ∙ entries-own a.live live ss i x l at k spare sole counts bytes c.requires.shared c.requires.held block
    (λ f m. let ne = other_than a.live live ss i x l at k spare sole counts bytes c.requires.shared c.requires.held f m in bytes f ne (still_named a b k z t (frame_of x) named c.requires.shared f ne (let h = c.requires.held f in omega (arith, h, m))))

pub returns-clause-changes : goal.returns-clause-changes
returns-clause-changes c =
    let ss = c.args.slots.now.items in let i = c.args.i in let a = c.args.arena.now in let x = slot_at ss i in let l = c.requires.place in let at = slot_there ss i l in
    let k = c.new_frame-frame.result in let b = c.new_frame-frame.new.arena in let z = block_bytes a.live (frame_of x) in
    let same : c.index.result.now ≡ x = c.index.ensures ∙ get_or_default ss i c.index.result.now no_slot l in
    let t : Takes a k z b = subst (λ (s : Slot). Takes a k (block_bytes a.live (frame_of s)) b) same c.new_frame-frame.ensures in
    let named : (f : ℕ) → frame_of x ≡ Some f → 1 ≤ count_of a.live f = λ f is. named_at a.live ss i x f c.requires.held l at is in
    let after : c.give_if.new.arena ≡ given_if b (frame_of x) = c.give_if.ensures ∙ ap (λ (o : Option ℕ). given_if b o) c.put_frame-old.ensures.frame in
    let slots = c.put_frame-old.ensures.slots in let live = (given_if b (frame_of x)).live in
    let spare = taken_spare a b k z t (frame_of x) named in let sole = taken_sole a b k z t (frame_of x) named in let counts = taken_counts a b k z t (frame_of x) named in let bytes = taken_bytes a b k z t (frame_of x) named in
    let s : Slot = record { number = x.number; rights = x.rights; hold = Own k } in
    subst (λ (d : Frames). Changes a d ss c.put_frame-old.new.slots.items) (sym after)
    (subst (λ (n : List Slot). Changes a (given_if b (frame_of x)) ss n) (sym slots)
    (record {
      counts = counts-own a.live live ss i x l at k spare sole counts bytes c.requires.shared c.requires.held;
      bytes = λ f m n. bytes f (λ e. let none = ap (count_of a.live) e ∙ spare in omega (arith, none, m)) n;
      total = taken_total a b k z t (frame_of x) named;
    }))

pub returns-clause-own : goal.returns-clause-own
returns-clause-own c =
    let ss = c.args.slots.now.items in let i = c.args.i in let a = c.args.arena.now in let x = slot_at ss i in let l = c.requires.place in let at = slot_there ss i l in
    let k = c.new_frame-frame.result in let b = c.new_frame-frame.new.arena in let z = block_bytes a.live (frame_of x) in
    let same : c.index.result.now ≡ x = c.index.ensures ∙ get_or_default ss i c.index.result.now no_slot l in
    let t : Takes a k z b = subst (λ (s : Slot). Takes a k (block_bytes a.live (frame_of s)) b) same c.new_frame-frame.ensures in
    let named : (f : ℕ) → frame_of x ≡ Some f → 1 ≤ count_of a.live f = λ f is. named_at a.live ss i x f c.requires.held l at is in
    let after : c.give_if.new.arena ≡ given_if b (frame_of x) = c.give_if.ensures ∙ ap (λ (o : Option ℕ). given_if b o) c.put_frame-old.ensures.frame in
    let slots = c.put_frame-old.ensures.slots in let live = (given_if b (frame_of x)).live in
    let spare = taken_spare a b k z t (frame_of x) named in let sole = taken_sole a b k z t (frame_of x) named in let counts = taken_counts a b k z t (frame_of x) named in let bytes = taken_bytes a b k z t (frame_of x) named in
    subst (λ (d : Frames). AreOwn d.live c.put_frame-old.new.slots.items) (sym after)
    (subst (λ (n : List Slot). AreOwn live n) (sym slots) (own-own a.live live ss i x l at k spare sole counts bytes c.requires.shared c.requires.held c.requires.own))

pub returns-clause-room : goal.returns-clause-room
returns-clause-room c =
    let ss = c.args.slots.now.items in let i = c.args.i in let a = c.args.arena.now in let x = slot_at ss i in let l = c.requires.place in let at = slot_there ss i l in
    let k = c.new_frame-frame.result in let b = c.new_frame-frame.new.arena in let z = block_bytes a.live (frame_of x) in
    let same : c.index.result.now ≡ x = c.index.ensures ∙ get_or_default ss i c.index.result.now no_slot l in
    let t : Takes a k z b = subst (λ (s : Slot). Takes a k (block_bytes a.live (frame_of s)) b) same c.new_frame-frame.ensures in
    let named : (f : ℕ) → frame_of x ≡ Some f → 1 ≤ count_of a.live f = λ f is. named_at a.live ss i x f c.requires.held l at is in
    let after : c.give_if.new.arena ≡ given_if b (frame_of x) = c.give_if.ensures ∙ ap (λ (o : Option ℕ). given_if b o) c.put_frame-old.ensures.frame in
    let slots = c.put_frame-old.ensures.slots in let live = (given_if b (frame_of x)).live in
    let spare = taken_spare a b k z t (frame_of x) named in let sole = taken_sole a b k z t (frame_of x) named in let counts = taken_counts a b k z t (frame_of x) named in let bytes = taken_bytes a b k z t (frame_of x) named in
    let room = room-own a.live live ss i x l at k spare sole counts bytes c.requires.shared c.requires.held in
    let left = taken_room a b k z t (frame_of x) named in
    subst (λ (d : Frames). a.spare + sole_in a.live ss ≤ d.spare + sole_in d.live c.put_frame-old.new.slots.items) (sym after)
    (subst (λ (n : List Slot). a.spare + sole_in a.live ss ≤ (given_if b (frame_of x)).spare + sole_in live n) (sym slots) (omega (arith, room, left)))

pub returns-clause-hand : goal.returns-clause-hand
returns-clause-hand c =
    let e = c.turn.ensures in hand_same c.args.hand.now c.turn.new.self c.index-2.result.now c.args.i c.new_frame-frame.result e.code e.reads e.writes

pub returns-clause-at_hand : goal.returns-clause-at_hand
returns-clause-at_hand c = λ is.
    let ss = c.args.slots.now.items in let i = c.args.i in let k = c.new_frame-frame.result in let h = c.args.hand.now in let e = c.turn.ensures in
    let same : c.index-2.result.now ≡ slot_at ss i = c.index-2.ensures ∙ get_or_default ss i c.index-2.result.now no_slot c.requires.place in
    subst (λ (l : List Slot). AreAtHand l c.turn.new.self) (sym c.put_frame-old.ensures.slots)
    (hand_moved ss i k c.requires.place (not_own c.args.arena.now.live ss i c.requires.place c.requires.own c.requires.shared) h c.turn.new.self
    (e.code ∙ ap (λ (s : Slot). code_after h.code s k) same) (e.reads ∙ ap (λ (s : Slot). lines_after h.reads.value s.number i k) same) e.writes e.frames e.bare is)
