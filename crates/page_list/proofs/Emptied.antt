-- Slots whose frames are given back one after the other.
use Rattle.std.proofs.Common.{◌≡◌, ◌<◌, ◌≤◌, ◌+◌, ℕ, zero, suc, List, [], ◌∷◌, set, length, Option, Some, None, refl, ap, arith}
use Rattle.std.proofs.lemmas.List.Sums.{sum_by-cons, sum_by-set}
use Rattle.std.specs.List.{sum_by}
use Rattle.frame_arena.specs.Frames.{Frames, count_of}
use Rattle.page_list.specs.declared.slots.Slot.{Slot}
use Rattle.page_list.specs.Slots.{AreBeside, AreHeld, Changes, HasRoom, emptied_slot, frame_at, frame_of, given_if, has, holders, is_sole, no_slot, one, slot_at}
use Rattle.page_list.proofs.Held.{given_if-bytes, given_if-counts, given_if-spare, given_if-total, named_at, slot_there, sole-le}

-- ---- the frame of the slot at place i

module _ (a : Frames) (ss : List Slot) (i : ℕ) (l : i < length ss) where
  holders-emptied : (f : ℕ) → holders f (set ss i (emptied_slot (slot_at ss i))) + has f (frame_at ss i) ≡ holders f ss
  holders-emptied f = let all = sum_by-set (λ (t : Slot). has f (frame_of t)) ss i (emptied_slot (slot_at ss i)) no_slot l in omega (arith, all)

  pub fewer-emptied : (f : ℕ) → holders f (set ss i (emptied_slot (slot_at ss i))) ≤ holders f ss
  fewer-emptied f = let all = holders-emptied f in omega (arith, all)

  module _ (h : AreHeld a.live ss) where
    named_there : (f : ℕ) → frame_at ss i ≡ Some f → 1 ≤ count_of a.live f
    named_there f is = named_at a.live ss i (slot_at ss i) f h l (slot_there ss i l) is

    pub changes-emptied : Changes a (given_if a (frame_at ss i)) ss (set ss i (emptied_slot (slot_at ss i)))
    changes-emptied = record {
      counts = λ f. let all = holders-emptied f in let n = given_if-counts a (frame_at ss i) named_there f in omega (arith, all, n);
      bytes = λ f _ k. given_if-bytes a (frame_at ss i) named_there f k;
      total = given_if-total a (frame_at ss i);
    }

    pub room-emptied : (others : List Slot) → AreBeside a.live ss others → HasRoom a (given_if a (frame_at ss i)) ss (set ss i (emptied_slot (slot_at ss i))) others
    room-emptied others beside =
        let c = given_if a (frame_at ss i) in let zs = set ss i (emptied_slot (slot_at ss i)) in
        let kept : (f : ℕ) → 1 ≤ holders f zs + holders f others → count_of a.live f ≡ 1 → count_of c.live f ≡ 1 =
        λ f m e. let all = holders-emptied f in let n = given_if-counts a (frame_at ss i) named_there f in let k = beside f in omega (arith, all, n, k, m, e) in
        let left = sole-le a.live c.live zs (λ f m e. kept f (omega (arith, m)) e) in
        let right = sole-le a.live c.live others (λ f m e. kept f (omega (arith, m)) e) in
        let all = sum_by-set (λ (t : Slot). one (is_sole a.live (frame_of t))) ss i (emptied_slot (slot_at ss i)) no_slot l in let more = given_if-spare a (frame_at ss i) in
        omega (arith, left, right, all, more)

-- ---- the first i of them have no frame

pub bare_more : (ss : List Slot) (i : ℕ) → i < length ss → ((k : ℕ) → k < i → frame_at ss k ≡ None) → (k : ℕ) → k < i + 1 → frame_at (set ss i (emptied_slot (slot_at ss i))) k ≡ None
bare_more [] i l h k b = absurd (omega (arith, l))
bare_more (s ∷ ss) zero l h zero b = refl
bare_more (s ∷ ss) zero l h (suc k) b = absurd (omega (arith, b))
bare_more (s ∷ ss) (suc i) l h zero b = h 0 (omega arith)
bare_more (s ∷ ss) (suc i) l h (suc k) b = bare_more ss i (omega (arith, l)) (λ j m. h (suc j) (omega (arith, m))) k (omega (arith, b))

-- ---- none of them has a frame

bare_none : (n : Slot → ℕ) → ((s : Slot) → frame_of s ≡ None → n s ≡ 0) → (ss : List Slot) → ((k : ℕ) → k < length ss → frame_at ss k ≡ None) → sum_by n ss ≡ 0
bare_none n none [] h = refl
bare_none n none (s ∷ ss) h =
    let all = sum_by-cons n s ss in let here = none s (h 0 (omega arith)) in let rest = bare_none n none ss (λ k l. h (suc k) (omega (arith, l))) in omega (arith, all, here, rest)

module _ (a b : Frames) (xs ys : List Slot) (bare : (k : ℕ) → k < length ys → frame_at ys k ≡ None) where
  pub changes_bare : Changes a b xs ys → Changes a b xs []
  changes_bare p = record {
    counts = λ f. let n = p.counts f in let none = bare_none (λ (t : Slot). has f (frame_of t)) (λ s is. ap (has f) is) ys bare in omega (arith, n, none);
    bytes = p.bytes;
    total = p.total;
  }

  pub room_bare : (others : List Slot) → HasRoom a b xs ys others → HasRoom a b xs [] others
  room_bare others p = let none = bare_none (λ (t : Slot). one (is_sole b.live (frame_of t))) (λ s is. ap (λ (o : Option ℕ). one (is_sole b.live o)) is) ys bare in omega (arith, p, none)
