-- The frames that slots hold, and what a change of the arena or of the slots does to the entries.
use Rattle.std.proofs.Common.{◌≡◌, ◌<◌, ◌≤◌, ◌+◌, ◌==◌, ℕ, zero, suc, Bool, true, false, cond, not, ◌&&◌, List, [], ◌∷◌, ◌++◌, set, take, drop, length, get_or, Option, Some, None, IfSome, refl, sym, ap, ◌∙◌, subst, arith}
use Rattle.std.proofs.Math.Seq.{map-set_same}
use Rattle.std.proofs.lemmas.Bool.{eqb-true, eqb-false, eq-eqb, ne_eqb, false≢true}
use Rattle.std.proofs.lemmas.List.{map-append, get_or_default}
use Rattle.std.proofs.lemmas.List.Sums.{sum_by-cons, sum_by-append, sum_by_push, sum_by-set, sum_by-take-drop, sum_by-take-le, get_or-le-sum_by}
use Rattle.std.specs.List.{sum_by}
use Rattle.std.specs.Ordering.{nat_cmp}
use Rattle.std.specs.FinMap.{empty, insert, contains_key, get-empty}
use Rattle.emu_model.specs.Access.{Page}
use Rattle.emu_model.specs.Pages.{zeroed_page}
use Rattle.emu_model.specs.declared.access.Rights.{Rights}
use Rattle.frame_arena.proofs.Callers.{by_bool, count-insert_same, count-insert_other, bytes-insert_same, bytes-insert_other, count-given_same, count-given_other, bytes-given_same, bytes-given_other, spare-given, spare-given_last, total-given, named_live, none_named}
use Rattle.frame_arena.specs.Frames.{Frames, Block, Live, Takes, bytes_of, count_of}
use Rattle.page_list.specs.declared.slots.Slot.{Slot}
use Rattle.page_list.specs.declared.slots.Hold.{Hold}
use Rattle.page_list.specs.declared.slots.Hold.TheVariants.{Bare, Own, Shared}
use Rattle.page_list.specs.declared.slots.Mark.{Mark}
use Rattle.page_list.specs.Bytes.{as_bytes}
use Rattle.page_list.specs.Entries.{changed_at, entry_at, zeroed_entries}
use Rattle.page_list.specs.Slots.{bytes_in, frame_of, hold_frame, hold_own, is_own, owned_hold, owned_slot, entry_in, entries_in, one, has, is_frame, holders, is_sole, sole_in, wrong_in, no_slot, zeroed_slots, AreBeside, AreHeld, AreOwn, Changes, HasRoom, given_if, marks_in, marked}

-- ---- counts

pub first : (f : ℕ) (s : Slot) (ss : List Slot) → holders f (s ∷ ss) ≡ has f (frame_of s) + holders f ss
first f s ss = sum_by-cons (λ (t : Slot). has f (frame_of t)) s ss

pub holders-append : (f : ℕ) (xs ys : List Slot) → holders f (xs ++ ys) ≡ holders f xs + holders f ys
holders-append f xs ys = sum_by-append (λ (t : Slot). has f (frame_of t)) xs ys

pub holders_push : (f : ℕ) (ss : List Slot) (s : Slot) → holders f (ss ++ s ∷ []) ≡ holders f ss + has f (frame_of s)
holders_push f ss s = sum_by_push (λ (t : Slot). has f (frame_of t)) ss s

pub holders-take : (f : ℕ) (ss : List Slot) (n : ℕ) → holders f (take n ss) ≤ holders f ss
holders-take f ss n = sum_by-take-le (λ (t : Slot). has f (frame_of t)) ss n

pub has_it : (f : ℕ) (o : Option ℕ) → o ≡ Some f → has f o ≡ 1
has_it f o e = ap (λ p. has f p) e ∙ ap one (eq-eqb f f refl)

pub has_not : (f : ℕ) (o : Option ℕ) → (o ≡ Some f → ⊥) → has f o ≡ 0
has_not f None ne = refl
has_not f (Some g) ne = ap one (ne_eqb f g (λ e. ne (ap Some (sym e))))

pub is_frame_of : (f : ℕ) (o : Option ℕ) → is_frame f o ≡ true → o ≡ Some f
is_frame_of f None t = absurd (false≢true t)
is_frame_of f (Some g) t = ap Some (sym (eqb-true f g t))

pub holds_at : (ss : List Slot) (i : ℕ) (d : Slot) (f : ℕ) → i < length ss → (frame_of (get_or ss i d)) ≡ Some f → 1 ≤ holders f ss
holds_at ss i d f l is = let e = get_or-le-sum_by (λ (t : Slot). has f (frame_of t)) ss i d l in let h = has_it f (frame_of (get_or ss i d)) is in omega (arith, e, h)

pub one_most : (b : Bool) → one b ≤ 1
one_most true = omega arith
one_most false = omega arith

-- a slot's frame is in use
pub named_at : (live : Live) (ss : List Slot) (i : ℕ) (x : Slot) (f : ℕ) → AreHeld live ss → i < length ss → x ≡ get_or ss i x → frame_of x ≡ Some f → 1 ≤ count_of live f
named_at live ss i x f h l at is = let m = holds_at ss i x f l (sym (ap (λ (s : Slot). frame_of s) at) ∙ is) in let k = h f in omega (arith, m, k)

pub held_live : (live : Live) (ss : List Slot) (i : ℕ) (x : Slot) (f : ℕ) → AreHeld live ss → i < length ss → x ≡ get_or ss i x → frame_of x ≡ Some f → contains_key live f ≡ true
held_live live ss i x f h l at is = named_live live f (named_at live ss i x f h l at is)

frame_held : (live : Live) (o : Option ℕ) → ((f : ℕ) → o ≡ Some f → contains_key live f ≡ true) → IfSome o (λ f. contains_key live f ≡ true)
frame_held live None h = tt
frame_held live (Some f) h = h f refl

pub frame_is_held : (live : Live) (ss : List Slot) (i : ℕ) (x : Slot) → AreHeld live ss → i < length ss → x ≡ get_or ss i x → IfSome (frame_of x) (λ f. contains_key live f ≡ true)
frame_is_held live ss i x h l at = frame_held live (frame_of x) (λ f is. held_live live ss i x f h l at is)

-- the slot at place i, as a read of it has it
pub slot_there : (ss : List Slot) (i : ℕ) → i < length ss → get_or ss i no_slot ≡ get_or ss i (get_or ss i no_slot)
slot_there ss i l = get_or_default ss i no_slot (get_or ss i no_slot) l

-- a sum over slots is no more than another if no slot's is, where each frame of a slot is held
sum_held-le : (n m : Slot → ℕ) (ss : List Slot) → ((s : Slot) → ((f : ℕ) → frame_of s ≡ Some f → 1 ≤ holders f ss) → n s ≤ m s) → sum_by n ss ≤ sum_by m ss
sum_held-le n m [] h = omega arith
sum_held-le n m (s ∷ ss) h =
    let a = sum_by-cons n s ss in let b = sum_by-cons m s ss in
    let here = h s (λ f is. let e = first f s ss in let k = has_it f (frame_of s) is in omega (arith, e, k)) in
    let rest = sum_held-le n m ss (λ t g. h t (λ f is. let e = first f s ss in let k = g f is in omega (arith, e, k))) in
    omega (arith, a, b, here, rest)

pub empty-counts : (f : ℕ) → count_of empty f ≡ 0
empty-counts f = none_named empty f (get-empty nat_cmp f)

-- ---- entries

-- the bytes of a page, where its block isn't changed
same_bytes : (live after : Live) (o : Option ℕ) → ((f : ℕ) → o ≡ Some f → bytes_of after f ≡ bytes_of live f) → bytes_in after o ≡ bytes_in live o
same_bytes live after None h = refl
same_bytes live after (Some f) h = ap as_bytes (h f refl)

-- blocks that no slot holds may change
pub unchanged : (live after : Live) (ss : List Slot) → ((f : ℕ) → 1 ≤ holders f ss → bytes_of after f ≡ bytes_of live f) → entries_in after ss ≡ entries_in live ss
unchanged live after [] h = refl
unchanged live after (s ∷ ss) h =
    let here = same_bytes live after (frame_of s) (λ f is. h f (let e = first f s ss in let k = has_it f (frame_of s) is in omega (arith, e, k))) in
    let rest = unchanged live after ss (λ f l. h f (let e = first f s ss in omega (arith, e, l))) in
    λ i. (s.number, record { rights = s.rights; bytes = here i }) ∷ rest i

pub marks_unchanged : (live after : Live) (ms : List Mark) → ((f : ℕ) → 1 ≤ marked f ms → bytes_of after f ≡ bytes_of live f) → marks_in after ms ≡ marks_in live ms
marks_unchanged live after [] h = refl
marks_unchanged live after (m ∷ ms) h =
    let all = λ (f : ℕ). sum_by-cons (λ (n : Mark). holders f n.slots.items) m ms in
    let here = unchanged live after m.slots.items (λ f l. h f (let e = all f in omega (arith, e, l))) in
    let rest = marks_unchanged live after ms (λ f l. h f (let e = all f in omega (arith, e, l))) in
    λ i. cond m.set (Some (here i)) None ∷ rest i

pub entry_is : (live : Live) (ss : List Slot) (i : ℕ) (x : Slot) → i < length ss → x ≡ get_or ss i x → entry_at (entries_in live ss) i ≡ entry_in live x
entry_is live [] i x l at = absurd (omega (arith, l))
entry_is live (s ∷ ss) zero x l at = ap (entry_in live) (sym at)
entry_is live (s ∷ ss) (suc i) x l at = entry_is live ss i x (omega (arith, l)) at

module _ (live after : Live) (k : ℕ) (other : (f : ℕ) → (f ≡ k → ⊥) → bytes_of after f ≡ bytes_of live f) (g : Page → Page) where
  -- the page at place i, in the block k, is changed
  pub written : (ss : List Slot) (i : ℕ) (x : Slot) → i < length ss → x ≡ get_or ss i x → frame_of x ≡ Some k → holders k ss ≤ 1 → (entry_in after x).1 ≡ g (entry_in live x).1 → entries_in after ss ≡ changed_at g i (entries_in live ss)
  written [] i x l at e most is = absurd (omega (arith, l))
  written (s ∷ ss) zero x l at e most is =
      let one_here = has_it k (frame_of s) (sym (ap (λ (t : Slot). frame_of t) at) ∙ e) in let all = first k s ss in
      let rest = unchanged live after ss (λ f m. other f (λ same. let no : 1 ≤ holders k ss = subst (λ n. 1 ≤ holders n ss) same m in omega (arith, no, one_here, all, most))) in
      let head : (entry_in after s).1 ≡ g (entry_in live s).1 = subst (λ (t : Slot). (entry_in after t).1 ≡ g (entry_in live t).1) at is in
      λ j. (s.number, head j) ∷ rest j
  written (s ∷ ss) (suc i) x l at e most is =
      let some = holds_at ss i x k (omega (arith, l)) (sym (ap (λ (t : Slot). frame_of t) at) ∙ e) in let all = first k s ss in
      let here = same_bytes live after (frame_of s) (λ f mine. other f (λ same. let two = has_it k (frame_of s) (mine ∙ ap Some same) in omega (arith, two, some, all, most))) in
      let rest = written ss i x (omega (arith, l)) at e (omega (arith, all, most)) is in
      λ j. (s.number, record { rights = s.rights; bytes = here j }) ∷ rest j

-- ---- blocks that one slot names

sole-mono : (live after : Live) (o : Option ℕ) → ((f : ℕ) → o ≡ Some f → count_of live f ≡ 1 → count_of after f ≡ 1) → one (is_sole live o) ≤ one (is_sole after o)
sole-mono live after None h = omega arith
sole-mono live after (Some f) h =
    by_bool (count_of live f == 1)
    (λ t. let a = ap one (eq-eqb (count_of after f) 1 (h f refl (eqb-true (count_of live f) 1 t))) in let b = one_most (count_of live f == 1) in omega (arith, a, b))
    (λ t. let a = ap one t in omega (arith, a))

wrong-mono : (own p q : Bool) → one p ≤ one q → one (own && not q) ≤ one (own && not p)
wrong-mono false p q l = omega arith
wrong-mono true true true l = omega arith
wrong-mono true true false l = absurd (omega (arith, l))
wrong-mono true false true l = omega arith
wrong-mono true false false l = omega arith

module _ (live after : Live) (ss : List Slot) (kept : (f : ℕ) → 1 ≤ holders f ss → count_of live f ≡ 1 → count_of after f ≡ 1) where
  pub sole-le : sole_in live ss ≤ sole_in after ss
  sole-le = sum_held-le (λ (s : Slot). one (is_sole live (frame_of s))) (λ (s : Slot). one (is_sole after (frame_of s))) ss (λ s h. sole-mono live after (frame_of s) (λ f is. kept f (h f is)))

  pub wrong-le : wrong_in after ss ≤ wrong_in live ss
  wrong-le =
      sum_held-le (λ (s : Slot). one (is_own s && not (is_sole after (frame_of s)))) (λ (s : Slot). one (is_own s && not (is_sole live (frame_of s)))) ss
      (λ s h. wrong-mono (is_own s) (is_sole live (frame_of s)) (is_sole after (frame_of s)) (sole-mono live after (frame_of s) (λ f is. kept f (h f is))))

pub sole_most : (live : Live) (ss : List Slot) → sole_in live ss ≤ length ss
sole_most live [] = omega arith
sole_most live (s ∷ ss) = let a = sum_by-cons (λ (t : Slot). one (is_sole live (frame_of t))) s ss in let b = one_most (is_sole live (frame_of s)) in let c = sole_most live ss in omega (arith, a, b, c)

-- a slot whose block isn't its own leaves less than all
pub sole_less : (live : Live) (ss : List Slot) (i : ℕ) (x : Slot) → i < length ss → x ≡ get_or ss i x → is_sole live (frame_of x) ≡ false → sole_in live ss + 1 ≤ length ss
sole_less live [] i x l at not_sole = absurd (omega (arith, l))
sole_less live (s ∷ ss) zero x l at not_sole =
    let a = sum_by-cons (λ (t : Slot). one (is_sole live (frame_of t))) s ss in let b = ap (λ (t : Slot). one (is_sole live (frame_of t))) (sym at) ∙ ap one not_sole in
    let c = sole_most live ss in omega (arith, a, b, c)
sole_less live (s ∷ ss) (suc i) x l at not_sole =
    let a = sum_by-cons (λ (t : Slot). one (is_sole live (frame_of t))) s ss in let b = one_most (is_sole live (frame_of s)) in
    let c = sole_less live ss i x (omega (arith, l)) at not_sole in omega (arith, a, b, c)

-- a block that one slot names is written
module _ (live : Live) (k : ℕ) (z : List ℕ) (sole : count_of live k ≡ 1) where
  abbrev pub after_write : Live
  after_write = insert live k (record { bytes = z; count = 1 })

  pub counts-written : (f : ℕ) → count_of after_write f ≡ count_of live f
  counts-written f =
      by_bool (f == k)
      (λ t. let e = eqb-true f k t in ap (count_of after_write) e ∙ count-insert_same live k (record { bytes = z; count = 1 }) ∙ sym sole ∙ ap (count_of live) (sym e))
      (λ t. count-insert_other live k (record { bytes = z; count = 1 }) f (eqb-false f k t))

  pub bytes-written : (f : ℕ) → (f ≡ k → ⊥) → bytes_of after_write f ≡ bytes_of live f
  bytes-written f ne = bytes-insert_other live k (record { bytes = z; count = 1 }) f ne

  pub bytes-written_same : bytes_of after_write k ≡ z
  bytes-written_same = bytes-insert_same live k (record { bytes = z; count = 1 })

  pub sole-written : (ss : List Slot) → sole_in live ss ≤ sole_in after_write ss
  sole-written ss = sole-le live after_write ss (λ f _ e. counts-written f ∙ e)

  pub own-written : (ss : List Slot) → AreOwn live ss → AreOwn after_write ss
  own-written ss h = let l = wrong-le live after_write ss (λ f _ e. counts-written f ∙ e) in omega (arith, l, h)

-- ---- a frame is given back, where there is one

module _ (a : Frames) where
  pub given_if-counts : (o : Option ℕ) → ((f : ℕ) → o ≡ Some f → 1 ≤ count_of a.live f) → (f : ℕ) → count_of (given_if a o).live f + has f o ≡ count_of a.live f
  given_if-counts None h f = omega arith
  given_if-counts (Some g) h f =
      by_bool (f == g)
      (λ t. let e = eqb-true f g t in let n = ap (count_of (given_if a (Some g)).live) e ∙ count-given_same a g in let m = ap (count_of a.live) e in let l = h g refl in let k = ap one t in omega (arith, n, m, l, k))
      (λ t. let n = count-given_other a g f (eqb-false f g t) in let k = ap one t in omega (arith, n, k))

  pub given_if-bytes : (o : Option ℕ) → ((f : ℕ) → o ≡ Some f → 1 ≤ count_of a.live f) → (f : ℕ) → 1 ≤ count_of (given_if a o).live f → bytes_of (given_if a o).live f ≡ bytes_of a.live f
  given_if-bytes None h f l = refl
  given_if-bytes (Some g) h f l =
      by_bool (f == g)
      (λ t.
      let e = eqb-true f g t in let n = ap (count_of (given_if a (Some g)).live) e ∙ count-given_same a g in
      ap (bytes_of (given_if a (Some g)).live) e ∙ bytes-given_same a g (omega (arith, n, l)) ∙ sym (ap (bytes_of a.live) e))
      (λ t. bytes-given_other a g f (eqb-false f g t))

  pub given_if-spare : (o : Option ℕ) → (given_if a o).spare ≡ a.spare + one (is_sole a.live o)
  given_if-spare None = omega arith
  given_if-spare (Some g) =
      by_bool (count_of a.live g == 1)
      (λ t. let n = spare-given_last a g (eqb-true (count_of a.live g) 1 t) in let k = ap one t in omega (arith, n, k))
      (λ t. let n = spare-given a g (eqb-false (count_of a.live g) 1 t) in let k = ap one t in omega (arith, n, k))

  pub given_if-total : (o : Option ℕ) → (given_if a o).total ≡ a.total
  given_if-total None = refl
  given_if-total (Some g) = total-given a g

-- ---- the last slot is taken away

module _ (a : Frames) (ss : List Slot) (s : Slot) (h : AreHeld a.live (ss ++ s ∷ [])) where
  last_named : (f : ℕ) → frame_of s ≡ Some f → 1 ≤ count_of a.live f
  last_named f is = let all = holders_push f ss s in let last = has_it f (frame_of s) is in let k = h f in omega (arith, all, last, k)

  pub last_live : IfSome (frame_of s) (λ f. contains_key a.live f ≡ true)
  last_live = frame_held a.live (frame_of s) (λ f is. named_live a.live f (last_named f is))

  pub changes-popped : Changes a (given_if a (frame_of s)) (ss ++ s ∷ []) ss
  changes-popped = record {
    counts = λ f. let all = holders_push f ss s in let n = given_if-counts a (frame_of s) last_named f in omega (arith, all, n);
    bytes = λ f _ l. given_if-bytes a (frame_of s) last_named f l;
    total = given_if-total a (frame_of s);
  }

  pub room-popped : (others : List Slot) → AreBeside a.live (ss ++ s ∷ []) others → HasRoom a (given_if a (frame_of s)) (ss ++ s ∷ []) ss others
  room-popped others beside =
      let c = given_if a (frame_of s) in
      let kept : (f : ℕ) → 1 ≤ holders f ss + holders f others → count_of a.live f ≡ 1 → count_of c.live f ≡ 1 =
      λ f m e. let all = holders_push f ss s in let n = given_if-counts a (frame_of s) last_named f in let k = beside f in omega (arith, all, n, k, m, e) in
      let left = sole-le a.live c.live ss (λ f m e. kept f (omega (arith, m)) e) in
      let right = sole-le a.live c.live others (λ f m e. kept f (omega (arith, m)) e) in
      let all = sum_by_push (λ (t : Slot). one (is_sole a.live (frame_of t))) ss s in let more = given_if-spare a (frame_of s) in
      omega (arith, left, right, all, more)

-- one change after another, where no slot comes in the second
pub changes_then : (a b c : Frames) (xs ys zs : List Slot) → ((f : ℕ) → holders f zs ≤ holders f ys) → Changes a b xs ys → Changes b c ys zs → Changes a c xs zs
changes_then a b c xs ys zs fewer p q = record {
  counts = λ f. let m = p.counts f in let n = q.counts f in omega (arith, m, n);
  bytes = λ f k l. let n = q.counts f in let e = fewer f in let some : 1 ≤ count_of b.live f = omega (arith, n, e, l) in q.bytes f some l ∙ p.bytes f k some;
  total = q.total ∙ p.total;
}

pub changes_none : (a : Frames) (xs : List Slot) → Changes a a xs xs
changes_none a xs = record { counts = λ f. refl; bytes = λ f _ _. refl; total = refl }

pub room_then : (a b c : Frames) (xs ys zs others : List Slot) → HasRoom a b xs ys others → HasRoom b c ys zs others → HasRoom a c xs zs others
room_then a b c xs ys zs others p q = omega (arith, p, q)

-- the entries of slots that stand beside those that change, and of marks
pub marks_beside : (a b : Frames) (xs ys : List Slot) (ms : List Mark) → ((f : ℕ) → count_of a.live f ≡ holders f xs + marked f ms) → Changes a b xs ys → marks_in b.live ms ≡ marks_in a.live ms
marks_beside a b xs ys ms all p =
    marks_unchanged a.live b.live ms (λ f m. let n = all f in let k = p.counts f in p.bytes f (omega (arith, n, m)) (omega (arith, n, k, m)))

-- the count of each block once slots and blocks changed
pub counts_after : (a b : Frames) (xs ys : List Slot) (ms : List Mark) → ((f : ℕ) → count_of a.live f ≡ holders f xs + marked f ms) → Changes a b xs ys → (f : ℕ) → count_of b.live f ≡ holders f ys + marked f ms
counts_after a b xs ys ms all p f = let n = all f in let k = p.counts f in omega (arith, n, k)

-- slots that stay where others go
module _ (a b : Frames) (xs ys : List Slot) (fewer : (f : ℕ) → holders f ys ≤ holders f xs) (held : AreHeld a.live xs) (p : Changes a b xs ys) where
  -- a block that one of them alone names stays so
  sole_left : (f : ℕ) → 1 ≤ holders f ys → count_of a.live f ≡ 1 → count_of b.live f ≡ 1
  sole_left f m e = let n = p.counts f in let h = held f in let l = fewer f in omega (arith, n, h, l, m, e)

  pub own-changed : ys ≡ take (length ys) xs → AreOwn a.live xs → AreOwn b.live ys
  own-changed e h =
      let l = wrong-le a.live b.live ys sole_left in
      let m : wrong_in a.live ys ≤ wrong_in a.live xs = subst (λ (l : List Slot). wrong_in a.live l ≤ wrong_in a.live xs) (sym e) (sum_by-take-le (λ (s : Slot). one (is_own s && not (is_sole a.live (frame_of s)))) xs (length ys)) in
      omega (arith, l, m, h)

  pub entries-changed : entries_in b.live ys ≡ entries_in a.live ys
  entries-changed =
      unchanged a.live b.live ys (λ f m. let n = p.counts f in let h = held f in let l = fewer f in p.bytes f (omega (arith, h, l, m)) (omega (arith, n, h, l, m)))

-- slots that stand beside those that all go
module _ (a b : Frames) (xs others : List Slot) (beside : (f : ℕ) → holders f xs + holders f others ≤ count_of a.live f) (p : Changes a b xs []) where
  pub own-beside : AreOwn a.live others → AreOwn b.live others
  own-beside h = let l = wrong-le a.live b.live others (λ f m e. let n = p.counts f in let k = beside f in omega (arith, n, k, m, e)) in omega (arith, l, h)

-- ---- a block that was spare in the place of a slot's

module _ (live after : Live) (ss : List Slot) (i : ℕ) (x : Slot) (l : i < length ss) (at : x ≡ get_or ss i x) (k : ℕ) (spare : count_of live k ≡ 0) (sole_now : count_of after k ≡ 1)
    (counts : (f : ℕ) → (f ≡ k → ⊥) → count_of after f + has f (frame_of x) ≡ count_of live f) (bytes : (f : ℕ) → (f ≡ k → ⊥) → 1 ≤ count_of after f → bytes_of after f ≡ bytes_of live f) (shared : is_sole live (frame_of x) ≡ false) (held : AreHeld live ss) where
  abbrev pub with_own : Slot
  with_own = record { number = x.number; rights = x.rights; hold = Own k }

  other : (f : ℕ) → 1 ≤ holders f ss → f ≡ k → ⊥
  other f m e = let h = held k in let n : 1 ≤ holders k ss = subst (λ g. 1 ≤ holders g ss) e m in omega (arith, h, n, spare)

  x_held : (f : ℕ) → frame_of x ≡ Some f → 1 ≤ holders f ss
  x_held f is = holds_at ss i x f l (sym (ap (λ (s : Slot). frame_of s) at) ∙ is)

  x_there : (f : ℕ) → has f (frame_of (get_or ss i x)) ≡ has f (frame_of x)
  x_there f = ap (λ (t : Slot). has f (frame_of t)) (sym at)

  pub counts-own : (f : ℕ) → count_of after f + holders f ss ≡ count_of live f + holders f (set ss i with_own)
  counts-own f =
      let all = sum_by-set (λ (t : Slot). has f (frame_of t)) ss i with_own x l in let e = x_there f in
      by_bool (f == k)
      (λ t.
      let same = eqb-true f k t in let here = ap one t in let h = held f in
      let none = ap (count_of live) same ∙ spare in let now = ap (count_of after) same ∙ sole_now in
      let no = has_not f (frame_of x) (λ is. other f (x_held f is) same) in
      omega (arith, all, e, here, h, none, now, no))
      (λ t. let n = counts f (eqb-false f k t) in let here = ap one t in omega (arith, all, e, n, here))

  sole_stays : (f : ℕ) → 1 ≤ holders f ss → count_of live f ≡ 1 → count_of after f ≡ 1
  sole_stays f m e =
      let n = counts f (other f m) in
      let no = has_not f (frame_of x) (λ is. false≢true (sym shared ∙ ap (is_sole live) is ∙ eq-eqb (count_of live f) 1 e)) in
      omega (arith, n, no, e)

  sole_is : is_sole after (Some k) ≡ true
  sole_is = eq-eqb (count_of after k) 1 sole_now

  pub own-own : AreOwn live ss → AreOwn after (set ss i with_own)
  own-own h =
      let all = sum_by-set (λ (t : Slot). one (is_own t && not (is_sole after (frame_of t)))) ss i with_own x l in
      let less = wrong-le live after ss sole_stays in let here = ap (λ b. one (not b)) sole_is in
      omega (arith, all, less, here, h)

  pub room-own : sole_in live ss + 1 ≤ sole_in after (set ss i with_own)
  room-own =
      let bare : Slot = record { number = x.number; rights = x.rights; hold = Bare } in let rest = set ss i bare in
      let a = sum_by-set (λ (t : Slot). one (is_sole live (frame_of t))) ss i bare x l in
      let b = sum_by-set (λ (t : Slot). one (is_sole after (frame_of t))) ss i bare x l in
      let c = sum_by-set (λ (t : Slot). one (is_sole after (frame_of t))) ss i with_own x l in
      let no = ap (λ (t : Slot). one (is_sole live (frame_of t))) (sym at) ∙ ap one shared in
      let less = sole-le live after rest (λ f m e. sole_stays f (let d = sum_by-set (λ (t : Slot). has f (frame_of t)) ss i bare x l in omega (arith, d, m)) e) in
      let here = ap one sole_is in
      omega (arith, a, b, c, no, less, here)

  pub entries-own : as_bytes (bytes_of after k) ≡ bytes_in live (frame_of x) → ((f : ℕ) → 1 ≤ holders f ss → bytes_of after f ≡ bytes_of live f) → entries_in after (set ss i with_own) ≡ entries_in live ss
  entries-own is same =
      let bytes : bytes_in after (Some k) ≡ bytes_in after (frame_of x) = is ∙ sym (same_bytes live after (frame_of x) (λ f e. same f (x_held f e))) in
      let entry : entry_in after with_own ≡ entry_in after (get_or ss i x) = ap (λ b. (x.number, record { rights = x.rights; bytes = b })) bytes ∙ ap (entry_in after) at in
      map-set_same (entry_in after) ss i with_own x entry ∙ unchanged live after ss same

  pub other_than : (f : ℕ) → 1 ≤ holders f ss → f ≡ k → ⊥
  other_than = other

-- a spare block is taken, and a frame is given back where there is one
module _ (a b : Frames) (k : ℕ) (z : List ℕ) (t : Takes a k z b) (o : Option ℕ) (named : (f : ℕ) → o ≡ Some f → 1 ≤ count_of a.live f) where
  abbrev taken : Block
  taken = record { bytes = z; count = 1 }

  pub taken_spare : count_of a.live k ≡ 0
  taken_spare = none_named a.live k t.0

  named_after : (f : ℕ) → o ≡ Some f → 1 ≤ count_of b.live f
  named_after f e =
      let m = named f e in
      let n = ap (λ (x : Live). count_of x f) t.2 ∙ count-insert_other a.live k taken f (λ same. let z = ap (count_of a.live) same ∙ taken_spare in omega (arith, m, z)) in
      omega (arith, m, n)

  pub taken_live : IfSome o (λ f. contains_key b.live f ≡ true)
  taken_live = frame_held b.live o (λ f e. named_live b.live f (named_after f e))

  pub taken_sole : count_of (given_if b o).live k ≡ 1
  taken_sole =
      let n = given_if-counts b o named_after k in let m = ap (λ (x : Live). count_of x k) t.2 ∙ count-insert_same a.live k taken in
      let no = has_not k o (λ e. let l = named k e in let z = taken_spare in omega (arith, l, z)) in
      omega (arith, n, m, no)

  pub taken_counts : (f : ℕ) → (f ≡ k → ⊥) → count_of (given_if b o).live f + has f o ≡ count_of a.live f
  taken_counts f ne = given_if-counts b o named_after f ∙ ap (λ (x : Live). count_of x f) t.2 ∙ count-insert_other a.live k taken f ne

  pub taken_bytes : (f : ℕ) → (f ≡ k → ⊥) → 1 ≤ count_of (given_if b o).live f → bytes_of (given_if b o).live f ≡ bytes_of a.live f
  taken_bytes f ne l = given_if-bytes b o named_after f l ∙ ap (λ (x : Live). bytes_of x f) t.2 ∙ bytes-insert_other a.live k taken f ne

  -- a block that is named stays so, where the frame that is given back isn't the last
  pub still_named : is_sole a.live o ≡ false → (f : ℕ) → (f ≡ k → ⊥) → 1 ≤ count_of a.live f → 1 ≤ count_of (given_if b o).live f
  still_named shared f ne m =
      let n = taken_counts f ne in
      by_bool (is_frame f o)
      (λ t.
      let e = ap one t in let two : count_of a.live f ≡ 1 → ⊥ = λ one_only. false≢true (sym shared ∙ ap (is_sole a.live) (is_frame_of f o t) ∙ eq-eqb (count_of a.live f) 1 one_only) in
      omega (arith, n, e, m, two))
      (λ t. let e = ap one t in omega (arith, n, e, m))

  pub taken_block : bytes_of (given_if b o).live k ≡ z
  taken_block = let l = taken_sole in given_if-bytes b o named_after k (omega (arith, l)) ∙ ap (λ (x : Live). bytes_of x k) t.2 ∙ bytes-insert_same a.live k taken

  pub taken_room : a.spare ≤ (given_if b o).spare + 1
  taken_room = let n = given_if-spare b o in let m = t.1 in omega (arith, n, m)

  pub taken_total : (given_if b o).total ≡ a.total
  taken_total = given_if-total b o ∙ t.3

-- ---- another slot at place i with the same frame

module _ (ss : List Slot) (i : ℕ) (s : Slot) (l : i < length ss) (e : (frame_of s) ≡ (frame_of (get_or ss i s))) where
  pub holders-set : (f : ℕ) → holders f (set ss i s) ≡ holders f ss
  holders-set f = let all = sum_by-set (λ (t : Slot). has f (frame_of t)) ss i s s l in let same = ap (λ o. has f o) e in omega (arith, all, same)

  pub sole-set : (live : Live) → sole_in live (set ss i s) ≡ sole_in live ss
  sole-set live = let all = sum_by-set (λ (t : Slot). one (is_sole live (frame_of t))) ss i s s l in let same = ap (λ (o : Option ℕ). one (is_sole live o)) e in omega (arith, all, same)

  -- where it says so only if it is so
  pub own-set : (live : Live) → one (is_own s && not (is_sole live (frame_of s))) ≡ 0 → AreOwn live ss → AreOwn live (set ss i s)
  own-set live right h = let all = sum_by-set (λ (t : Slot). one (is_own t && not (is_sole live (frame_of t)))) ss i s s l in omega (arith, all, right, h)

pub right_at : (live : Live) (ss : List Slot) (i : ℕ) (d : Slot) → i < length ss → AreOwn live ss → let s = get_or ss i d in one (is_own s && not (is_sole live (frame_of s))) ≡ 0
right_at live ss i d l h = let m = get_or-le-sum_by (λ (t : Slot). one (is_own t && not (is_sole live (frame_of t)))) ss i d l in omega (arith, m, h)

pub entries-set : (live : Live) (g : Page → Page) (ss : List Slot) (i : ℕ) (s : Slot) → s.number ≡ (get_or ss i s).number → (entry_in live s).1 ≡ g (entry_in live (get_or ss i s)).1 → entries_in live (set ss i s) ≡ changed_at g i (entries_in live ss)
entries-set live g [] i s n e = refl
entries-set live g (t ∷ ss) zero s n e = λ j. (n j, e j) ∷ entries_in live ss
entries-set live g (t ∷ ss) (suc i) s n e = ap (λ es. entry_in live t ∷ es) (entries-set live g ss i s n e)

-- ---- pages more

-- pages without frames count nothing
counts_none : (n : Slot → ℕ) → ((number : ℕ) (rights : Rights) → n (record { number = number; rights = rights; hold = Bare }) ≡ 0) → (number count : ℕ) (rights : Rights) → sum_by n (zeroed_slots number count rights) ≡ 0
counts_none n none number zero rights = refl
counts_none n none number (suc count) rights =
    let s : Slot = record { number = number; rights = rights; hold = Bare } in
    let all = sum_by-cons n s (zeroed_slots (number + 1) count rights) in let here = none number rights in let rest = counts_none n none (number + 1) count rights in
    omega (arith, all, here, rest)

entries-zeroed : (live : Live) (number count : ℕ) (rights : Rights) → entries_in live (zeroed_slots number count rights) ≡ zeroed_entries number count rights
entries-zeroed live number zero rights = refl
entries-zeroed live number (suc count) rights = ap (λ es. (number, zeroed_page rights) ∷ es) (entries-zeroed live (number + 1) count rights)

module _ (ss : List Slot) (number count : ℕ) (rights : Rights) where
  pub holders-pushed : (f : ℕ) → holders f (ss ++ zeroed_slots number count rights) ≡ holders f ss
  holders-pushed f = let all = holders-append f ss (zeroed_slots number count rights) in let none = counts_none (λ (t : Slot). has f (frame_of t)) (λ _ _. refl) number count rights in omega (arith, all, none)

  pub sole-pushed : (live : Live) → sole_in live (ss ++ zeroed_slots number count rights) ≡ sole_in live ss
  sole-pushed live = let n = λ (t : Slot). one (is_sole live (frame_of t)) in let all = sum_by-append n ss (zeroed_slots number count rights) in let none = counts_none n (λ _ _. refl) number count rights in omega (arith, all, none)

  pub own-pushed : (live : Live) → AreOwn live ss → AreOwn live (ss ++ zeroed_slots number count rights)
  own-pushed live h = let n = λ (t : Slot). one (is_own t && not (is_sole live (frame_of t))) in let all = sum_by-append n ss (zeroed_slots number count rights) in let none = counts_none n (λ _ _. refl) number count rights in omega (arith, all, none, h)

  pub entries-pushed : (live : Live) → entries_in live (ss ++ zeroed_slots number count rights) ≡ entries_in live ss ++ zeroed_entries number count rights
  entries-pushed live = map-append (entry_in live) ss (zeroed_slots number count rights) ∙ ap (λ es. entries_in live ss ++ es) (entries-zeroed live number count rights)

-- ---- the same slots in another order

counts_moved : (n : Slot → ℕ) (ss : List Slot) (at k : ℕ) → sum_by n (take at ss ++ (drop k (drop at ss) ++ take k (drop at ss))) ≡ sum_by n ss
counts_moved n ss at k =
    let a = sum_by-take-drop n ss at in let b = sum_by-take-drop n (drop at ss) k in
    let c = sum_by-append n (take at ss) (drop k (drop at ss) ++ take k (drop at ss)) in let d = sum_by-append n (drop k (drop at ss)) (take k (drop at ss)) in
    omega (arith, a, b, c, d)

pub holders-moved : (ss : List Slot) (at k f : ℕ) → holders f (take at ss ++ (drop k (drop at ss) ++ take k (drop at ss))) ≡ holders f ss
holders-moved ss at k f = counts_moved (λ (t : Slot). has f (frame_of t)) ss at k

pub sole-moved : (live : Live) (ss : List Slot) (at k : ℕ) → sole_in live (take at ss ++ (drop k (drop at ss) ++ take k (drop at ss))) ≡ sole_in live ss
sole-moved live ss at k = counts_moved (λ (t : Slot). one (is_sole live (frame_of t))) ss at k

pub own-moved : (live : Live) (ss : List Slot) (at k : ℕ) → AreOwn live ss → AreOwn live (take at ss ++ (drop k (drop at ss) ++ take k (drop at ss)))
own-moved live ss at k h = counts_moved (λ (t : Slot). one (is_own t && not (is_sole live (frame_of t)))) ss at k ∙ h

-- ---- a slot whose frame alone names its block again

owned-frame : (h : Hold) → hold_frame (owned_hold h) ≡ hold_frame h
owned-frame Bare = refl
owned-frame (Own f) = refl
owned-frame (Shared f) = refl

owned-own : (live : Live) (h : Hold) → is_sole live (hold_frame h) ≡ true → hold_own (owned_hold h) ≡ true
owned-own live Bare e = absurd (false≢true e)
owned-own live (Own f) e = refl
owned-own live (Shared f) e = refl

pub owned_frame : (s : Slot) → frame_of (owned_slot s) ≡ frame_of s
owned_frame s = owned-frame s.hold

pub owned_own : (live : Live) (s : Slot) → is_sole live (frame_of s) ≡ true → is_own (owned_slot s) ≡ true
owned_own live s e = owned-own live s.hold e

pub owned_entry : (live : Live) (s : Slot) → entry_in live (owned_slot s) ≡ entry_in live s
owned_entry live s = λ i. (s.number, record { rights = s.rights; bytes = bytes_in live (owned_frame s i) })

pub owned_right : (live : Live) (s : Slot) → is_sole live (frame_of s) ≡ true → one (is_own (owned_slot s) && not (is_sole live (frame_of (owned_slot s)))) ≡ 0
owned_right live s e = λ i. one (owned_own live s e i && not ((ap (is_sole live) (owned_frame s) ∙ e) i))
