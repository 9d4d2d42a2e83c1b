-- The marks of a list, and how many blocks they name.
use Rattle.std.proofs.Common.{◌≡◌, ◌<◌, ◌≤◌, ◌+◌, ◌-◌, ◌*◌, ◌==◌, ℕ, zero, suc, Bool, true, false, cond, List, [], ◌∷◌, ◌++◌, set, length, get_or, Option, Some, None, is_some, replicate, refl, sym, ap, subst, ◌∙◌, arith}
use Rattle.std.specs.Ordering.{nat_cmp}
use Rattle.std.specs.Cmp.{nat_cmp_total, unsigned_tied}
use Rattle.std.proofs.Math.Nat.{suc-mul}
use Rattle.std.specs.FinMap.{empty, get, remove, len, contains_key, same_map, nat_cmp-IsAntisymmetric, get-empty, get-remove, len-remove, len-empty}
use Rattle.std.proofs.lemmas.Bool.{eqb-true, eqb-false, eq-eqb, false≢true}
use Rattle.std.proofs.lemmas.List.{length-append, map-set, get_or-map}
use Rattle.std.proofs.lemmas.List.Sums.{sum_by-cons, sum_by-set, get_or-le-sum_by}
use Rattle.std.specs.List.{count_by, AllByRecursion}
use Rattle.std.specs.Vec.{vec_capacity}
use Rattle.frame_arena.proofs.Callers.{by_bool, get-remove_other}
use Rattle.frame_arena.specs.Frames.{Block, Live}
use Rattle.page_list.specs.declared.slots.Slot.{Slot}
use Rattle.page_list.specs.declared.slots.Mark.{Mark}
use Rattle.page_list.specs.Entries.{Entry}
use Rattle.page_list.specs.Slots.{entries_in, one, holders, mark_in, marks_in, marked, shared_slots, IsMark, frame_of}
use Rattle.page_list.proofs.Held.{first, holders-append, has_not, one_most}
use Rattle.page_list.proofs.Shared.{holders_most}

-- the slots of all marks
abbrev pub marked_slots : List Mark → List Slot
marked_slots [] = []
marked_slots (m ∷ ms) = m.slots.items ++ marked_slots ms

-- how many blocks slots name
abbrev pub is_last : Option ℕ → List Slot → ℕ
is_last None slots = 0
is_last (Some f) slots = one (holders f slots == 0)

abbrev pub named : List Slot → ℕ
named [] = 0
named (s ∷ ss) = is_last (frame_of s) ss + named ss

-- the marks' slots, one by one or in one list
pub holders-marked : (f : ℕ) (ms : List Mark) → holders f (marked_slots ms) ≡ marked f ms
holders-marked f [] = refl
holders-marked f (m ∷ ms) =
    let a = holders-append f m.slots.items (marked_slots ms) in let b = sum_by-cons (λ (n : Mark). holders f n.slots.items) m ms in let c = holders-marked f ms in
    omega (arith, a, b, c)

pub marked-set : (f : ℕ) (ms : List Mark) (k : ℕ) (m d : Mark) → k < length ms → marked f (set ms k m) + holders f (get_or ms k d).slots.items ≡ marked f ms + holders f m.slots.items
marked-set f ms k m d l = sum_by-set (λ (n : Mark). holders f n.slots.items) ms k m d l

pub marks-set : (live : Live) (ms : List Mark) (k : ℕ) (m : Mark) → marks_in live (set ms k m) ≡ set (marks_in live ms) k (mark_in live m)
marks-set live ms k m = map-set (mark_in live) ms k m

-- what holds of each mark
pub all-set : (P : Mark → Type 0) (ms : List Mark) (k : ℕ) (m : Mark) → P m → AllByRecursion P ms → AllByRecursion P (set ms k m)
all-set P [] k m p h = tt
all-set P (n ∷ ms) zero m p h = (p, h.1)
all-set P (n ∷ ms) (suc k) m p h = (h.0, all-set P ms k m p h.1)

pub all-at : (P : Mark → Type 0) (ms : List Mark) (k : ℕ) (d : Mark) → k < length ms → AllByRecursion P ms → P (get_or ms k d)
all-at P [] k d l h = absurd (omega (arith, l))
all-at P (n ∷ ms) zero d l h = h.0
all-at P (n ∷ ms) (suc k) d l h = all-at P ms k d (omega (arith, l)) h.1

-- ---- no more blocks are in use than are named

none_in : (live : Live) → ((f : ℕ) → contains_key live f ≡ true → ⊥) → len live ≡ 0
none_in live h =
    ap len (same_map nat_cmp_total nat_cmp-IsAntisymmetric live empty (λ q. gone (get live q) (λ t. h q t) ∙ sym (get-empty nat_cmp q))) ∙ len-empty nat_cmp Block
  where
    gone : (o : Option Block) → (is_some o ≡ true → ⊥) → o ≡ None
    gone None no_key = refl
    gone (Some b) no_key = absurd (no_key refl)

removed : (live : Live) (g : ℕ) → get (remove live g) g ≡ None
removed live g = get-remove nat_cmp_total live g g ∙ ap (λ b. cond b None (get live g)) (unsigned_tied g g ∙ eq-eqb g g refl)

some_same : {a b : ℕ} → Some a ≡ Some b → a ≡ b
some_same e = cc e

cond_less : (b : Bool) (n : ℕ) → n ≤ cond b (n - 1) n + 1
cond_less true n = omega arith
cond_less false n = omega arith

-- of slots with one more, where it is so of the slots
module _ (ss : List Slot) (so : (live : Live) → ((f : ℕ) → contains_key live f ≡ true → 1 ≤ holders f ss) → len live ≤ named ss) (live : Live) (s : Slot) (h : (f : ℕ) → contains_key live f ≡ true → 1 ≤ holders f (s ∷ ss)) where
  named_one : (o : Option ℕ) → frame_of s ≡ o → len live ≤ is_last o ss + named ss
  named_one None is =
      let l = so live (λ f t. let l = h f t in let a = first f s ss in let b = has_not f (frame_of s) (λ e. false≢true (ap is_some (sym is ∙ e))) in omega (arith, l, a, b)) in
      omega (arith, l)
  named_one (Some g) is =
      by_bool (holders g ss == 0)
      (λ t.
      let rest = remove live g in
      let less = so rest (λ f u. by_bool (f == g)
      (λ e. absurd (false≢true (sym (ap (λ q. is_some (get rest q)) (eqb-true f g e) ∙ ap is_some (removed live g)) ∙ u)))
      (λ e. let ne = eqb-false f g e in let l = h f (sym (ap is_some (get-remove_other live g f ne)) ∙ u) in let a = first f s ss in
      let b = has_not f (frame_of s) (λ i. ne (some_same (sym i ∙ is))) in omega (arith, l, a, b))) in
      let n = len-remove nat_cmp_total live g in let k = cond_less (contains_key live g) (len live) in let one_here = ap one t in omega (arith, less, n, k, one_here))
      (λ t. let l = so live (λ f u. by_bool (f == g)
      (λ e. let zero_not = eqb-false (holders g ss) 0 t in let same = ap (λ q. holders q ss) (eqb-true f g e) in omega (arith, zero_not, same))
      (λ e. let ne = eqb-false f g e in let l = h f u in let a = first f s ss in let b = has_not f (frame_of s) (λ i. ne (some_same (sym i ∙ is))) in omega (arith, l, a, b))) in
      omega (arith, l))

pub named_most : (ss : List Slot) (live : Live) → ((f : ℕ) → contains_key live f ≡ true → 1 ≤ holders f ss) → len live ≤ named ss
named_most [] live h = let n = none_in live (λ f t. let l = h f t in omega (arith, l)) in omega (arith, n)
named_most (s ∷ ss) live h = named_one ss (named_most ss) live s h (frame_of s) refl

is_last-most : (o : Option ℕ) (ss : List Slot) → is_last o ss ≤ 1
is_last-most None ss = omega arith
is_last-most (Some f) ss = one_most (holders f ss == 0)

-- slots before others name at most one block each
pub named-front : (xs ys : List Slot) → named (xs ++ ys) ≤ length xs + named ys
named-front [] ys = omega arith
named-front (x ∷ xs) ys = let a = is_last-most (frame_of x) (xs ++ ys) in let b = named-front xs ys in omega (arith, a, b)

-- a mark stands for none only where it isn't set
pub unset_of : (live : Live) (b : Bool) (es : List Entry) → cond b (Some es) None ≡ None → b ≡ false
unset_of live true es e = absurd (false≢true (sym (ap is_some e)))
unset_of live false es e = refl

-- no block is named oftener than sixteen marks and the pages have room for
pub marked_most : (limit f : ℕ) (ms : List Mark) → AllByRecursion (IsMark limit) ms → marked f ms ≤ length ms * limit
marked_most limit f [] h = omega arith
marked_most limit f (m ∷ ms) h =
    let a = sum_by-cons (λ (n : Mark). holders f n.slots.items) m ms in let b = holders_most f m.slots.items in let c = marked_most limit f ms h.1 in let d = suc-mul (length ms) limit in
    omega (arith, a, b, c, d, h.0.most)

-- the mark m at place k
module _ (live : Live) (limit : ℕ) (ms : List Mark) (k : ℕ) (m : Mark) (l : k < length ms) (at : m ≡ get_or ms k m) (all : AllByRecursion (IsMark limit) ms) where
  pub is_mark : IsMark limit m
  is_mark = subst (IsMark limit) (sym at) (all-at (IsMark limit) ms k m l all)

  pub mark_shown : get_or (marks_in live ms) k None ≡ mark_in live m
  mark_shown = get_or-map (mark_in live) ms k m None l ∙ ap (mark_in live) (sym at)

  pub mark_empty : get_or (marks_in live ms) k None ≡ None → m.slots.items ≡ []
  mark_empty e = is_mark.unset (unset_of live m.set (entries_in live m.slots.items) (sym mark_shown ∙ e))

  pub mark_held : (f : ℕ) → holders f m.slots.items ≤ marked f ms
  mark_held f = subst (λ (n : Mark). holders f n.slots.items ≤ marked f ms) (sym at) (get_or-le-sum_by (λ (n : Mark). holders f n.slots.items) ms k m l)

  pub mark-replaced : (f : ℕ) (n : Mark) → marked f (set ms k n) + holders f m.slots.items ≡ marked f ms + holders f n.slots.items
  mark-replaced f n = let a = marked-set f ms k n m l in let b = ap (λ (x : Mark). holders f x.slots.items) at in omega (arith, a, b)

-- ---- how many slots marks have

pub named-length : (xs : List Slot) → named xs ≤ length xs
named-length [] = omega arith
named-length (x ∷ xs) = let a = is_last-most (frame_of x) xs in let b = named-length xs in omega (arith, a, b)

mark_most : (live : Live) (limit : ℕ) (m : Mark) → IsMark limit m → (b : Bool) → m.set ≡ b → (n : ℕ) → length m.slots.items + n * limit ≤ (cond (is_some (cond b (Some (entries_in live m.slots.items)) None)) 1 0 + n) * limit
mark_most live limit m h true e n = let a = suc-mul n limit in let b : (1 + n) * limit ≡ suc n * limit = ap (λ k. k * limit) (omega arith) in omega (arith, a, b, h.most)
mark_most live limit m h false e n = let a = ap length (h.unset e) in let b : (0 + n) * limit ≡ n * limit = ap (λ k. k * limit) (omega arith) in omega (arith, a, b)

pub slots_most : (live : Live) (limit : ℕ) (ms : List Mark) → AllByRecursion (IsMark limit) ms → length (marked_slots ms) ≤ count_by is_some (marks_in live ms) * limit
slots_most live limit [] h = omega arith
slots_most live limit (m ∷ ms) h =
    let a = mark_most live limit m h.0 m.set refl (count_by is_some (marks_in live ms)) in let b = slots_most live limit ms h.1 in
    let c = length-append m.slots.items (marked_slots ms) in
    let d = ap (λ n. n * limit) (sum_by-cons (λ (o : Option (List Entry)). cond (is_some o) 1 0) (mark_in live m) (marks_in live ms)) in
    omega (arith, a, b, c, d)

pub two_most : (n limit : ℕ) → n ≤ 2 → n * limit ≤ 2 * limit
two_most zero limit h = omega arith
two_most (suc zero) limit h = omega arith
two_most (suc (suc zero)) limit h = omega arith
two_most (suc (suc (suc n))) limit h = absurd (omega (arith, h))

-- ---- marks that were never set

pub record IsFresh (limit : ℕ) (m : Mark) : Type 0 where
  pub set : m.set ≡ false
  pub none : m.slots.items ≡ []
  pub room : limit ≤ vec_capacity m.slots

pub all-push : (P : Mark → Type 0) (ms : List Mark) (m : Mark) → AllByRecursion P ms → P m → AllByRecursion P (ms ++ m ∷ [])
all-push P [] m h p = (p, tt)
all-push P (n ∷ ms) m h p = (h.0, all-push P ms m h.1 p)

pub fresh_marks : (limit : ℕ) (ms : List Mark) → AllByRecursion (IsFresh limit) ms → AllByRecursion (IsMark limit) ms
fresh_marks limit [] h = tt
fresh_marks limit (m ∷ ms) h = (record { room = h.0.room; most = let n = ap length h.0.none in omega (arith, n); unset = λ _. h.0.none; plain = ap shared_slots h.0.none ∙ sym h.0.none }, fresh_marks limit ms h.1)

pub fresh_shown : (live : Live) (limit : ℕ) (ms : List Mark) → AllByRecursion (IsFresh limit) ms → marks_in live ms ≡ replicate (length ms) None
fresh_shown live limit [] h = refl
fresh_shown live limit (m ∷ ms) h = λ i. ap (λ b. cond b (Some (entries_in live m.slots.items)) None) h.0.set i ∷ fresh_shown live limit ms h.1 i

pub fresh_slots : (limit : ℕ) (ms : List Mark) → AllByRecursion (IsFresh limit) ms → marked_slots ms ≡ []
fresh_slots limit [] h = refl
fresh_slots limit (m ∷ ms) h = ap (λ l. l ++ marked_slots ms) h.0.none ∙ fresh_slots limit ms h.1

pub shown_set : (b : Bool) (es : List Entry) → is_some (cond b (Some es) None) ≡ b
shown_set true es = refl
shown_set false es = refl

pub one_at_most : (n limit : ℕ) → n ≤ 1 → n * limit ≤ limit
one_at_most zero limit h = omega arith
one_at_most (suc zero) limit h = omega arith
one_at_most (suc (suc n)) limit h = absurd (omega (arith, h))
