-- What the map of the live frames has, and what a change of the table does to it.
use Rattle.std.proofs.Common.{◌≡◌, ℕ, zero, suc, ◌+◌, ◌-◌, ◌<◌, ◌≤◌, ◌==◌, Bool, true, false, cond, ◌||◌, List, [], ◌∷◌, ◌++◌, length, set, get_or, slice_index_or, refl, sym, ap, subst, ◌∙◌, arith, length-set, None, Some, Option, is_some, eqb, unwrap_or}
use Rattle.std.specs.Ordering.{nat_cmp}
use Rattle.std.specs.Cmp.{nat_cmp_total, unsigned_tied}
use Rattle.std.specs.FinMap.{get, insert, remove, len, find, contains_key, same_map, nat_cmp-IsAntisymmetric, get-from_entries, get-insert, get-remove, get-empty, from_entries, len-insert, len-remove, len-empty, empty_of_len}
use Rattle.std.proofs.lemmas.Bool.{eqb-true, eqb-false, ne_eqb, eq-eqb, false≢true, or_parts}
use Rattle.std.proofs.lemmas.List.{get_or-set_same, get_or-set_other, get_or_read, get_or_push, get_or_past, length_push}
use Rattle.frame_arena.proofs.Callers.{by_bool}
use Rattle.frame_arena.specs.Frames.{Block, Frames, Live, IsLive, IsSole, Takes, bytes_in, bytes_of, count_in, count_of, freed, with_bytes, with_count}
use Rattle.frame_arena.specs.Links.{Place}
use Rattle.frame_arena.specs.Lending.{with_slot}
use Rattle.frame_arena.specs.declared.slot.Slot.{Slot}
use Rattle.frame_arena.specs.declared.slot.Slot.TheVariants.{Spare, Used}
use denote.RawPtr.{Ptr}
use Rattle.frame_arena.specs.Slots.{slot_block, slot_bytes, others_in, page_in, with_others, no_page, block_at, entry, entries_of, live_slots, seen, lists, AreVacant, IsWhole, IsSeated, AreSeated}

find-entry_same : (q n : ℕ) (o : Option Block) (es : List (ℕ × Block)) → q ≡ n → find nat_cmp q es ≡ None → find nat_cmp q (entry n o es) ≡ o
find-entry_same q n None es e none = none
find-entry_same q n (Some x) es e none = ap (λ b. cond b (Some x) (find nat_cmp q es)) (unsigned_tied q n ∙ eq-eqb q n e)

find-entry_other : (q n : ℕ) (o : Option Block) (es : List (ℕ × Block)) → (q ≡ n → ⊥) → find nat_cmp q (entry n o es) ≡ find nat_cmp q es
find-entry_other q n None es ne = refl
find-entry_other q n (Some x) es ne = ap (λ b. cond b (Some x) (find nat_cmp q es)) (unsigned_tied q n ∙ ne_eqb q n ne)

find-past : (q n : ℕ) (ss : List Slot) → q < n → find nat_cmp q (entries_of n ss) ≡ None
find-past q n [] l = refl
find-past q n (s ∷ ss) l = find-entry_other q n (slot_block s) (entries_of (n + 1) ss) (λ e. omega arith) ∙ find-past q (n + 1) ss (omega arith)

find-slots : (q n : ℕ) (ss : List Slot) → find nat_cmp (n + q) (entries_of n ss) ≡ block_at ss q
find-slots q n [] = refl
find-slots zero n (s ∷ ss) = find-entry_same (n + 0) n (slot_block s) (entries_of (n + 1) ss) (omega arith) (find-past (n + 0) (n + 1) ss (omega arith))
find-slots (suc q) n (s ∷ ss) =
    find-entry_other (n + suc q) n (slot_block s) (entries_of (n + 1) ss) (λ e. omega arith)
    ∙ ap (λ k. find nat_cmp k (entries_of (n + 1) ss)) (omega arith) ∙ find-slots q (n + 1) ss

pub get-slots : (ss : List Slot) (q : ℕ) → get (live_slots ss) q ≡ block_at ss q
get-slots ss q = get-from_entries nat_cmp_total (entries_of 0 ss) q ∙ ap (λ k. find nat_cmp k (entries_of 0 ss)) (omega arith) ∙ find-slots q 0 ss

bytes-set : (ss : List Slot) (i : ℕ) (s : Slot) (q : ℕ) → i < length ss → block_at (set ss i s) q ≡ cond (q == i) (slot_block s) (block_at ss q)
bytes-set ss i s q l =
    by_bool (q == i)
    (λ t. ap (λ k. block_at (set ss i s) k) (eqb-true q i t) ∙ ap slot_block (get_or-set_same ss i s no_page l) ∙ ap (λ b. cond b (slot_block s) (block_at ss q)) (sym t))
    (λ t. ap slot_block (get_or-set_other ss i q s no_page (eqb-false q i t)) ∙ ap (λ b. cond b (slot_block s) (block_at ss q)) (sym t))

pub live-filled : (ss : List Slot) (i : ℕ) (s : Slot) (z : Block) → i < length ss → slot_block s ≡ Some z → live_slots (set ss i s) ≡ insert (live_slots ss) i z
live-filled ss i s z l e =
    same_map nat_cmp_total nat_cmp-IsAntisymmetric _ _ (λ q.
    get-slots (set ss i s) q ∙ bytes-set ss i s q l ∙ ap (λ o. cond (q == i) o (block_at ss q)) e
    ∙ ap (λ o. cond (q == i) (Some z) o) (sym (get-slots ss q)) ∙ ap (λ b. cond b (Some z) (get (live_slots ss) q)) (sym (unsigned_tied q i))
    ∙ sym (get-insert nat_cmp_total (live_slots ss) i z q))

pub live-emptied : (ss : List Slot) (i : ℕ) (s : Slot) → i < length ss → slot_block s ≡ None → live_slots (set ss i s) ≡ remove (live_slots ss) i
live-emptied ss i s l e =
    same_map nat_cmp_total nat_cmp-IsAntisymmetric _ _ (λ q.
    get-slots (set ss i s) q ∙ bytes-set ss i s q l ∙ ap (λ o. cond (q == i) o (block_at ss q)) e
    ∙ ap (λ o. cond (q == i) None o) (sym (get-slots ss q)) ∙ ap (λ b. cond b None (get (live_slots ss) q)) (sym (unsigned_tied q i))
    ∙ sym (get-remove nat_cmp_total (live_slots ss) i q))

-- ---- a slot at the end
pub push_other : (ss : List Slot) (s : Slot) (q : ℕ) → (q ≡ length ss → ⊥) → get_or (ss ++ s ∷ []) q no_page ≡ get_or ss q no_page
push_other [] s zero ne = absurd (ne refl)
push_other [] s (suc q) ne = refl
push_other (t ∷ ts) s zero ne = refl
push_other (t ∷ ts) s (suc q) ne = push_other ts s q (λ e. ne (omega (arith, e)))

bytes_past : (ss : List Slot) (q : ℕ) → length ss ≤ q → block_at ss q ≡ None
bytes_past ss q l = ap slot_block (get_or_past ss q no_page l)

pub live-pushed : (ss : List Slot) (s : Slot) (z : Block) → slot_block s ≡ Some z → live_slots (ss ++ s ∷ []) ≡ insert (live_slots ss) (length ss) z
live-pushed ss s z e =
    same_map nat_cmp_total nat_cmp-IsAntisymmetric _ _ (λ q.
    get-slots (ss ++ s ∷ []) q
    ∙ by_bool (q == length ss)
    (λ t. ap (block_at (ss ++ s ∷ [])) (eqb-true q (length ss) t) ∙ ap slot_block (get_or_push ss s no_page (length ss) refl) ∙ e ∙ ap (λ b. cond b (Some z) (get (live_slots ss) q)) (sym t))
    (λ t. ap slot_block (push_other ss s q (eqb-false q (length ss) t)) ∙ sym (get-slots ss q) ∙ ap (λ b. cond b (Some z) (get (live_slots ss) q)) (sym t))
    ∙ ap (λ b. cond b (Some z) (get (live_slots ss) q)) (sym (unsigned_tied q (length ss)))
    ∙ sym (get-insert nat_cmp_total (live_slots ss) (length ss) z q))

live-same : (ss : List Slot) (s : Slot) → slot_block s ≡ None → live_slots (ss ++ s ∷ []) ≡ live_slots ss
live-same ss s e =
    same_map nat_cmp_total nat_cmp-IsAntisymmetric _ _ (λ q.
    get-slots (ss ++ s ∷ []) q
    ∙ by_bool (q == length ss)
    (λ t. ap (block_at (ss ++ s ∷ [])) (eqb-true q (length ss) t) ∙ ap slot_block (get_or_push ss s no_page (length ss) refl) ∙ e ∙ sym (ap (block_at ss) (eqb-true q (length ss) t) ∙ bytes_past ss (length ss) (omega arith)))
    (λ t. ap slot_block (push_other ss s q (eqb-false q (length ss) t)))
    ∙ sym (get-slots ss q))

len-pushed : (ss : List Slot) (s : Slot) (z : Block) → slot_block s ≡ Some z → len (live_slots (ss ++ s ∷ [])) ≡ len (live_slots ss) + 1
len-pushed ss s z e =
    ap len (live-pushed ss s z e) ∙ len-insert nat_cmp_total (live_slots ss) (length ss) z
    ∙ ap (λ o. cond (is_some o) (len (live_slots ss)) (len (live_slots ss) + 1)) (get-slots ss (length ss) ∙ bytes_past ss (length ss) (omega arith))

pub whole-pushed : (ss : List Slot) (fs : List Place) (s : Slot) (z : Block) → slot_block s ≡ Some z → IsWhole ss fs → IsWhole (ss ++ s ∷ []) fs
whole-pushed ss fs s z e w = let more = len-pushed ss s z e in omega (arith, more, w, length_push ss s)

pub vacant-pushed : (ss : List Slot) (fs : List Place) (s : Slot) → AreVacant ss fs → AreVacant (ss ++ s ∷ []) fs
vacant-pushed ss [] s v = tt
vacant-pushed ss (f ∷ fs) s v =
    (omega (arith, length_push ss s, v.0), ap slot_block (push_other ss s f.2 (λ e. omega (arith, e, v.0))) ∙ v.1, v.2, vacant-pushed ss fs s v.3)

-- where no frame is in the list each has a page, the last one too
small_cond : (b : Bool) (n m : ℕ) → n ≤ m → cond b n (n + 1) ≤ m + 1
small_cond true n m l = omega arith
small_cond false n m l = omega arith

len_entries : (es : List (ℕ × Block)) → len (from_entries {R = nat_cmp} es) ≤ length es
len_entries [] = let e = len-empty nat_cmp Block in omega (arith, e)
len_entries (x ∷ es) =
    let l = len_entries es in let m = from_entries {R = nat_cmp} es in let e = len-insert nat_cmp_total m x.0 x.1 in
    let k = small_cond (contains_key m x.0) (len m) (length es) l in omega (arith, e, k)

length-entry : (n : ℕ) (o : Option Block) (es : List (ℕ × Block)) → length (entry n o es) ≤ length es + 1
length-entry n None es = omega arith
length-entry n (Some x) es = omega arith

length-entries : (n : ℕ) (ss : List Slot) → length (entries_of n ss) ≤ length ss
length-entries n [] = omega arith
length-entries n (s ∷ ss) = let l = length-entry n (slot_block s) (entries_of (n + 1) ss) in let k = length-entries (n + 1) ss in omega (arith, l, k)

len_most : (ss : List Slot) → len (live_slots ss) ≤ length ss
len_most ss = let l = len_entries (entries_of 0 ss) in let k = length-entries 0 ss in omega (arith, l, k)

module _ (ss : List Slot) (s : Slot) (w : IsWhole (ss ++ s ∷ []) []) where
  last_of : (o : Option Block) → slot_block s ≡ o → (is_some o ≡ true) × IsWhole ss []
  last_of None e = let l = len_most ss in let k = ap len (live-same ss s e) in absurd (omega (arith, w, l, k, length_push ss s))
  last_of (Some z) e = let k = len-pushed ss s z e in (refl, omega (arith, w, k, length_push ss s))

  pub last_page : is_some (slot_block s) ≡ true
  last_page = (last_of (slot_block s) refl).0

  pub whole_before : IsWhole ss []
  whole_before = (last_of (slot_block s) refl).1

-- ---- where pages lie
pub seated-set : (p : Ptr) (ss : List Slot) (i : ℕ) (s : Slot) → i < length ss → IsSeated p i (page_in s) → AreSeated p ss → AreSeated p (set ss i s)
seated-set p ss i s l at h n =
    by_bool (n == i)
    (λ t. subst (λ (k : ℕ). IsSeated p k (page_in (get_or (set ss i s) k no_page))) (sym (eqb-true n i t)) (subst (λ (x : Slot). IsSeated p i (page_in x)) (sym (get_or-set_same ss i s no_page l)) at))
    (λ t. subst (λ (x : Slot). IsSeated p n (page_in x)) (sym (get_or-set_other ss i n s no_page (eqb-false n i t))) (h n))

pub seated-pushed : (p : Ptr) (ss : List Slot) (s : Slot) → IsSeated p (length ss) (page_in s) → AreSeated p ss → AreSeated p (ss ++ s ∷ [])
seated-pushed p ss s at h n =
    by_bool (n == length ss)
    (λ t. subst (λ (k : ℕ). IsSeated p k (page_in (get_or (ss ++ s ∷ []) k no_page))) (sym (eqb-true n (length ss) t)) (subst (λ (x : Slot). IsSeated p (length ss) (page_in x)) (sym (get_or_push ss s no_page (length ss) refl)) at))
    (λ t. subst (λ (x : Slot). IsSeated p n (page_in x)) (sym (push_other ss s n (eqb-false n (length ss) t))) (h n))

module _ (p : Ptr) (ss : List Slot) (s : Slot) (h : AreSeated p (ss ++ s ∷ [])) where
  pub seated_last : IsSeated p (length ss) (page_in s)
  seated_last = subst (λ (x : Slot). IsSeated p (length ss) (page_in x)) (get_or_push ss s no_page (length ss) refl) (h (length ss))

  pub seated_before : AreSeated p ss
  seated_before n =
      by_bool (n == length ss)
      (λ t. subst (λ (x : Slot). IsSeated p n (page_in x)) (sym (get_or_past ss n no_page (omega (arith, eqb-true n (length ss) t)))) tt)
      (λ t. subst (λ (x : Slot). IsSeated p n (page_in x)) (push_other ss s n (eqb-false n (length ss) t)) (h n))

-- a change of a frame that is not in the list leaves it as it was
pub vacant-set : (ss : List Slot) (fs : List Place) (i : ℕ) (s : Slot) → i < length ss → lists i fs ≡ false → AreVacant ss fs → AreVacant (set ss i s) fs
vacant-set ss [] i s l n v = tt
vacant-set ss (f ∷ fs) i s l n v =
    let ne : f.2 ≡ i → ⊥ = λ e. eqb-false i f.2 ((or_parts (i == f.2) _ n).0) (sym e) in
    (omega (arith, length-set ss i s, v.0), ap slot_block (get_or-set_other ss i f.2 s no_page ne) ∙ v.1, v.2, vacant-set ss fs i s l ((or_parts (i == f.2) _ n).1) v.3)

-- a live frame is in the table, and not in the list
pub live-in : (ss : List Slot) (q : ℕ) → contains_key (live_slots ss) q ≡ true → q < length ss
live-in ss q e = inside ss q (ap is_some (sym (get-slots ss q)) ∙ e)
  where
    inside : (ss : List Slot) (q : ℕ) → is_some (block_at ss q) ≡ true → q < length ss
    inside [] q e = absurd (false≢true e)
    inside (s ∷ ss) zero e = omega arith
    inside (s ∷ ss) (suc q) e = let more = inside ss q e in omega (arith, more)

pub live-unlisted : (ss : List Slot) (fs : List Place) (q : ℕ) → contains_key (live_slots ss) q ≡ true → AreVacant ss fs → lists q fs ≡ false
live-unlisted ss [] q e v = refl
live-unlisted ss (f ∷ fs) q e v =
    let ne : (q == f.2) ≡ false = ne_eqb q f.2 (λ k. false≢true (ap is_some (sym (ap (block_at ss) k ∙ v.1)) ∙ ap is_some (sym (get-slots ss q)) ∙ e)) in
    ap (λ b. b || lists q fs) ne ∙ live-unlisted ss fs q e v.3

pub page_some : (s : Slot) → is_some (slot_block s) ≡ true → is_some (page_in s) ≡ true
page_some Spare e = e
page_some (Used k p) e = refl

pub rewritten : (s : Slot) (w : List ℕ) → is_some (page_in s) ≡ true → slot_block (with_slot s w) ≡ Some (record { bytes = w; count = others_in s + 1 })
rewritten Spare w e = absurd (false≢true e)
rewritten (Used k p) w e = refl

-- the bytes and the count of a slot's block
bytes-slot : (s : Slot) (z : List ℕ) → slot_bytes s ≡ Some z → bytes_in (slot_block s) ≡ z
bytes-slot Spare z e = absurd (false≢true (ap is_some e))
bytes-slot (Used k p) z e = ap (λ (o : Option (List ℕ)). unwrap_or o []) e

count-slot : (s : Slot) → is_some (page_in s) ≡ true → count_in (slot_block s) ≡ others_in s + 1
count-slot Spare e = absurd (false≢true e)
count-slot (Used k p) e = refl

recounted : (s : Slot) (k : ℕ) → is_some (page_in s) ≡ true → slot_block (with_others s k) ≡ Some (record { bytes = bytes_in (slot_block s); count = k + 1 })
recounted Spare k e = absurd (false≢true e)
recounted (Used j p) k e = refl

some_named : (s : Slot) → is_some (slot_block s) ≡ true → 1 ≤ count_in (slot_block s)
some_named s e = let k = count-slot s (page_some s e) in omega (arith, k)

-- the changes as a contract sees them, where there are n frames
module _ (n : ℕ) (ss : List Slot) (fs : List Place) (a : Frames) (is : seen n ss fs ≡ a) where
  pub live_here : (q : ℕ) → IsLive a q → contains_key (live_slots ss) q ≡ true
  live_here q l = subst (λ (f : Frames). IsLive f q) (sym is) l

  -- each block in use is named
  pub counted : (q : ℕ) → IsLive a q → 1 ≤ count_of a.live q
  counted q l =
      subst (λ (f : Frames). 1 ≤ count_of f.live q) is
      (subst (λ (o : Option Block). 1 ≤ count_in o) (sym (get-slots ss q)) (some_named (slice_index_or ss q no_page) (ap is_some (sym (get-slots ss q)) ∙ live_here q l)))

  -- another block in the place of one
  pub written : (q : ℕ) (s : Slot) (z : Block) → q < length ss → slot_block s ≡ Some z → seen n (set ss q s) fs ≡ record { live = insert a.live q z; spare = a.spare; total = a.total }
  written q s z l e =
      (λ i. record { live = live-filled ss q s z l e i; spare = n - length-set ss q s i + length fs; total = n })
      ∙ ap (λ (f : Frames). record { live = insert f.live q z; spare = f.spare; total = f.total }) is

  pub gives : (q : ℕ) (s : Slot) (b o : ℕ) → q < length ss → slot_block s ≡ None → seen n (set ss q s) ((b, o, q) ∷ fs) ≡ freed a q
  gives q s b o l e =
      (λ i. record { live = live-emptied ss q s l e i; spare = n - length-set ss q s i + length ((b, o, q) ∷ fs); total = n })
      ∙ ap (λ (k : ℕ). record { live = remove (live_slots ss) q; spare = k; total = n }) (omega arith)
      ∙ ap (λ (f : Frames). freed f q) is

  -- a frame is cut off
  pub takes_next : (s : Slot) (z : List ℕ) → length ss < n → slot_block s ≡ Some (record { bytes = z; count = 1 }) → Takes a (length ss) z (seen n (ss ++ s ∷ []) fs)
  takes_next s z l e =
      subst (λ (x : Frames). Takes x (length ss) z (seen n (ss ++ s ∷ []) fs)) is
      (get-slots ss (length ss) ∙ bytes_past ss (length ss) (omega arith), omega (arith, l, length_push ss s), live-pushed ss s (record { bytes = z; count = 1 }) e, refl)

-- a frame that was given back
pub takes : (n : ℕ) (ss : List Slot) (f : Place) (fs : List Place) (a : Frames) → seen n ss (f ∷ fs) ≡ a → (s : Slot) (z : List ℕ) → AreVacant ss (f ∷ fs) → slot_block s ≡ Some (record { bytes = z; count = 1 }) → Takes a f.2 z (seen n (set ss f.2 s) fs)
takes n ss f fs a is s z v e =
    subst (λ (x : Frames). Takes x f.2 z (seen n (set ss f.2 s) fs)) is
    (get-slots ss f.2 ∙ v.1, omega (arith, length-set ss f.2 s), live-filled ss f.2 s (record { bytes = z; count = 1 }) v.0 e, refl)

pub whole-taken : (ss : List Slot) (f : Place) (fs : List Place) (s : Slot) (z : Block) → AreVacant ss (f ∷ fs) → slot_block s ≡ Some z → IsWhole ss (f ∷ fs) → IsWhole (set ss f.2 s) fs
whole-taken ss f fs s z v e w =
    let more : len (live_slots (set ss f.2 s)) ≡ len (live_slots ss) + 1 =
    ap len (live-filled ss f.2 s z v.0 e) ∙ len-insert nat_cmp_total (live_slots ss) f.2 z
    ∙ ap (λ o. cond (is_some o) (len (live_slots ss)) (len (live_slots ss) + 1)) (get-slots ss f.2 ∙ v.1) in
    omega (arith, more, w, length-set ss f.2 s)

pub whole-written : (ss : List Slot) (fs : List Place) (q : ℕ) (s : Slot) (z : Block) → contains_key (live_slots ss) q ≡ true → slot_block s ≡ Some z → IsWhole ss fs → IsWhole (set ss q s) fs
whole-written ss fs q s z l e w =
    let same : len (live_slots (set ss q s)) ≡ len (live_slots ss) =
    ap len (live-filled ss q s z (live-in ss q l) e) ∙ len-insert nat_cmp_total (live_slots ss) q z
    ∙ ap (λ b. cond b (len (live_slots ss)) (len (live_slots ss) + 1)) l in
    omega (arith, same, w, length-set ss q s)

pub whole-given : (ss : List Slot) (fs : List Place) (q : ℕ) (s : Slot) (b o : ℕ) → contains_key (live_slots ss) q ≡ true → 0 < len (live_slots ss) → slot_block s ≡ None → IsWhole ss fs → IsWhole (set ss q s) ((b, o, q) ∷ fs)
whole-given ss fs q s b o l some e w =
    let less : len (live_slots (set ss q s)) ≡ len (live_slots ss) - 1 =
    ap len (live-emptied ss q s (live-in ss q l) e) ∙ len-remove nat_cmp_total (live_slots ss) q
    ∙ ap (λ b. cond b (len (live_slots ss) - 1) (len (live_slots ss))) l in
    omega (arith, less, some, w, length-set ss q s)

len-with : (m : Live) (q : ℕ) → contains_key m q ≡ true → 0 < len m
len-with m q e =
    by_bool (eqb (len m) 0)
    (λ t. absurd (false≢true (sym (ap is_some (ap (λ k. get k q) (empty_of_len m (eqb-true (len m) 0 t)) ∙ get-empty nat_cmp q)) ∙ e)))
    (λ t. let ne : len m ≡ 0 → ⊥ = eqb-false (len m) 0 t in omega arith)

-- the live frame q, whose slot is x, where fs are spare
module _ (n : ℕ) (ss : List Slot) (fs : List Place) (a : Frames) (is : seen n ss fs ≡ a) (q : ℕ) (l : IsLive a q) where
  here : contains_key (live_slots ss) q ≡ true
  here = live_here n ss fs a is q l

  pub slot_in : q < length ss
  slot_in = live-in ss q here

  pub some_live : 0 < len (live_slots ss)
  some_live = len-with (live_slots ss) q here

  pub slot_out : AreVacant ss fs → lists q fs ≡ false
  slot_out v = live-unlisted ss fs q here v

  module _ (x : Slot) (at : x ≡ get_or ss q x) where
    same : x ≡ get_or ss q no_page
    same = get_or_read ss q x slot_in at no_page

    pub slot_page : is_some (page_in x) ≡ true
    slot_page = page_some x (ap (λ s. is_some (slot_block s)) same ∙ ap is_some (sym (get-slots ss q)) ∙ here)

    pub slot_is : slot_block x ≡ get a.live q
    slot_is = ap slot_block same ∙ sym (get-slots ss q) ∙ ap (λ (f : Frames). get f.live q) is

    pub slot_read : (z : List ℕ) → slot_bytes x ≡ Some z → z ≡ bytes_of a.live q
    slot_read z e = sym (bytes-slot x z e) ∙ ap bytes_in slot_is

    pub slot_counts : others_in x + 1 ≡ count_of a.live q
    slot_counts = sym (count-slot x slot_page) ∙ ap count_in slot_is

    pub slot_written : IsSole a q → (w : List ℕ) → seen n (set ss q (with_slot x w)) fs ≡ with_bytes a q w
    slot_written sole w =
        let one : others_in x + 1 ≡ 1 = slot_counts ∙ sole in
        written n ss fs a is q (with_slot x w) (record { bytes = w; count = 1 }) slot_in (rewritten x w slot_page ∙ ap (λ (k : ℕ). Some (record { bytes = w; count = k })) one)

    pub slot_keeps : (w : List ℕ) → AreVacant ss fs → IsWhole ss fs → AreVacant (set ss q (with_slot x w)) fs × IsWhole (set ss q (with_slot x w)) fs
    slot_keeps w v h =
        (vacant-set ss fs q (with_slot x w) slot_in (slot_out v) v, whole-written ss fs q (with_slot x w) (record { bytes = w; count = others_in x + 1 }) here (rewritten x w slot_page) h)

    -- the same page with another count
    module _ (k : ℕ) where
      recount : slot_block (with_others x k) ≡ Some (record { bytes = bytes_of a.live q; count = k + 1 })
      recount = recounted x k slot_page ∙ ap (λ (z : List ℕ). Some (record { bytes = z; count = k + 1 })) (ap bytes_in slot_is)

      pub slot_counted : seen n (set ss q (with_others x k)) fs ≡ record { live = with_count a.live q (k + 1); spare = a.spare; total = a.total }
      slot_counted = written n ss fs a is q (with_others x k) (record { bytes = bytes_of a.live q; count = k + 1 }) slot_in recount

      pub count_keeps : AreVacant ss fs → IsWhole ss fs → AreVacant (set ss q (with_others x k)) fs × IsWhole (set ss q (with_others x k)) fs
      count_keeps v h = (vacant-set ss fs q (with_others x k) slot_in (slot_out v) v, whole-written ss fs q (with_others x k) (record { bytes = bytes_of a.live q; count = k + 1 }) here recount h)

  pub slot_given : (s : Slot) (b o : ℕ) → slot_block s ≡ None → AreVacant ss fs → IsWhole ss fs → AreVacant (set ss q s) ((b, o, q) ∷ fs) × IsWhole (set ss q s) ((b, o, q) ∷ fs)
  slot_given s b o e v h = (
    (omega (arith, length-set ss q s, slot_in), ap slot_block (get_or-set_same ss q s no_page slot_in) ∙ e, slot_out v, vacant-set ss fs q s slot_in (slot_out v) v),
    whole-given ss fs q s b o here some_live e h,
  )

-- a new arena
pub fresh_whole : IsWhole [] []
fresh_whole = let e = len-empty nat_cmp Block in omega (arith, e)
