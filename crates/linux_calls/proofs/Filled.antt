-- Ranges that are filled one after the other, and ranges whose bytes are gathered.
use Rattle.std.proofs.Common.{◌≡◌, ◌<◌, ◌≤◌, ℕ, zero, suc, ◌+◌, Bool, List, [], ◌∷◌, ◌++◌, length, take, drop, get_or, Option, Some, IfSome, Result, is_some, ◌||◌, refl, sym, ap, subst, ◌∙◌, append-nil, arith}
use Rattle.std.proofs.lemmas.List.{drop-drop, drop-take, drop_all, length-append, take-append-drop, take-take, take_all, take_more}
use Rattle.std.proofs.lemmas.List.Sums.{sum_by-append, sum_by-take-drop}
use Rattle.std.proofs.Math.Seq.{drop-append_seam, split_at, take-append_seam}
use Rattle.std.proofs.lemmas.Grind.{flat_map-append}
use Rattle.std.specs.Result.{IsErr}
use Rattle.io_gate.specs.Pieces.{puts_more, puts_stopped, PutsAll}
use Rattle.std.specs.List.{list_any}
use Rattle.emu_model.specs.declared.access.Kind.{Kind}
use Rattle.emu_model.specs.Access.{Memory, address, with_byte}
use Rattle.emu_model.specs.Pages.{bytes_at, with_bytes}
use Rattle.emu_system.specs.declared.system_call.Range.{Range}
use Rattle.emu_system.specs.SystemCall.{with_ranges, range_bytes, is_denied, total}
use Rattle.linux_calls.specs.Taken.{Takes, Took}
use Rattle.linux_calls.proofs.Rewritten.{refused_written}
use Rattle.linux_calls.proofs.Takings.{both_first}

-- ---- lengths

abbrev pub range_at : List Range → ℕ → Range
range_at rs i = get_or rs i (record { address = 0; length = 0 })

total_first : (x : Range) (xs : List Range) → total (x ∷ xs) ≡ x.length + total xs
total_first x xs = sum_by-append (λ (r : Range). r.length) (x ∷ []) xs ∙ omega arith

pub total_more : (rs : List Range) (i : ℕ) → i < length rs → total (take (i + 1) rs) ≡ total (take i rs) + (range_at rs i).length
total_more rs i lt =
    ap total (take_more rs i (record { address = 0; length = 0 }) lt)
    ∙ sum_by-append (λ (r : Range). r.length) (take i rs) (range_at rs i ∷ [])
    ∙ omega arith

pub total_front : (rs : List Range) (i : ℕ) → total (take i rs) ≤ total rs
total_front rs i = omega (arith, sum_by-take-drop (λ (r : Range). r.length) rs i)

-- ---- the memory

abbrev none : List ℕ
none = []

none_taken : (n : ℕ) → take n none ≡ []
none_taken zero = refl
none_taken (suc n) = refl

none_dropped : (n : ℕ) → drop n none ≡ []
none_dropped zero = refl
none_dropped (suc n) = refl

filled_none : (rs : List Range) (m : Memory) → with_ranges m rs [] ≡ m
filled_none [] m = refl
filled_none (r ∷ rs) m =
    ap (λ (l : List ℕ). with_ranges (with_bytes m r.address l) rs (drop r.length [])) (none_taken r.length)
    ∙ ap (λ (l : List ℕ). with_ranges m rs l) (none_dropped r.length)
    ∙ filled_none rs m

nothing_dropped : (l : List ℕ) → drop 0 l ≡ l
nothing_dropped [] = refl
nothing_dropped (b ∷ l) = refl

-- ---- ranges and then ranges

pub filled_split : (xs ys : List Range) (m : Memory) (bytes : List ℕ) → with_ranges m (xs ++ ys) bytes ≡ with_ranges (with_ranges m xs (take (total xs) bytes)) ys (drop (total xs) bytes)
filled_split [] ys m bytes = ap (λ (l : List ℕ). with_ranges m ys l) (sym (nothing_dropped bytes))
filled_split (x ∷ xs) ys m bytes =
    let t : ℕ = total xs in
    filled_split xs ys (with_bytes m x.address (take x.length bytes)) (drop x.length bytes)
    ∙ ap (λ (l : List ℕ). with_ranges (with_ranges (with_bytes m x.address (take x.length bytes)) xs (take t (drop x.length bytes))) ys l) (drop-drop t x.length bytes)
    ∙ ap (λ (l : List ℕ). with_ranges (with_ranges (with_bytes m x.address l) xs (take t (drop x.length bytes))) ys (drop (x.length + t) bytes)) (sym (take-take x.length (x.length + t) bytes (omega arith)))
    ∙ ap (λ (l : List ℕ). with_ranges (with_ranges (with_bytes m x.address (take x.length (take (x.length + t) bytes))) xs l) ys (drop (x.length + t) bytes)) (sym (drop-take x.length t bytes))
    ∙ ap (λ k. with_ranges (with_ranges m (x ∷ xs) (take k bytes)) ys (drop k bytes)) (sym (total_first x xs))

-- bytes that the first ranges hold
filled_front : (rs : List Range) (j : ℕ) (m : Memory) (bytes : List ℕ) → length bytes ≤ total (take j rs) → with_ranges m rs bytes ≡ with_ranges m (take j rs) bytes
filled_front rs j m bytes few =
    let xs : List Range = take j rs in
    ap (λ rs. with_ranges m rs bytes) (sym (take-append-drop j rs))
    ∙ filled_split xs (drop j rs) m bytes
    ∙ ap (λ (l : List ℕ). with_ranges (with_ranges m xs l) (drop j rs) (drop (total xs) bytes)) (take_all (total xs) bytes few)
    ∙ ap (λ (l : List ℕ). with_ranges (with_ranges m xs bytes) (drop j rs) l) (drop_all (total xs) bytes few)
    ∙ filled_none (drop j rs) (with_ranges m xs bytes)

-- ---- a range more

module _ (m mid now : Memory) (rs : List Range) (i count n : ℕ) (told left1 left2 : Option (List ℕ)) (lt : i < length rs) (full : count ≡ total (take i rs)) (few : n ≤ (range_at rs i).length)
    (p : Takes count (with_ranges m (take i rs)) mid told left1) (q : Takes n (with_bytes mid (range_at rs i).address) now left1 left2) where
  abbrev r : Range
  r = range_at rs i

  after : with_ranges m (take (i + 1) rs) (p.taken ++ q.taken) ≡ with_bytes mid r.address q.taken
  after =
      let xs : List Range = take i rs in
      let t : total xs ≡ length p.taken = omega (arith, full, p.long) in
      ap (λ rs. with_ranges m rs (p.taken ++ q.taken)) (take_more rs i (record { address = 0; length = 0 }) lt)
      ∙ filled_split xs (r ∷ []) m (p.taken ++ q.taken)
      ∙ ap (λ k. with_ranges (with_ranges m xs (take k (p.taken ++ q.taken))) (r ∷ []) (drop k (p.taken ++ q.taken))) t
      ∙ ap (λ (l : List ℕ). with_ranges (with_ranges m xs l) (r ∷ []) (drop (length p.taken) (p.taken ++ q.taken))) (take-append_seam p.taken q.taken)
      ∙ ap (λ (l : List ℕ). with_ranges (with_ranges m xs p.taken) (r ∷ []) l) (drop-append_seam p.taken q.taken)
      ∙ ap (λ (x : Memory). with_ranges x (r ∷ []) q.taken) (sym p.memory)
      ∙ ap (λ (l : List ℕ). with_bytes mid r.address l) (take_all r.length q.taken (omega (arith, few, q.long)))

  pub range_taken : Takes (count + n) (with_ranges m (take (i + 1) rs)) now told left2
  range_taken = record {
    taken = p.taken ++ q.taken;
    long = omega (arith, length-append p.taken q.taken, p.long, q.long);
    memory = q.memory ∙ sym after;
    first = both_first count n p.taken q.taken told left1 left2 p.first q.first;
  }

  within : count + n ≤ total (take (i + 1) rs)
  within = omega (arith, total_more rs i lt, full, few)

  pub some_taken : Takes (count + n) (with_ranges m rs) now told left2
  some_taken = let t = range_taken in record {
    taken = t.taken;
    long = t.long;
    memory = t.memory ∙ sym (filled_front rs (i + 1) m t.taken (omega (arith, t.long, within)));
    first = t.first;
  }

  pub few_taken : count + n ≤ total rs
  few_taken = omega (arith, within, total_front rs (i + 1))

-- ---- rights

any_same : (p q : Range → Bool) (rs : List Range) → ((r : Range) → p r ≡ q r) → list_any p rs ≡ list_any q rs
any_same p q [] same = refl
any_same p q (r ∷ rs) same = ap (λ b. b || list_any p rs) (same r) ∙ ap (λ b. q r || b) (any_same p q rs same)

pub rights_stay : (kind : Kind) (n a : ℕ) (mid now : Memory) (left1 left2 : Option (List ℕ)) (rs : List Range) → Takes n (with_bytes mid a) now left1 left2 → list_any (is_denied now kind) rs ≡ list_any (is_denied mid kind) rs
rights_stay kind n a mid now left1 left2 rs q =
    any_same (is_denied now kind) (is_denied mid kind) rs (λ r.
    ap (λ (x : Memory). is_denied x kind r) q.memory ∙ ap (λ (o : Option ℕ). is_some o) (refused_written q.taken mid a r.address r.length kind))

-- ---- what is put

gathered_on : (m : Memory) (xs ys : List Range) → range_bytes m (xs ++ ys) ≡ range_bytes m xs ++ range_bytes m ys
gathered_on m xs ys = flat_map-append (λ (r : Range). bytes_at m r.address r.length) xs ys

-- the range at place i was broken off
pub put_stopped : (m at : Memory) (rs : List Range) (i : ℕ) (T E : Type 0) (old mid new : Option (List ℕ)) (r : Result T E) → at ≡ m → i < length rs → IsErr r
    → IfSome old (λ had. mid ≡ Some (had ++ range_bytes m (take i rs)))
    → IfSome mid (λ had. (n : ℕ) × (new ≡ Some (had ++ take n (bytes_at at (range_at rs i).address (range_at rs i).length)))) → PutsAll old new (range_bytes m rs) r
put_stopped m at rs i T E old mid new r same lt is gained p =
    let x : Range = range_at rs i in
    let rest : List ℕ = range_bytes m (drop (suc i) rs) in
    let whole : range_bytes m rs ≡ range_bytes m (take i rs) ++ (bytes_at m x.address x.length ++ rest) =
    ap (λ rs. range_bytes m rs) (split_at rs i (record { address = 0; length = 0 }) lt)
    ∙ gathered_on m (take i rs) (x ∷ drop (suc i) rs)
    ∙ ap (λ (l : List ℕ). range_bytes m (take i rs) ++ l) (gathered_on m (x ∷ []) (drop (suc i) rs) ∙ ap (λ (l : List ℕ). l ++ rest) (append-nil (bytes_at m x.address x.length))) in
    subst (λ (l : List ℕ). PutsAll old new l r) (sym whole)
    (puts_more old mid new (range_bytes m (take i rs)) (bytes_at m x.address x.length ++ rest) r gained
    (puts_stopped mid new (bytes_at m x.address x.length) rest r is (subst (λ (a : Memory). IfSome mid (λ had. (n : ℕ) × (new ≡ Some (had ++ take n (bytes_at a x.address x.length))))) same p)))
