-- Ranges of bytes, cut in two, and their addresses modulo 2^64.
use Rattle.std.proofs.Common.{◌≡◌, ◌<◌, ◌≤◌, ℕ, zero, suc, ◌+◌, ◌-◌, ◌*◌, ◌%◌, ◌^◌, true, false, List, ◌∷◌, ◌++◌, length, take, min, Option, Some, None, is_none, IfSome, Result, Ok, Err, if◌then◌else◌, refl, sym, ap, subst, ◌∙◌, append_assoc, append-nil, arith}
use Rattle.std.proofs.Math.Nat.{mod-add-mod, mod-mod}
use Rattle.std.proofs.Math.Seq.{take-append-add}
use Rattle.std.proofs.lemmas.List.{take-append-le, take_min}
use Rattle.std.specs.Result.{IsErr}
use Rattle.io_gate.specs.Pieces.{PutsAll}
use Rattle.emu_model.specs.declared.access.Kind.{Kind}
use Rattle.guest_mem.specs.Slices.{to_page_end}
use Rattle.emu_model.specs.Access.{Memory, address, allowed, byte_at, refused, value, page_size}
use Rattle.emu_model.specs.AccessEquations.{refused-zero, refused-suc, value-zero, value-suc}
use Rattle.emu_system.specs.SystemCall.{entry_at}
use Rattle.emu_model.specs.AccessLaws.{bytes_split, length_bytes_at, refused_first, refused_split}
use Rattle.emu_model.specs.Pages.{bytes_at}
use Rattle.emu_model.specs.PageEquations.{bytes_at-zero, bytes_at-suc}

-- ---- addresses that are the same modulo 2^64

next_same : (a b : ℕ) → address a ≡ address b → address (a + 1) ≡ address (b + 1)
next_same a b same = sym (mod-add-mod a (2 ^ 64) 1) ∙ ap (λ x. (x + 1) % 2 ^ 64) same ∙ mod-add-mod b (2 ^ 64) 1

pub refused_same : (m : Memory) (a b n : ℕ) (kind : Kind) → address a ≡ address b → refused m a n kind ≡ refused m b n kind
refused_same m a b zero kind same = refused-zero m a kind ∙ sym (refused-zero m b kind)
refused_same m a b (suc n) kind same =
    refused-suc m a n kind
    ∙ ap (λ x. if allowed m kind x then refused m (a + 1) n kind else Some x) same
    ∙ ap (λ r. if allowed m kind (address b) then r else Some (address b)) (refused_same m (a + 1) (b + 1) n kind (next_same a b same))
    ∙ sym (refused-suc m b n kind)

bytes_same : (m : Memory) (a b n : ℕ) → address a ≡ address b → bytes_at m a n ≡ bytes_at m b n
bytes_same m a b zero same = bytes_at-zero m a ∙ sym (bytes_at-zero m b)
bytes_same m a b (suc n) same =
    bytes_at-suc m a n
    ∙ ap (λ x. byte_at m x ∷ bytes_at m (a + 1) n) same
    ∙ ap (λ (l : List ℕ). byte_at m (address b) ∷ l) (bytes_same m (a + 1) (b + 1) n (next_same a b same))
    ∙ sym (bytes_at-suc m b n)

pub wrapped : (a : ℕ) → address (address a) ≡ address a
wrapped a = mod-mod a (2 ^ 64)

-- ---- a range in two parts

pub first_allowed : (m : Memory) (a n : ℕ) (kind : Kind) → refused m a (suc n) kind ≡ None → allowed m kind (address a) ≡ true
first_allowed m a n kind is =
    elim (allowed m kind (address a)) as (λ b. allowed m kind (address a) ≡ b → b ≡ true) [
      | true ↦ λ e. refl
      | false ↦ λ e. let s : Some (address a) ≡ None = ap (λ b. if b then refused m (a + 1) n kind else Some (address a)) (sym e) ∙ sym (refused-suc m a n kind) ∙ is in cc
    ] refl

after_first : (m : Memory) (a n : ℕ) (kind : Kind) → allowed m kind (address a) ≡ true → refused m a (suc n) kind ≡ refused m (a + 1) n kind
after_first m a n kind is = refused-suc m a n kind ∙ ap (λ b. if b then refused m (a + 1) n kind else Some (address a)) is

-- the rest of a range that isn't refused
pub rest_granted : (p n : ℕ) (m : Memory) (a : ℕ) (kind : Kind) → refused m a (p + n) kind ≡ None → refused m (a + p) n kind ≡ None
rest_granted zero n m a kind is = let e : 0 + n ≡ n = omega arith in let f : a + 0 ≡ a = omega arith in ap (λ x. refused m x n kind) f ∙ ap (λ k. refused m a k kind) (sym e) ∙ is
rest_granted (suc p) n m a kind is =
    let e : suc p + n ≡ suc (p + n) = omega arith in
    let f : (a + 1) + p ≡ a + suc p = omega arith in
    let whole : refused m a (suc (p + n)) kind ≡ None = ap (λ k. refused m a k kind) (sym e) ∙ is in
    ap (λ x. refused m x n kind) (sym f) ∙ rest_granted p n m (a + 1) kind (sym (after_first m a (p + n) kind (first_allowed m a (p + n) kind whole)) ∙ whole)

-- ---- a loop over the pieces of a range

pub range_goes_on : (m : Memory) (a count at len : ℕ) (kind : Kind) → at + len ≤ count → refused m (address (a + at)) len kind ≡ None → refused m (a + (at + len)) (count - (at + len)) kind ≡ refused m (a + at) (count - at) kind
range_goes_on m a count at len kind within is =
    let e : len + (count - (at + len)) ≡ count - at = omega arith in
    let f : (a + at) + len ≡ a + (at + len) = omega arith in
    ap (λ k. refused m k (count - (at + len)) kind) (sym f)
    ∙ sym (refused_split len (count - (at + len)) m (a + at) kind (sym (refused_same m (address (a + at)) (a + at) len kind (wrapped (a + at))) ∙ is))
    ∙ ap (λ k. refused m (a + at) k kind) e

pub range_stops : (m : Memory) (a count at : ℕ) (kind : Kind) → at < count → allowed m kind (address (a + at)) ≡ false → is_none (refused m (a + at) (count - at) kind) ≡ false
range_stops m a count at kind below is =
    let e : count - at ≡ suc (count - (at + 1)) = omega arith in
    ap (λ k. is_none (refused m (a + at) k kind)) e
    ∙ ap is_none (refused-suc m (a + at) (count - (at + 1)) kind)
    ∙ ap (λ b. is_none (if b then refused m ((a + at) + 1) (count - (at + 1)) kind else Some (address (a + at)))) is

pub gained_all : (m : Memory) (a at len : ℕ) (old mid new : Option (List ℕ)) (piece : List ℕ) → piece ≡ bytes_at m (address (a + at)) len
    → IfSome old (λ had. mid ≡ Some (had ++ bytes_at m a at)) → IfSome mid (λ had. new ≡ Some (had ++ piece)) → IfSome old (λ had. new ≡ Some (had ++ bytes_at m a (at + len)))
gained_all m a at len None mid new piece is p q = tt
gained_all m a at len (Some had) mid new piece is p q =
    let r : new ≡ Some ((had ++ bytes_at m a at) ++ piece) = subst (λ (h : Option (List ℕ)). IfSome h (λ had. new ≡ Some (had ++ piece))) p q in
    let whole : bytes_at m a (at + len) ≡ bytes_at m a at ++ piece = bytes_split at len m a ∙ ap (λ (l : List ℕ). bytes_at m a at ++ l) (sym (is ∙ bytes_same m (address (a + at)) (a + at) len (wrapped (a + at)))) in
    r ∙ ap (λ (l : List ℕ). Some l) (append_assoc had (bytes_at m a at) piece ∙ ap (λ (l : List ℕ). had ++ l) (sym whole))

pub gained_first : (m : Memory) (a at len count : ℕ) (old mid new : Option (List ℕ)) (piece : List ℕ) → at + len ≤ count → piece ≡ bytes_at m (address (a + at)) len
    → IfSome old (λ had. mid ≡ Some (had ++ bytes_at m a at)) → IfSome mid (λ had. (n : ℕ) × (new ≡ Some (had ++ take n piece))) → IfSome old (λ had. (n : ℕ) × (new ≡ Some (had ++ take n (bytes_at m a count))))
gained_first m a at len count None mid new piece within is p q = tt
gained_first m a at len count (Some had) mid new piece within is p q =
    let r : (n : ℕ) × (new ≡ Some ((had ++ bytes_at m a at) ++ take n piece)) = subst (λ (h : Option (List ℕ)). IfSome h (λ had. (n : ℕ) × (new ≡ Some (had ++ take n piece)))) p q in
    let n : ℕ = r.0 in
    let front : List ℕ = bytes_at m a at in
    let same : piece ≡ bytes_at m (a + at) len = is ∙ bytes_same m (address (a + at)) (a + at) len (wrapped (a + at)) in
    let long : length piece ≡ len = ap length same ∙ length_bytes_at len m (a + at) in
    let e : at + (len + (count - (at + len))) ≡ count = omega arith in
    let rest : List ℕ = bytes_at m ((a + at) + len) (count - (at + len)) in
    let whole : bytes_at m a count ≡ front ++ (piece ++ rest) =
    ap (λ k. bytes_at m a k) (sym e) ∙ bytes_split at (len + (count - (at + len))) m a ∙ ap (λ (l : List ℕ). front ++ l) (bytes_split len (count - (at + len)) m (a + at) ∙ ap (λ (l : List ℕ). l ++ rest) (sym same)) in
    let few : min n (length piece) ≤ length piece = omega arith in
    let cut : take (at + min n (length piece)) (bytes_at m a count) ≡ front ++ take n piece =
    ap (λ (l : List ℕ). take (at + min n (length piece)) l) whole
    ∙ ap (λ k. take (k + min n (length piece)) (front ++ (piece ++ rest))) (sym (length_bytes_at at m a))
    ∙ take-append-add front (piece ++ rest) (min n (length piece))
    ∙ ap (λ (l : List ℕ). front ++ l) (take-append-le (min n (length piece)) piece rest few ∙ take_min n piece) in
    (at + min n (length piece), r.1 ∙ ap (λ (l : List ℕ). Some l) (append_assoc had front (take n piece) ∙ ap (λ (l : List ℕ). had ++ l) (sym cut)))

pub none_put : (m : Memory) (a : ℕ) (held : Option (List ℕ)) → IfSome held (λ had. held ≡ Some (had ++ bytes_at m a 0))
none_put m a None = tt
none_put m a (Some had) = ap (λ (l : List ℕ). Some l) (sym (append-nil had) ∙ ap (λ (l : List ℕ). had ++ l) (sym (bytes_at-zero m a)))

-- ---- a piece, as far as its page goes

-- the bytes that one page has of the rest of a range
pub record IsPiece (m : Memory) (kind : Kind) (a count at : ℕ) (piece : List ℕ) : Type 0 where
  pub some : 0 < length piece
  pub within : at + length piece ≤ count
  pub bytes : piece ≡ bytes_at m (address (a + at)) (length piece)
  pub granted : refused m (address (a + at)) (length piece) kind ≡ None

pub piece_is : (m now : Memory) (kind : Kind) (a count at : ℕ) (piece : List ℕ) → at < count → now ≡ m → piece ≡ bytes_at now (address (a + at)) (to_page_end (address (a + at)) (count - at))
    → refused now (address (a + at)) (to_page_end (address (a + at)) (count - at)) kind ≡ None → IsPiece m kind a count at piece
piece_is m now kind a count at piece below same bytes granted =
    let b : ℕ = address (a + at) in
    let n : ℕ = to_page_end b (count - at) in
    let long : length piece ≡ n = ap length bytes ∙ length_bytes_at n now b in
    let near : b % page_size < page_size = omega arith in
    record {
      some = omega (arith, long, near);
      within = omega (arith, long);
      bytes = bytes ∙ ap (λ x. bytes_at x b n) same ∙ ap (λ k. bytes_at m b k) (sym long);
      granted = ap (λ k. refused m b k kind) long ∙ ap (λ x. refused x b n kind) (sym same) ∙ granted;
    }

-- where a put failed, some of the first bytes came
pub put_failed : {T E : Type 0} (old new : Option (List ℕ)) (whole : List ℕ) (r : Result T E) → IsErr r → IfSome old (λ had. (n : ℕ) × (new ≡ Some (had ++ take n whole))) → PutsAll old new whole r
put_failed None new whole r is p = tt
put_failed (Some had) new whole (Ok x) is p = let no : false ≡ true = is in cc
put_failed (Some had) new whole (Err e) is p = p

-- ---- numbers that stand in a range

-- a part of a range that isn't refused, at an address that is the same modulo 2^64
pub part_granted : (p n k : ℕ) (m : Memory) (a x : ℕ) (kind : Kind) → p + n ≤ k → address x ≡ address (a + p) → refused m a k kind ≡ None → refused m x n kind ≡ None
part_granted p n k m a x kind within same is =
    let e : p + (k - p) ≡ k = omega arith in
    let f : n + (k - p - n) ≡ k - p = omega arith in
    let rest : refused m (a + p) (n + (k - p - n)) kind ≡ None = ap (λ j. refused m (a + p) j kind) f ∙ rest_granted p (k - p) m a kind (ap (λ j. refused m a j kind) e ∙ is) in
    refused_same m x (a + p) n kind same ∙ first (refused m (a + p) n kind) refl rest
  where
    first : (o : Option ℕ) → refused m (a + p) n kind ≡ o → refused m (a + p) (n + (k - p - n)) kind ≡ None → o ≡ None
    first None is none = refl
    first (Some y) is none = let no : Some y ≡ None = sym (refused_first n (k - p - n) m (a + p) kind y is) ∙ none in cc

value_same : (n : ℕ) (m : Memory) (a b : ℕ) → address a ≡ address b → value m a n ≡ value m b n
value_same zero m a b same = value-zero m a ∙ sym (value-zero m b)
value_same (suc n) m a b same =
    value-suc m a n
    ∙ ap (λ x. byte_at m x + 256 * value m (a + 1) n) same
    ∙ ap (λ v. byte_at m (address b) + 256 * v) (value_same n m (a + 1) (b + 1) (next_same a b same))
    ∙ sym (value-suc m b n)

-- an entry at its place: the address, and the length 8 bytes behind it
pub entry_is : (m now : Memory) (a k x y p q : ℕ) → now ≡ m → x ≡ address (a + 16 * k) → y ≡ address (x + 8) → p ≡ value m x 8 → q ≡ value now y 8 → record { address = p; length = q } ≡ entry_at m (a + 16 * k)
entry_is m now a k x y p q unchanged at behind first second =
    let at_entry : address x ≡ address (a + 16 * k) = ap address at ∙ wrapped (a + 16 * k) in
    let at_length : address y ≡ address (a + 16 * k + 8) = ap address behind ∙ wrapped (x + 8) ∙ sym (mod-add-mod x (2 ^ 64) 8) ∙ ap (λ z. (z + 8) % 2 ^ 64) at_entry ∙ mod-add-mod (a + 16 * k) (2 ^ 64) 8 in
    λ i. record {
      address = (first ∙ value_same 8 m x (a + 16 * k) at_entry) i;
      length = (second ∙ ap (λ (n : Memory). value n y 8) unchanged ∙ value_same 8 m y (a + 16 * k + 8) at_length) i;
    }
