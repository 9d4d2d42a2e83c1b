-- Bytes in a row, read and written in a memory and in the map of its bytes.
use Rattle.std.specs.Prelude.{◌≡◌, ◌≢◌, ◌<◌, ◌≤◌, if◌then◌else◌, ℕ, zero, suc, ◌+◌, ◌/◌, ◌%◌, ◌^◌, true, false, cond, List, [], ◌∷◌, get_or, length, nat_eq, Option, Some, None, is_some}
use Rattle.std.proofs.Common.{refl, ap, sym, ◌∙◌, arith}
use Rattle.std.proofs.Math.ListN.{length-set}
use Rattle.std.specs.Option.{unwrap_or}
use Rattle.std.specs.Ordering.{nat_cmp, eq_by_cmp}
use Rattle.std.specs.Cmp.{nat_cmp_total, unsigned_tied}
use Rattle.std.specs.FinMap.{FinMap, get, insert, contains_key, get-insert}
use Rattle.emu_model.specs.Access.{Memory, Page, page_of, with_byte, pages_with_byte, page_with_byte, address, page_size}
use Rattle.emu_model.specs.ByPage.{page_byte, page_peek}
use Rattle.emu_model.specs.AccessLaws.{peek_after, write_unmapped}
use Rattle.emu_model.specs.ByteMap.{IsByteMap, put}
use Rattle.emu_model.specs.Pages.{bytes_at, peeked, with_bytes}
use Rattle.emu_model.specs.PageEquations.{bytes_at-zero, bytes_at-suc}
use Rattle.emu_model.specs.SoundState.{IsSoundMemory}
use Rattle.emu_model.specs.Ranges.{bytes_in_row, with_bytes_in_row}
use Rattle.emu_model.proofs.Keys.{tied, same, apart}

-- ---- reading

byte_peeked : (o : Option Page) (k : ℕ) → page_byte o k ≡ unwrap_or (page_peek o k) 0
byte_peeked None k = refl
byte_peeked (Some p) k = refl

pub reads : (n : ℕ) (m : Memory) (bytes : FinMap nat_cmp ℕ) (a : ℕ) → IsByteMap m bytes → bytes_at m a n ≡ bytes_in_row bytes a n
reads zero m bytes a is = bytes_at-zero m a
reads (suc n) m bytes a is =
    bytes_at-suc m a n
    ∙ ap (λ b. b ∷ bytes_at m (a + 1) n) (byte_peeked (page_of m (address a)) (address a % page_size) ∙ ap (λ (o : Option ℕ). unwrap_or o 0) (sym (is (address a))))
    ∙ ap (λ bs. unwrap_or (get bytes (address a)) 0 ∷ bs) (reads n m bytes (a + 1) is)

-- ---- one byte put

put_other : (bytes : FinMap nat_cmp ℕ) (a b q : ℕ) → (q ≡ a → ⊥) → get (put bytes a b) q ≡ get bytes q
put_other bytes a b q ne = elim (contains_key bytes a) as (λ t. get (if t then insert bytes a b else bytes) q ≡ get bytes q) [
  | true ↦ get-insert nat_cmp_total bytes a b q ∙ ap (λ t. cond t (Some b) (get bytes q)) (apart q a ne)
  | false ↦ refl
]

put_there : (bytes : FinMap nat_cmp ℕ) (a b : ℕ) → contains_key bytes a ≡ true → get (put bytes a b) a ≡ Some b
put_there bytes a b is =
    ap (λ t. get (if t then insert bytes a b else bytes) a) is
    ∙ get-insert nat_cmp_total bytes a b a
    ∙ ap (λ t. cond t (Some b) (get bytes a)) (same a a refl)

put_has : (bytes : FinMap nat_cmp ℕ) (a b q : ℕ) → contains_key (put bytes a b) q ≡ contains_key bytes q
put_has bytes a b q =
    elim (contains_key bytes a) as (λ t. contains_key bytes a ≡ t → contains_key (if t then insert bytes a b else bytes) q ≡ contains_key bytes q) [
      | true ↦ λ is.
          ap (λ (o : Option ℕ). is_some o) (get-insert nat_cmp_total bytes a b q)
          ∙ elim (eq_by_cmp nat_cmp q a) as (λ t. eq_by_cmp nat_cmp q a ≡ t → is_some (cond t (Some b) (get bytes q)) ≡ contains_key bytes q) [
            | true ↦ λ e. sym (ap (λ k. contains_key bytes k) (tied q a e) ∙ is)
            | false ↦ λ e. refl
          ] refl
      | false ↦ λ is. refl
    ] refl

-- ---- a row put

later : (a k : ℕ) → a + suc k ≡ a + 1 + k
later a k = omega arith

at_first : (a : ℕ) → a + 0 ≡ a
at_first a = omega arith

not_first : (a k n : ℕ) → k < n → suc n ≤ 2 ^ 64 → address (a + 1 + k) ≡ address a → ⊥
not_first a k n lt few e = omega arith

pub has_same : (xs : List ℕ) (bytes : FinMap nat_cmp ℕ) (a q : ℕ) → contains_key (with_bytes_in_row bytes a xs) q ≡ contains_key bytes q
has_same [] bytes a q = refl
has_same (x ∷ xs) bytes a q = has_same xs (put bytes (address a) x) (a + 1) q ∙ put_has bytes (address a) x q

pub elsewhere : (xs : List ℕ) (bytes : FinMap nat_cmp ℕ) (a q : ℕ) → ((k : ℕ) → k < length xs → address (a + k) ≢ q) → get (with_bytes_in_row bytes a xs) q ≡ get bytes q
elsewhere [] bytes a q ne = refl
elsewhere (x ∷ xs) bytes a q ne =
    elsewhere xs (put bytes (address a) x) (a + 1) q (λ k lt e. ne (suc k) (omega arith) (ap address (later a k) ∙ e))
    ∙ put_other bytes (address a) x q (λ e. ne 0 (omega arith) (ap address (at_first a) ∙ sym e))

pub there : (xs : List ℕ) (bytes : FinMap nat_cmp ℕ) (a k : ℕ) → length xs ≤ 2 ^ 64 → k < length xs → contains_key bytes (address (a + k)) ≡ true
    → get (with_bytes_in_row bytes a xs) (address (a + k)) ≡ Some (get_or xs k 0)
there [] bytes a k few lt has = absurd (omega arith)
there (x ∷ xs) bytes a zero few lt has =
    let here : address (a + 0) ≡ address a = ap address (at_first a) in
    ap (λ q. get (with_bytes_in_row (put bytes (address a) x) (a + 1) xs) q) here
    ∙ elsewhere xs (put bytes (address a) x) (a + 1) (address a) (λ k less e. not_first a k (length xs) less few e)
    ∙ put_there bytes (address a) x (ap (λ q. contains_key bytes q) (sym here) ∙ has)
there (x ∷ xs) bytes a (suc k) few lt has =
    let next : address (a + suc k) ≡ address (a + 1 + k) = ap address (later a k) in
    ap (λ q. get (with_bytes_in_row (put bytes (address a) x) (a + 1) xs) q) next
    ∙ there xs (put bytes (address a) x) (a + 1) k (omega arith) (omega arith)
    (put_has bytes (address a) x (address (a + 1 + k)) ∙ ap (λ q. contains_key bytes q) (sym next) ∙ has)

-- ---- writing

-- each page has its 4,096 bytes
abbrev AreWhole : Memory → Type 0
AreWhole m = (page : ℕ) (p : Page) → get m.pages page ≡ Some p → length p.bytes ≡ page_size

whole_with_byte : (m : Memory) (a b : ℕ) → AreWhole m → AreWhole (with_byte m a b)
whole_with_byte m a b h =
    elim (page_of m a) as (λ (o : Option Page). page_of m a ≡ o → AreWhole (record m { pages = pages_with_byte m.pages o (a / page_size) (a % page_size) b })) [
      | None ↦ λ is. h
      | Some p ↦ λ is page q at.
          elim (eq_by_cmp nat_cmp page (a / page_size)) as (λ t. cond t (Some (page_with_byte p (a % page_size) b)) (get m.pages page) ≡ Some q → length q.bytes ≡ page_size) [
            | true ↦ λ x. let here : page_with_byte p (a % page_size) b ≡ q = cc in
                ap (λ (r : Page). length r.bytes) (sym here) ∙ length-set p.bytes (a % page_size) b ∙ h (a / page_size) p is
            | false ↦ λ x. h page q x
          ] (sym (get-insert nat_cmp_total m.pages (a / page_size) (page_with_byte p (a % page_size) b) page) ∙ at)
    ] refl

put_map : (m : Memory) (bytes : FinMap nat_cmp ℕ) (a b : ℕ) (o : Option Page) → AreWhole m → IsByteMap m bytes → page_of m a ≡ o → IsByteMap (with_byte m a b) (put bytes a b)
put_map m bytes a b None h is at q =
    let missing : get bytes a ≡ None = is a ∙ ap (λ (o : Option Page). page_peek o (a % page_size)) at in
    ap (λ (o : Option ℕ). get (if is_some o then insert bytes a b else bytes) q) missing
    ∙ is q
    ∙ ap (λ m. peeked m q) (sym (write_unmapped m a b at))
put_map m bytes a b (Some p) h is at q =
    let found : get bytes a ≡ Some (get_or p.bytes (a % page_size) 0) = is a ∙ ap (λ (o : Option Page). page_peek o (a % page_size)) at in
    ap (λ (o : Option ℕ). get (if is_some o then insert bytes a b else bytes) q) found
    ∙ get-insert nat_cmp_total bytes a b q
    ∙ ap (λ t. cond t (Some b) (get bytes q)) (unsigned_tied q a)
    ∙ ap (λ o. cond (nat_eq q a) (Some b) o) (is q)
    ∙ sym (peek_after m a b q p at (h (a / page_size) p at))

row_map : (xs : List ℕ) (m : Memory) (bytes : FinMap nat_cmp ℕ) (a : ℕ) → AreWhole m → IsByteMap m bytes → IsByteMap (with_bytes m a xs) (with_bytes_in_row bytes a xs)
row_map [] m bytes a h is = is
row_map (x ∷ xs) m bytes a h is =
    row_map xs (with_byte m (address a) x) (put bytes (address a) x) (a + 1) (whole_with_byte m (address a) x h) (put_map m bytes (address a) x _ h is refl)

pub writes : (xs : List ℕ) (m : Memory) (bytes : FinMap nat_cmp ℕ) (a : ℕ) → IsSoundMemory m → IsByteMap m bytes → IsByteMap (with_bytes m a xs) (with_bytes_in_row bytes a xs)
writes xs m bytes a h is = row_map xs m bytes a (λ page p at. (h.pages page p at).count) is
