-- Bytes that are written as they stood, behind others that were written.
use Rattle.std.proofs.Common.{◌≡◌, ◌<◌, ◌≤◌, ℕ, zero, suc, ◌+◌, ◌-◌, ◌/◌, ◌%◌, ◌^◌, Bool, true, false, cond, List, [], ◌∷◌, ◌++◌, length, take, drop, Option, Some, None, if◌then◌else◌, refl, sym, ap, ◌∙◌, arith}
use Rattle.std.proofs.Math.Nat.{mod-add-mod}
use Rattle.std.proofs.Math.Seq.{drop-append_seam}
use Rattle.std.proofs.lemmas.Bool.{eqb-true}
use Rattle.std.proofs.lemmas.List.{set-get_or, get_or-set_other, take_all}
use Rattle.std.specs.Ordering.{nat_cmp, eq_by_cmp}
use Rattle.std.specs.Cmp.{nat_cmp_total, unsigned_tied}
use Rattle.std.specs.FinMap.{get, insert, get-insert}
use Rattle.emu_model.specs.declared.access.Kind.{Kind}
use Rattle.emu_model.specs.Access.{Memory, Page, address, page_of, byte_at, with_byte, pages_with_byte, page_with_byte, allowed, refused, page_size}
use Rattle.emu_model.specs.ByPage.{page_byte, page_gives}
use Rattle.emu_model.specs.AccessEquations.{refused-zero, refused-suc}
use Rattle.emu_model.specs.AccessLaws.{write_unmapped, with_bytes_split, bytes_split, length_bytes_at}
use Rattle.emu_model.specs.Pages.{bytes_at, with_bytes}
use Rattle.emu_model.specs.PageEquations.{bytes_at-zero, bytes_at-suc}
use Rattle.emu_model.specs.SoundState.{AreBytes}
use Rattle.emu_model.specs.WithinPage.{insert_same}
use Rattle.guest_mem.specs.Slices.{memory_with_slice, to_page_end}
use Rattle.guest_pages.specs.Bytes.{as_bytes-same}

-- ---- a byte that is written as it stood

same_by_page : (m : Memory) (a : ℕ) (o : Option Page) → page_of m a ≡ o → record m { pages = pages_with_byte m.pages o (a / page_size) (a % page_size) (page_byte o (a % page_size)) } ≡ m
same_by_page m a None is = refl
same_by_page m a (Some p) is =
    ap (λ (bytes : List ℕ). record m { pages = insert m.pages (a / page_size) (record p { bytes = bytes }) }) (set-get_or p.bytes (a % page_size) 0)
    ∙ ap (λ pages. record m { pages = pages }) (insert_same m.pages (a / page_size) p is)

same_byte : (m : Memory) (a : ℕ) → with_byte m a (byte_at m a) ≡ m
same_byte m a = same_by_page m a (page_of m a) refl

pub same_bytes : (n : ℕ) (m : Memory) (a : ℕ) → with_bytes m a (bytes_at m a n) ≡ m
same_bytes zero m a = ap (λ (l : List ℕ). with_bytes m a l) (bytes_at-zero m a)
same_bytes (suc n) m a =
    ap (λ (l : List ℕ). with_bytes m a l) (bytes_at-suc m a n)
    ∙ ap (λ (x : Memory). with_bytes x (a + 1) (bytes_at m (a + 1) n)) (same_byte m (address a))
    ∙ same_bytes n m (a + 1)

-- ---- other bytes stay

other_in_page : (m : Memory) (a b q : ℕ) (p : Page) (t : Bool) → page_of m a ≡ Some p → (q ≡ a → ⊥) → eq_by_cmp nat_cmp (q / page_size) (a / page_size) ≡ t
    → page_byte (cond t (Some (page_with_byte p (a % page_size) b)) (page_of m q)) (q % page_size) ≡ byte_at m q
other_in_page m a b q p true is other tie =
    let page : q / page_size ≡ a / page_size = eqb-true (q / page_size) (a / page_size) (sym (unsigned_tied (q / page_size) (a / page_size)) ∙ tie) in
    let apart : q % page_size ≡ a % page_size → ⊥ = λ e. other (omega (arith, e, page)) in
    let here : page_of m q ≡ Some p = ap (λ k. get m.pages k) page ∙ is in
    get_or-set_other p.bytes (a % page_size) (q % page_size) b 0 apart ∙ ap (λ (o : Option Page). page_byte o (q % page_size)) (sym here)
other_in_page m a b q p false is other tie = refl

other_byte : (m : Memory) (a b q : ℕ) (o : Option Page) → page_of m a ≡ o → (q ≡ a → ⊥) → byte_at (with_byte m a b) q ≡ byte_at m q
other_byte m a b q None is other = ap (λ (x : Memory). byte_at x q) (write_unmapped m a b is)
other_byte m a b q (Some p) is other =
    ap (λ (o : Option Page). page_byte (get (pages_with_byte m.pages o (a / page_size) (a % page_size) b) (q / page_size)) (q % page_size)) is
    ∙ ap (λ (o : Option Page). page_byte o (q % page_size)) (get-insert nat_cmp_total m.pages (a / page_size) (page_with_byte p (a % page_size) b) (q / page_size))
    ∙ other_in_page m a b q p _ is other refl

low : (a : ℕ) → a < 2 ^ 64 → address a ≡ a
low a h = omega arith

-- behind a byte that is written
other_bytes : (n : ℕ) (m : Memory) (a x b : ℕ) → a < b → b + n ≤ 2 ^ 64 → bytes_at (with_byte m a x) b n ≡ bytes_at m b n
other_bytes zero m a x b h fits = bytes_at-zero (with_byte m a x) b ∙ sym (bytes_at-zero m b)
other_bytes (suc n) m a x b h fits =
    let e : address b ≡ b = low b (omega arith) in
    bytes_at-suc (with_byte m a x) b n
    ∙ ap (λ y. y ∷ bytes_at (with_byte m a x) (b + 1) n) (other_byte m a x (address b) _ refl (λ same. absurd (omega (arith, same, e))))
    ∙ ap (λ (l : List ℕ). byte_at m (address b) ∷ l) (other_bytes n m a x (b + 1) (omega arith) (omega arith))
    ∙ sym (bytes_at-suc m b n)

bytes_behind : (xs : List ℕ) (n : ℕ) (m : Memory) (a b : ℕ) → a + length xs ≤ b → b + n ≤ 2 ^ 64 → bytes_at (with_bytes m a xs) b n ≡ bytes_at m b n
bytes_behind [] n m a b h fits = refl
bytes_behind (x ∷ xs) zero m a b h fits = bytes_at-zero (with_bytes m a (x ∷ xs)) b ∙ sym (bytes_at-zero m b)
bytes_behind (x ∷ xs) (suc n) m a b h fits =
    let e : address a ≡ a = low a (omega arith) in
    bytes_behind xs (suc n) (with_byte m (address a) x) (a + 1) b (omega arith) fits
    ∙ other_bytes (suc n) m (address a) x b (omega (arith, e)) fits

-- the bytes that are written, and behind them those that stood there
pub rewritten : (m : Memory) (a len : ℕ) (xs : List ℕ) → length xs ≤ len → a + len ≤ 2 ^ 64 → with_bytes m a (xs ++ drop (length xs) (bytes_at m a len)) ≡ with_bytes m a xs
rewritten m a len xs few fits =
    let n : ℕ = length xs in
    let split : n + (len - n) ≡ len = omega arith in
    let rest : drop n (bytes_at m a len) ≡ bytes_at m (a + n) (len - n) =
    ap (λ k. drop n (bytes_at m a k)) (sym split)
    ∙ ap (λ (l : List ℕ). drop n l) (bytes_split n (len - n) m a)
    ∙ ap (λ k. drop k (bytes_at m a n ++ bytes_at m (a + n) (len - n))) (sym (length_bytes_at n m a))
    ∙ drop-append_seam (bytes_at m a n) (bytes_at m (a + n) (len - n)) in
    ap (λ (l : List ℕ). with_bytes m a (xs ++ l)) rest
    ∙ with_bytes_split xs (bytes_at m (a + n) (len - n)) m a
    ∙ ap (λ (l : List ℕ). with_bytes (with_bytes m a xs) (a + n) l) (sym (bytes_behind xs (len - n) m a (a + n) (omega arith) (omega arith)))
    ∙ same_bytes (len - n) (with_bytes m a xs) (a + n)

-- the same of a slice of a page that was lent
pub slice_rewritten : (m : Memory) (a most : ℕ) (xs w : List ℕ) → a < 2 ^ 64 → AreBytes w → length xs ≤ to_page_end a most → w ≡ xs ++ drop (length xs) (bytes_at m a (to_page_end a most)) → length w ≡ to_page_end a most → memory_with_slice m a w ≡ with_bytes m a xs
slice_rewritten m a most xs w word small few is long =
    ap (λ (l : List ℕ). with_bytes m a (take (page_size - a % page_size) l)) (as_bytes-same w small)
    ∙ ap (λ (l : List ℕ). with_bytes m a l) (take_all (page_size - a % page_size) w (omega (arith, long)))
    ∙ ap (λ (l : List ℕ). with_bytes m a l) is
    ∙ rewritten m a (to_page_end a most) xs few (omega arith)

-- ---- rights, and addresses that are the same modulo 2^64

next_same : (a b : ℕ) → address a ≡ address b → address (a + 1) ≡ address (b + 1)
next_same a b same = sym (mod-add-mod a (2 ^ 64) 1) ∙ ap (λ x. (x + 1) % 2 ^ 64) same ∙ mod-add-mod b (2 ^ 64) 1

pub written_same : (bytes : List ℕ) (m : Memory) (a b : ℕ) → address a ≡ address b → with_bytes m a bytes ≡ with_bytes m b bytes
written_same [] m a b same = refl
written_same (x ∷ bytes) m a b same =
    ap (λ q. with_bytes (with_byte m q x) (a + 1) bytes) same
    ∙ written_same bytes (with_byte m (address b) x) (a + 1) (b + 1) (next_same a b same)

same_rights : (m : Memory) (a b q : ℕ) (p : Page) (kind : Kind) (t : Bool) → page_of m a ≡ Some p → eq_by_cmp nat_cmp (q / page_size) (a / page_size) ≡ t
    → page_gives (cond t (Some (page_with_byte p (a % page_size) b)) (page_of m q)) kind ≡ allowed m kind q
same_rights m a b q p kind true is tie =
    let page : q / page_size ≡ a / page_size = eqb-true (q / page_size) (a / page_size) (sym (unsigned_tied (q / page_size) (a / page_size)) ∙ tie) in
    ap (λ (o : Option Page). page_gives o kind) (sym (ap (λ k. get m.pages k) page ∙ is))
same_rights m a b q p kind false is tie = refl

allowed_after : (m : Memory) (a b q : ℕ) (kind : Kind) (o : Option Page) → page_of m a ≡ o → allowed (with_byte m a b) kind q ≡ allowed m kind q
allowed_after m a b q kind None is = ap (λ (x : Memory). allowed x kind q) (write_unmapped m a b is)
allowed_after m a b q kind (Some p) is =
    ap (λ (o : Option Page). page_gives (get (pages_with_byte m.pages o (a / page_size) (a % page_size) b) (q / page_size)) kind) is
    ∙ ap (λ (o : Option Page). page_gives o kind) (get-insert nat_cmp_total m.pages (a / page_size) (page_with_byte p (a % page_size) b) (q / page_size))
    ∙ same_rights m a b q p kind _ is refl

refused_after : (n : ℕ) (m : Memory) (a b q : ℕ) (kind : Kind) → refused (with_byte m a b) q n kind ≡ refused m q n kind
refused_after zero m a b q kind = refused-zero (with_byte m a b) q kind ∙ sym (refused-zero m q kind)
refused_after (suc n) m a b q kind =
    refused-suc (with_byte m a b) q n kind
    ∙ ap (λ t. if t then refused (with_byte m a b) (q + 1) n kind else Some (address q)) (allowed_after m a b (address q) kind _ refl)
    ∙ ap (λ o. if allowed m kind (address q) then o else Some (address q)) (refused_after n m a b (q + 1) kind)
    ∙ sym (refused-suc m q n kind)

-- what is written changes no right
pub refused_written : (bytes : List ℕ) (m : Memory) (a q n : ℕ) (kind : Kind) → refused (with_bytes m a bytes) q n kind ≡ refused m q n kind
refused_written [] m a q n kind = refl
refused_written (x ∷ bytes) m a q n kind = refused_written bytes (with_byte m (address a) x) (a + 1) q n kind ∙ refused_after n m (address a) x q kind
