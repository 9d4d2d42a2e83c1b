-- Memory after bytes were written: page by page, byte by byte, and one piece after the other.
use Rattle.std.proofs.Common.{◌≡◌, ◌<◌, ◌≤◌, ◌⊎◌, inl, inr, ℕ, zero, suc, ◌+◌, ◌*◌, ◌-◌, ◌/◌, ◌%◌, ◌^◌, Bool, true, false, cond, if◌then◌else◌, nat_eq, List, [], ◌∷◌, ◌++◌, length, get_or, take, drop, Option, Some, None, refl, sym, ap, ◌∙◌, arith, length-drop, length-set, add-zero}
use Rattle.std.proofs.Math.Nat.{mod-eq_of_lt, div-add-mod}
use Rattle.std.proofs.lemmas.Bool.{eqb-true, eqb-false, eq-eqb}
use Rattle.std.proofs.lemmas.List.{get_or-set_same, get_or-set_other, length-take, drop-drop, take-append-drop}
use Rattle.std.specs.Ordering.{nat_cmp, eq_by_cmp}
use Rattle.std.specs.Cmp.{nat_cmp_total, unsigned_tied}
use Rattle.std.specs.FinMap.{get, get-insert}
use Rattle.emu_model.specs.Access.{Memory, Page, address, page_with_byte, pages_with_byte, with_byte, page_size}
use Rattle.emu_model.specs.Pages.{with_bytes}
use Rattle.emu_model.specs.WithinPage.{get_inserted, split_address}

tied : (a b : ℕ) → eq_by_cmp nat_cmp a b ≡ true → a ≡ b
tied a b h = eqb-true a b (sym (unsigned_tied a b) ∙ h)

-- ---- bytes that are written into a page, one by one

abbrev pub patched : ℕ → Page → ℕ → List ℕ → Page
patched q p a [] = p
patched q p a (b ∷ bytes) = patched q (if nat_eq (a / page_size) q then page_with_byte p (a % page_size) b else p) (a + 1) bytes

abbrev pub map_page : (Page → Page) → Option Page → Option Page
map_page f None = None
map_page f (Some p) = Some (f p)

map_page_same : (o : Option Page) → map_page (λ p. p) o ≡ o
map_page_same None = refl
map_page_same (Some p) = refl

map_page_twice : (f g : Page → Page) (o : Option Page) → map_page f (map_page g o) ≡ map_page (λ p. f (g p)) o
map_page_twice f g None = refl
map_page_twice f g (Some p) = refl

neq-eqb : (a b : ℕ) → (a ≡ b → ⊥) → nat_eq a b ≡ false
neq-eqb a b ne = elim (nat_eq a b) as (λ t. nat_eq a b ≡ t → t ≡ false) [ true ↦ λ e. absurd (ne (eqb-true a b e)) | false ↦ λ e. refl ] refl

-- one byte
in_page : (m : Memory) (page k b : ℕ) (o : Option Page) → get m.pages page ≡ o → get (pages_with_byte m.pages o page k b) page ≡ map_page (λ p. page_with_byte p k b) o
in_page m page k b None is = is
in_page m page k b (Some p) is = get_inserted m.pages page (page_with_byte p k b)

other_page : (m : Memory) (page k b q : ℕ) (o : Option Page) → (page ≡ q → ⊥) → get (pages_with_byte m.pages o page k b) q ≡ get m.pages q
other_page m page k b q None ne = refl
other_page m page k b q (Some p) ne =
    get-insert nat_cmp_total m.pages page (page_with_byte p k b) q
    ∙ elim (eq_by_cmp nat_cmp q page) as (λ t. eq_by_cmp nat_cmp q page ≡ t → cond t (Some (page_with_byte p k b)) (get m.pages q) ≡ get m.pages q) [
      | true ↦ λ e. absurd (ne (sym (tied q page e)))
      | false ↦ λ e. refl
    ] refl

one_byte : (m : Memory) (a b q : ℕ) → get (with_byte m a b).pages q ≡ map_page (λ p. if nat_eq (a / page_size) q then page_with_byte p (a % page_size) b else p) (get m.pages q)
one_byte m a b q =
    elim (nat_eq (a / page_size) q) as (λ t. nat_eq (a / page_size) q ≡ t → get (with_byte m a b).pages q ≡ map_page (λ p. if t then page_with_byte p (a % page_size) b else p) (get m.pages q)) [
      | true ↦ λ e. let same : a / page_size ≡ q = eqb-true (a / page_size) q e in
          ap (λ k. get (with_byte m a b).pages k) (sym same) ∙ in_page m (a / page_size) (a % page_size) b (get m.pages (a / page_size)) refl
          ∙ ap (λ k. map_page (λ p. page_with_byte p (a % page_size) b) (get m.pages k)) same
      | false ↦ λ e. other_page m (a / page_size) (a % page_size) b q (get m.pages (a / page_size)) (eqb-false (a / page_size) q e) ∙ sym (map_page_same (get m.pages q))
    ] refl

pub get_written : (bytes : List ℕ) (m : Memory) (a q : ℕ) → a + length bytes ≤ 2 ^ 64 → get (with_bytes m a bytes).pages q ≡ map_page (λ p. patched q p a bytes) (get m.pages q)
get_written [] m a q fits = sym (map_page_same (get m.pages q))
get_written (b ∷ bytes) m a q fits =
    let word : address a ≡ a = let small : a < 2 ^ 64 = omega arith in mod-eq_of_lt small in
    get_written bytes (with_byte m (address a) b) (a + 1) q (omega arith)
    ∙ ap (λ x. map_page (λ p. patched q p (a + 1) bytes) (get (with_byte m x b).pages q)) word
    ∙ ap (λ o. map_page (λ p. patched q p (a + 1) bytes) o) (one_byte m a b q)
    ∙ map_page_twice (λ p. patched q p (a + 1) bytes) (λ p. if nat_eq (a / page_size) q then page_with_byte p (a % page_size) b else p) (get m.pages q)

pub limit_written : (bytes : List ℕ) (m : Memory) (a : ℕ) → (with_bytes m a bytes).limit ≡ m.limit
limit_written [] m a = refl
limit_written (b ∷ bytes) m a = limit_written bytes (with_byte m (address a) b) (a + 1)

one_rights : (t : Bool) (p : Page) (k b : ℕ) → (if t then page_with_byte p k b else p).rights ≡ p.rights
one_rights true p k b = refl
one_rights false p k b = refl

pub rights_patched : (bytes : List ℕ) (q : ℕ) (p : Page) (a : ℕ) → (patched q p a bytes).rights ≡ p.rights
rights_patched [] q p a = refl
rights_patched (b ∷ bytes) q p a = rights_patched bytes q (if nat_eq (a / page_size) q then page_with_byte p (a % page_size) b else p) (a + 1) ∙ one_rights (nat_eq (a / page_size) q) p (a % page_size) b

one_length : (t : Bool) (p : Page) (k b : ℕ) → length (if t then page_with_byte p k b else p).bytes ≡ length p.bytes
one_length true p k b = length-set p.bytes k b
one_length false p k b = refl

pub length_patched : (bytes : List ℕ) (q : ℕ) (p : Page) (a : ℕ) → length (patched q p a bytes).bytes ≡ length p.bytes
length_patched [] q p a = refl
length_patched (b ∷ bytes) q p a = length_patched bytes q (if nat_eq (a / page_size) q then page_with_byte p (a % page_size) b else p) (a + 1) ∙ one_length (nat_eq (a / page_size) q) p (a % page_size) b

-- none of the bytes is in the page
pub far_patched : (bytes : List ℕ) (q : ℕ) (p : Page) (a : ℕ) → ((x : ℕ) → a ≤ x → x < a + length bytes → x / page_size ≡ q → ⊥) → patched q p a bytes ≡ p
far_patched [] q p a far = refl
far_patched (b ∷ bytes) q p a far =
    let first : nat_eq (a / page_size) q ≡ false = neq-eqb (a / page_size) q (far a (omega arith) (omega arith)) in
    ap (λ t. patched q (if t then page_with_byte p (a % page_size) b else p) (a + 1) bytes) first
    ∙ far_patched bytes q p (a + 1) (λ x from to. far x (omega arith) (omega arith))

-- ---- byte k of a page is that which was written at its address, or as before

one_there : (t : Bool) (p : Page) (k b : ℕ) → t ≡ true → k < length p.bytes → get_or (if t then page_with_byte p k b else p).bytes k 0 ≡ b
one_there t p k b is below = ap (λ t. get_or (if t then page_with_byte p k b else p).bytes k 0) is ∙ get_or-set_same p.bytes k b 0 below

one_elsewhere : (t : Bool) (p : Page) (j k b : ℕ) → (t ≡ true → j ≡ k → ⊥) → get_or (if t then page_with_byte p j b else p).bytes k 0 ≡ get_or p.bytes k 0
one_elsewhere false p j k b ne = refl
one_elsewhere true p j k b ne = get_or-set_other p.bytes j k b 0 (λ e. ne refl (sym e))

address_apart : (a q k : ℕ) → (a ≡ page_size * q + k → ⊥) → nat_eq (a / page_size) q ≡ true → a % page_size ≡ k → ⊥
address_apart a q k ne t same = ne (let e : a / page_size ≡ q = eqb-true (a / page_size) q t in omega (arith, div-add-mod a page_size))

pub byte_outside : (bytes : List ℕ) (q : ℕ) (p : Page) (a k : ℕ) → (page_size * q + k < a) ⊎ (a + length bytes ≤ page_size * q + k) → get_or (patched q p a bytes).bytes k 0 ≡ get_or p.bytes k 0
byte_outside [] q p a k out = refl
byte_outside (b ∷ bytes) q p a k out =
    let ne : a ≡ page_size * q + k → ⊥ = λ e. elim out [ inl low ↦ omega arith | inr high ↦ omega arith ] in
    let next : (page_size * q + k < a + 1) ⊎ ((a + 1) + length bytes ≤ page_size * q + k) = elim out [ inl low ↦ inl (omega arith) | inr high ↦ inr (omega arith) ] in
    byte_outside bytes q (if nat_eq (a / page_size) q then page_with_byte p (a % page_size) b else p) (a + 1) k next
    ∙ one_elsewhere (nat_eq (a / page_size) q) p (a % page_size) k b (address_apart a q k ne)

pub byte_inside : (bytes : List ℕ) (q : ℕ) (p : Page) (a k j : ℕ) → length p.bytes ≡ page_size → k < page_size → a + j ≡ page_size * q + k → j < length bytes → get_or (patched q p a bytes).bytes k 0 ≡ get_or bytes j 0
byte_inside [] q p a k j long below is within = absurd (omega arith)
byte_inside (b ∷ bytes) q p a k zero long below is within =
    let here : nat_eq (a / page_size) q ≡ true = eq-eqb (a / page_size) q (omega arith) in
    let place : a % page_size ≡ k = omega arith in
    byte_outside bytes q (if nat_eq (a / page_size) q then page_with_byte p (a % page_size) b else p) (a + 1) k (inl (omega arith))
    ∙ ap (λ x. get_or (if nat_eq (a / page_size) q then page_with_byte p x b else p).bytes k 0) place
    ∙ one_there (nat_eq (a / page_size) q) p k b here (omega (arith, long))
byte_inside (b ∷ bytes) q p a k (suc j) long below is within =
    byte_inside bytes q (if nat_eq (a / page_size) q then page_with_byte p (a % page_size) b else p) (a + 1) k j (one_length (nat_eq (a / page_size) q) p (a % page_size) b ∙ long) below (omega arith) (omega arith)

-- ---- bytes that are written piece by piece

pub with_bytes_on : (xs ys : List ℕ) (m : Memory) (a : ℕ) → with_bytes m a (xs ++ ys) ≡ with_bytes (with_bytes m a xs) (a + length xs) ys
with_bytes_on [] ys m a = ap (λ k. with_bytes m k ys) (sym (add-zero a))
with_bytes_on (x ∷ xs) ys m a =
    let e : (a + 1) + length xs ≡ a + suc (length xs) = omega arith in
    with_bytes_on xs ys (with_byte m (address a) x) (a + 1) ∙ ap (λ k. with_bytes (with_bytes (with_byte m (address a) x) (a + 1) xs) k ys) e

pub copied : (old new : Memory) (bytes : List ℕ) (a at end : ℕ) → at ≤ end → end ≤ length bytes → new ≡ with_bytes old ((a + at) / page_size * page_size + (a + at) % page_size) (take (end - at) (drop at bytes))
    → with_bytes new (a + end) (drop end bytes) ≡ with_bytes old (a + at) (drop at bytes)
copied old new bytes a at end before within is =
    let piece : List ℕ = take (end - at) (drop at bytes) in
    let rest : List ℕ = drop end bytes in
    let there : (a + at) / page_size * page_size + (a + at) % page_size ≡ a + at = sym (split_address (a + at)) in
    let long : length piece ≡ end - at = length-take (end - at) (drop at bytes) ∙ (let e = length-drop at bytes in omega (arith, e)) in
    let far : (a + at) + length piece ≡ a + end = omega (arith, long) in
    let e : at + (end - at) ≡ end = omega arith in
    let parts : piece ++ rest ≡ drop at bytes = ap (λ (l : List ℕ). piece ++ l) (ap (λ k. drop k bytes) (sym e) ∙ sym (drop-drop (end - at) at bytes)) ∙ take-append-drop (end - at) (drop at bytes) in
    ap (λ (m : Memory). with_bytes m (a + end) rest) (is ∙ ap (λ k. with_bytes old k piece) there)
    ∙ ap (λ k. with_bytes (with_bytes old (a + at) piece) k rest) (sym far)
    ∙ sym (with_bytes_on piece rest old (a + at))
    ∙ ap (λ (l : List ℕ). with_bytes old (a + at) l) parts
