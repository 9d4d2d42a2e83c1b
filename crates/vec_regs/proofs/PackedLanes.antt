-- The bytes of packed lanes are the lanes' bytes.
use Rattle.std.proofs.Common.{◌≡◌, ◌<◌, ◌≤◌, ◌+◌, ◌-◌, ◌*◌, ◌/◌, ◌%◌, ◌^◌, ℕ, zero, suc, List, [], ◌∷◌, length, take, drop, get_or, set, inl, inr, sym, ap, subst, ◌∙◌, arith, drop-cons}
use Rattle.std.proofs.Math.Nat.{mod-lt, pow-le-pow_right, mul-le-mul_right, zero-div}
use Rattle.std.proofs.lemmas.Bool.{cases_lt, cases_eq}
use Rattle.std.proofs.lemmas.List.{get_or-take, get_or-drop, get_or-set_same, get_or-set_other}
use Rattle.std.proofs.lemmas.Nat.{pow_pos, pow-add, shr-shr, div-mul-add, mod-mul-add, mul-add-lt, div-add-mod'}
use Rattle.emu_model.specs.Lists.{each}
use Rattle.emu_model.specs.ListLaws.{get_or-each, each_same}
use Rattle.emu_model.specs.Lanes.{byte_in, with_z, with_lanes}
use Rattle.emu_model.specs.LaneSizes.{IsLaneSize}
use Rattle.vec_regs.specs.Packed.{packed, word_of}
use Rattle.vec_regs.specs.Words.{byte_of, bytes_of}
use Rattle.emu_model.specs.State.{Vectors}
use Rattle.emu_model.specs.SoundState.{IsVectorLength}
use Rattle.vec_regs.proofs.Parts.{same_part}

-- ---- one word

turned : (x p n : ℕ) → x + p * n ≡ n * p + x
turned x p n = omega arith

no_byte : (s : ℕ) → zero / s % 256 ≡ 0
no_byte s = ap (λ x. x % 256) (zero-div s)

-- place j from w on, of numbers of w
after_quotient : (w j : ℕ) → 0 < w → w ≤ j → j / w ≡ suc ((j - w) / w)
after_quotient w j some h =
    let e : (j - w) / w * w + (j - w) % w ≡ j - w = div-add-mod' (j - w) w in
    let b : (j - w) % w < w = mod-lt (j - w) some in
    let s : suc ((j - w) / w) * w ≡ (j - w) / w * w + w = omega arith in
    let d : j ≡ suc ((j - w) / w) * w + (j - w) % w = omega arith in
    ap (λ x. x / w) d ∙ div-mul-add (suc ((j - w) / w)) w ((j - w) % w) b

after_rest : (w j : ℕ) → 0 < w → w ≤ j → j % w ≡ (j - w) % w
after_rest w j some h =
    let e : (j - w) / w * w + (j - w) % w ≡ j - w = div-add-mod' (j - w) w in
    let b : (j - w) % w < w = mod-lt (j - w) some in
    let s : suc ((j - w) / w) * w ≡ (j - w) / w * w + w = omega arith in
    let d : j ≡ suc ((j - w) / w) * w + (j - w) % w = omega arith in
    ap (λ x. x % w) d ∙ mod-mul-add (suc ((j - w) / w)) w ((j - w) % w) b

before_quotient : (w j : ℕ) → j < w → j / w ≡ 0
before_quotient w j h = let e : 0 * w + j ≡ j = omega arith in ap (λ x. x / w) (sym e) ∙ div-mul-add 0 w j h

before_rest : (w j : ℕ) → j < w → j % w ≡ j
before_rest w j h = let e : 0 * w + j ≡ j = omega arith in ap (λ x. x % w) (sym e) ∙ mod-mul-add 0 w j h

pub byte_in_packed : (w : ℕ) → 0 < w → (xs : List ℕ) (j : ℕ) → packed (8 * w) xs / 2 ^ (8 * j) % 256 ≡ byte_of w xs j
byte_in_packed w some [] j = no_byte (2 ^ (8 * j)) ∙ sym (no_byte (2 ^ (8 * (j % w))))
byte_in_packed w some (x ∷ xs) j =
    let p : ℕ = 2 ^ (8 * w) in
    let n : ℕ = packed (8 * w) xs in
    let small : x % 2 ^ (8 * w) < 2 ^ (8 * w) = mod-lt x (pow_pos (8 * w)) in
    let whole : x % 2 ^ (8 * w) + 2 ^ (8 * w) * packed (8 * w) xs ≡ packed (8 * w) xs * 2 ^ (8 * w) + x % 2 ^ (8 * w) = turned (x % 2 ^ (8 * w)) (2 ^ (8 * w)) (packed (8 * w) xs) in
    elim (cases_lt j w) [
      | inl h ↦
          (let up : 8 * j + 8 ≤ 8 * w = omega arith in
          let same : (x % 2 ^ (8 * w) + 2 ^ (8 * w) * packed (8 * w) xs) % 2 ^ (8 * w) ≡ x % 2 ^ (8 * w) = ap (λ y. y % 2 ^ (8 * w)) whole ∙ mod-mul-add (packed (8 * w) xs) (2 ^ (8 * w)) (x % 2 ^ (8 * w)) small in
          same_part (x % 2 ^ (8 * w) + 2 ^ (8 * w) * packed (8 * w) xs) x (8 * w) (8 * j) 8 same up
          ∙ ap (λ i. x / 2 ^ (8 * i) % 256) (sym (before_rest w j h))
          ∙ ap (λ i. get_or (x ∷ xs) i 0 / 2 ^ (8 * (j % w)) % 256) (sym (before_quotient w j h)))
      | inr h ↦
          (let d : 8 * j ≡ 8 * w + 8 * (j - w) = omega arith in
          ap (λ i. (x % 2 ^ (8 * w) + 2 ^ (8 * w) * packed (8 * w) xs) / 2 ^ i % 256) d
          ∙ ap (λ y. y % 256) (sym (shr-shr (x % 2 ^ (8 * w) + 2 ^ (8 * w) * packed (8 * w) xs) (8 * w) (8 * (j - w))))
          ∙ ap (λ y. y / 2 ^ (8 * w) / 2 ^ (8 * (j - w)) % 256) whole
          ∙ ap (λ y. y / 2 ^ (8 * (j - w)) % 256) (div-mul-add (packed (8 * w) xs) (2 ^ (8 * w)) (x % 2 ^ (8 * w)) small)
          ∙ byte_in_packed w some xs (j - w)
          ∙ ap (λ i. get_or xs ((j - w) / w) 0 / 2 ^ (8 * i) % 256) (sym (after_rest w j some h))
          ∙ ap (λ i. get_or (x ∷ xs) i 0 / 2 ^ (8 * (j % w)) % 256) (sym (after_quotient w j some h)))
    ]

-- ---- all words

pub byte_of_word : (w : ℕ) → 0 < w → (c : ℕ) (xs : List ℕ) (j : ℕ) → (j % 8) / w < c → j / 8 * c + (j % 8) / w ≡ j / w → (j % 8) % w ≡ j % w
    → packed (8 * w) (take c (drop (j / 8 * c) xs)) / 2 ^ (8 * (j % 8)) % 256 ≡ byte_of w xs j
byte_of_word w some c xs j inside at rest =
    byte_in_packed w some (take c (drop (j / 8 * c) xs)) (j % 8)
    ∙ ap (λ x. x / 2 ^ (8 * ((j % 8) % w)) % 256) (get_or-take c (drop (j / 8 * c) xs) ((j % 8) / w) 0 inside ∙ get_or-drop (j / 8 * c) xs ((j % 8) / w) 0)
    ∙ ap (λ i. get_or xs i 0 / 2 ^ (8 * ((j % 8) % w)) % 256) at
    ∙ ap (λ i. get_or xs (j / w) 0 / 2 ^ (8 * i) % 256) rest

pub byte_of_words : (e : ℕ) → IsLaneSize e → (xs : List ℕ) (j : ℕ) → word_of e xs (j / 8) / 2 ^ (8 * (j % 8)) % 256 ≡ byte_of (e / 8) xs j
byte_of_words e (inl s) xs j = let P : ℕ → Type 0 = λ e. word_of e xs (j / 8) / 2 ^ (8 * (j % 8)) % 256 ≡ byte_of (e / 8) xs j in subst P (sym s) (byte_of_word 1 (omega arith) 8 xs j (omega arith) (omega arith) (omega arith))
byte_of_words e (inr (inl s)) xs j = let P : ℕ → Type 0 = λ e. word_of e xs (j / 8) / 2 ^ (8 * (j % 8)) % 256 ≡ byte_of (e / 8) xs j in subst P (sym s) (byte_of_word 2 (omega arith) 4 xs j (omega arith) (omega arith) (omega arith))
byte_of_words e (inr (inr (inl s))) xs j = let P : ℕ → Type 0 = λ e. word_of e xs (j / 8) / 2 ^ (8 * (j % 8)) % 256 ≡ byte_of (e / 8) xs j in subst P (sym s) (byte_of_word 4 (omega arith) 2 xs j (omega arith) (omega arith) (omega arith))
byte_of_words e (inr (inr (inr s))) xs j = let P : ℕ → Type 0 = λ e. word_of e xs (j / 8) / 2 ^ (8 * (j % 8)) % 256 ≡ byte_of (e / 8) xs j in subst P (sym s) (byte_of_word 8 (omega arith) 1 xs j (omega arith) (omega arith) (omega arith))

-- words that are packed lanes have the lanes' bytes
pub packed_bytes : (e n : ℕ) → IsLaneSize e → (lanes words : List ℕ) → ((k : ℕ) → k < n / 8 → get_or words k 0 ≡ word_of e lanes k) → n % 8 ≡ 0
    → bytes_of n words ≡ each n (byte_in (e / 8) (λ k. get_or lanes k 0))
packed_bytes e n size lanes words h whole =
    each_same n (byte_of 8 words) (byte_in (e / 8) (λ k. get_or lanes k 0)) 0 (λ j b.
    let there : j / 8 < n / 8 = omega arith in
    ap (λ x. x / 2 ^ (8 * (j % 8)) % 256) (h (j / 8) there) ∙ byte_of_words e size lanes j)

-- ---- a word is made from its last lane down
more : (e n j : ℕ) → 0 < j → j ≤ n → (n - j) * e + e ≡ (n - (j - 1)) * e
more e n j p q = let s : n - (j - 1) ≡ suc (n - j) = omega arith in let t : suc (n - j) * e ≡ (n - j) * e + e = omega arith in sym t ∙ ap (λ x. x * e) (sym s)

pub grown : (e x r n j : ℕ) → x < 2 ^ ((n - j) * e) → r < 2 ^ e → 0 < j → j ≤ n → x * 2 ^ e + r < 2 ^ ((n - (j - 1)) * e)
grown e x r n j h small p q =
    let a : x * 2 ^ e + r < 2 ^ e * 2 ^ ((n - j) * e) = mul-add-lt x (2 ^ e) r (2 ^ ((n - j) * e)) h small in
    let b : 2 ^ ((n - j) * e + e) ≡ 2 ^ ((n - j) * e) * 2 ^ e = pow-add 2 ((n - j) * e) e in
    let t : 2 ^ e * 2 ^ ((n - j) * e) ≡ 2 ^ ((n - j) * e) * 2 ^ e = omega arith in
    subst (λ y. x * 2 ^ e + r < y) (t ∙ sym b ∙ ap (λ y. 2 ^ y) (more e n j p q)) a

pub room : (e x r n j : ℕ) → x < 2 ^ ((n - j) * e) → r < 2 ^ e → 0 < j → j ≤ n → n * e ≤ 64 → x * 2 ^ e + r < 2 ^ 64
room e x r n j h small p q few =
    let le : n - (j - 1) ≤ n = omega arith in
    let fewer : (n - (j - 1)) * e ≤ n * e = mul-le-mul_right e le in
    let most : (n - (j - 1)) * e ≤ 64 = omega arith in
    let two : 0 < 2 = omega arith in
    let top : 2 ^ ((n - (j - 1)) * e) ≤ 2 ^ 64 = pow-le-pow_right two most in
    omega (arith, top, grown e x r n j h small p q)

pub packed_back : (e : ℕ) (xs : List ℕ) (j : ℕ) → 0 < j → j ≤ length xs → packed e (drop (j - 1) xs) ≡ packed e (drop j xs) * 2 ^ e + get_or xs (j - 1) 0 % 2 ^ e
packed_back e xs j p q =
    let s : suc (j - 1) ≡ j = omega arith in
    let within : j - 1 < length xs = omega arith in
    ap (packed e) (drop-cons xs (j - 1) 0 within) ∙ turned (get_or xs (j - 1) 0 % 2 ^ e) (2 ^ e) (packed e (drop (suc (j - 1)) xs))
    ∙ ap (λ i. packed e (drop i xs) * 2 ^ e + get_or xs (j - 1) 0 % 2 ^ e) s

-- ---- the loop over words

pub filled : (f : ℕ → ℕ) (ws : List ℕ) (i x : ℕ) → i < length ws → x ≡ f i → ((k : ℕ) → k < i → get_or ws k 0 ≡ f k) → (k : ℕ) → k < i + 1 → get_or (set ws i x) k 0 ≡ f k
filled f ws i x within e h k b = elim (cases_eq k i) [
  | inl s ↦ (let P : ℕ → Type 0 = λ k. get_or (set ws i x) k 0 ≡ f k in subst P (sym s) (get_or-set_same ws i x 0 within ∙ e))
  | inr other ↦ (let below : k < i = omega arith in get_or-set_other ws i k x 0 other ∙ h k below)
]

pub still : (ws : List ℕ) (i x : ℕ) → ((k : ℕ) → i ≤ k → get_or ws k 0 ≡ 0) → (k : ℕ) → i + 1 ≤ k → get_or (set ws i x) k 0 ≡ 0
still ws i x h k b = let other : k ≡ i → ⊥ = λ s. omega arith in let le : i ≤ k = omega arith in get_or-set_other ws i k x 0 other ∙ h k le

pub one_word : (e i r : ℕ) (xs : List ℕ) → r ≡ packed e (take ((i * (64 / e) + 64 / e) - i * (64 / e)) (drop (i * (64 / e)) xs)) → r ≡ word_of e xs i
one_word e i r xs h = let s : (i * (64 / e) + 64 / e) - i * (64 / e) ≡ 64 / e = omega arith in h ∙ ap (λ c. packed e (take c (drop (i * (64 / e)) xs))) s

pub words_count : (e bits : ℕ) → IsLaneSize e → bits / e / (64 / e) ≡ bits / 8 / 8
words_count e bits (inl s) = rw s (omega arith)
words_count e bits (inr (inl s)) = rw s (omega arith)
words_count e bits (inr (inr (inl s))) = rw s (omega arith)
words_count e bits (inr (inr (inr s))) = rw s (omega arith)

pub with_packed : (e zd : ℕ) (v : Vectors) (lanes words : List ℕ) → IsLaneSize e → IsVectorLength v.bits → length lanes ≡ v.bits / e
    → ((k : ℕ) → k < length lanes / (64 / e) → get_or words k 0 ≡ word_of e lanes k)
    → with_z v zd (bytes_of (v.bits / 8) words) ≡ with_lanes e (λ k. get_or lanes k 0) zd v
with_packed e zd v lanes words size l count h =
    let whole : v.bits / 8 % 8 ≡ 0 = omega (arith, l.multiple) in
    let n : length lanes / (64 / e) ≡ v.bits / 8 / 8 = ap (λ x. x / (64 / e)) count ∙ words_count e v.bits size in
    let each_word : (k : ℕ) → k < v.bits / 8 / 8 → get_or words k 0 ≡ word_of e lanes k = λ k b. h k (subst (λ x. k < x) (sym n) b) in
    ap (with_z v zd) (packed_bytes e (v.bits / 8) size lanes words each_word whole)

-- ---- lanes that are given by a function

pub below_quotient : (e bits j : ℕ) → IsLaneSize e → IsVectorLength bits → j < bits / 8 → j / (e / 8) < bits / e
below_quotient e bits j (inl s) l h = rw s (omega (arith, l.multiple))
below_quotient e bits j (inr (inl s)) l h = rw s (omega (arith, l.multiple))
below_quotient e bits j (inr (inr (inl s))) l h = rw s (omega (arith, l.multiple))
below_quotient e bits j (inr (inr (inr s))) l h = rw s (omega (arith, l.multiple))

pub lanes_given : (e zd : ℕ) (v : Vectors) (lanes : List ℕ) (f : ℕ → ℕ) → IsLaneSize e → IsVectorLength v.bits → lanes ≡ each (v.bits / e) f
    → with_lanes e (λ k. get_or lanes k 0) zd v ≡ with_lanes e f zd v
lanes_given e zd v lanes f size l given =
    ap (with_z v zd) (each_same (v.bits / 8) (byte_in (e / 8) (λ k. get_or lanes k 0)) (byte_in (e / 8) f) 0 (λ j b.
    ap (λ x. x / 2 ^ (8 * (j % (e / 8))) % 256) (ap (λ (xs : List ℕ). get_or xs (j / (e / 8)) 0) given ∙ get_or-each (v.bits / e) f (j / (e / 8)) 0 (below_quotient e v.bits j size l b))))

pub ruleset given_rules = (lanes_given)
