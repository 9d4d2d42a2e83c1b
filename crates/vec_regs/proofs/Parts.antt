-- Parts of a number between two places.
use Rattle.std.proofs.Common.{◌≡◌, ◌<◌, ◌≤◌, ◌+◌, ◌-◌, ◌*◌, ◌/◌, ◌%◌, ◌^◌, ℕ, suc, false, List, length, get_or, set, nat_eq, inl, inr, sym, ap, subst, ◌∙◌, arith}
use Rattle.std.proofs.Math.Nat.{mod-lt, mul-le-mul_right, mod-eq_of_lt, pow-le-pow_right}
use Rattle.std.proofs.lemmas.Bool.{cases_eq, cases_order}
use Rattle.std.proofs.lemmas.List.{get_or-set_same, get_or-set_other, length-set}
use Rattle.std.proofs.lemmas.List.FromFn.{fill_by_all}
use Rattle.emu_model.specs.ListLaws.{length-each, get_or-each}
use Rattle.vec_regs.specs.Packed.{put}
use Rattle.vec_regs.specs.Words.{byte_of, bit_of, bytes_of, bits_of}
use Rattle.std.proofs.lemmas.Nat.{pow_pos, pow-add, mod-pow-add, field_of, mod-mul-add, div-mul-add, shr-shr, mul-add-lt, div_below, div-add-mod', one_shl}

-- the low k bits of the low j + k
lower : (n j k : ℕ) → n % 2 ^ (j + k) % 2 ^ k ≡ n % 2 ^ k
lower n j k = ap (λ x. x % 2 ^ k) (mod-pow-add n j k) ∙ mod-mul-add (n / 2 ^ k % 2 ^ j) (2 ^ k) (n % 2 ^ k) (mod-lt n (pow_pos k))

pub lower_to : (n e k : ℕ) → k ≤ e → n % 2 ^ e % 2 ^ k ≡ n % 2 ^ k
lower_to n e k h = let s : e ≡ (e - k) + k = omega arith in ap (λ x. n % 2 ^ x % 2 ^ k) s ∙ lower n (e - k) k

-- numbers with the same low e bits have the same b bits from t on
pub same_part : (n m e t b : ℕ) → n % 2 ^ e ≡ m % 2 ^ e → t + b ≤ e → n / 2 ^ t % 2 ^ b ≡ m / 2 ^ t % 2 ^ b
same_part n m e t b same h =
    let up : b + t ≤ e = omega arith in
    sym (field_of n b t) ∙ ap (λ x. x / 2 ^ t) (sym (lower_to n e (b + t) up) ∙ ap (λ x. x % 2 ^ (b + t)) same ∙ lower_to m e (b + t) up) ∙ field_of m b t

pub put_above : (n s b v : ℕ) → put n s b v / 2 ^ s ≡ n / 2 ^ s / 2 ^ b * 2 ^ b + v
put_above n s b v = div-mul-add (n / 2 ^ s / 2 ^ b * 2 ^ b + v) (2 ^ s) (n % 2 ^ s) (mod-lt n (pow_pos s))

pub put_same : (n s b v : ℕ) → v < 2 ^ b → put n s b v / 2 ^ s % 2 ^ b ≡ v
put_same n s b v h = ap (λ x. x % 2 ^ b) (put_above n s b v) ∙ mod-mul-add (n / 2 ^ s / 2 ^ b) (2 ^ b) v h

pub put_below : (n s b v t : ℕ) → t + b ≤ s → put n s b v / 2 ^ t % 2 ^ b ≡ n / 2 ^ t % 2 ^ b
put_below n s b v t h =
    same_part (put n s b v) n s t b (mod-mul-add (n / 2 ^ s / 2 ^ b * 2 ^ b + v) (2 ^ s) (n % 2 ^ s) (mod-lt n (pow_pos s))) h

pub put_over : (n s b v t : ℕ) → v < 2 ^ b → s + b ≤ t → put n s b v / 2 ^ t ≡ n / 2 ^ t
put_over n s b v t h le =
    let d : t ≡ (s + b) + (t - (s + b)) = omega arith in
    let two : (x : ℕ) → x / 2 ^ t ≡ x / 2 ^ s / 2 ^ b / 2 ^ (t - (s + b)) = λ x. ap (λ p. x / 2 ^ p) d ∙ sym (shr-shr x (s + b) (t - (s + b))) ∙ ap (λ y. y / 2 ^ (t - (s + b))) (sym (shr-shr x s b)) in
    two (put n s b v) ∙ ap (λ x. x / 2 ^ b / 2 ^ (t - (s + b))) (put_above n s b v) ∙ ap (λ x. x / 2 ^ (t - (s + b))) (div-mul-add (n / 2 ^ s / 2 ^ b) (2 ^ b) v h) ∙ sym (two n)

pub put_fits : (n s b v w : ℕ) → n < 2 ^ w → v < 2 ^ b → s + b ≤ w → n / 2 ^ s / 2 ^ b * 2 ^ b + v < 2 ^ (w - s)
put_fits n s b v w h small le =
    let d : w ≡ (w - s) + s = omega arith in
    let e : w - s ≡ (w - (s + b)) + b = omega arith in
    let p : n < 2 ^ (w - s) * 2 ^ s = subst (λ x. n < x) (ap (λ x. 2 ^ x) d ∙ pow-add 2 (w - s) s) h in
    let q : n / 2 ^ s < 2 ^ (w - s) = div_below n (2 ^ s) (2 ^ (w - s)) (pow_pos s) p in
    let r : n / 2 ^ s < 2 ^ (w - (s + b)) * 2 ^ b = subst (λ x. n / 2 ^ s < x) (ap (λ x. 2 ^ x) e ∙ pow-add 2 (w - (s + b)) b) q in
    let t : n / 2 ^ s / 2 ^ b < 2 ^ (w - (s + b)) = div_below (n / 2 ^ s) (2 ^ b) (2 ^ (w - (s + b))) (pow_pos b) r in
    let u : n / 2 ^ s / 2 ^ b * 2 ^ b + v < 2 ^ b * 2 ^ (w - (s + b)) = mul-add-lt (n / 2 ^ s / 2 ^ b) (2 ^ b) v (2 ^ (w - (s + b))) t small in
    let m : 2 ^ b * 2 ^ (w - (s + b)) ≡ 2 ^ (w - (s + b)) * 2 ^ b = omega arith in
    subst (λ x. n / 2 ^ s / 2 ^ b * 2 ^ b + v < x) (m ∙ sym (pow-add 2 (w - (s + b)) b) ∙ ap (λ x. 2 ^ x) (sym e)) u

pub put_below_top : (n s b v w : ℕ) → n < 2 ^ w → v < 2 ^ b → s + b ≤ w → put n s b v < 2 ^ w
put_below_top n s b v w h small le =
    let d : w ≡ s + (w - s) = omega arith in
    let u : put n s b v < 2 ^ s * 2 ^ (w - s) = mul-add-lt (n / 2 ^ s / 2 ^ b * 2 ^ b + v) (2 ^ s) (n % 2 ^ s) (2 ^ (w - s)) (put_fits n s b v w h small le) (mod-lt n (pow_pos s)) in
    subst (λ x. put n s b v < x) (sym (pow-add 2 s (w - s)) ∙ ap (λ x. 2 ^ x) (sym d)) u

-- ---- shifts that lose no bits

high_fits : (n s b v : ℕ) → n < 2 ^ 64 → v < 2 ^ b → s + b ≤ 64 → n / 2 ^ s / 2 ^ b * 2 ^ b + v < 2 ^ 64
high_fits n s b v h small le =
    let two : 0 < 2 = omega arith in
    let less : 64 - s ≤ 64 = omega arith in
    let p : 2 ^ (64 - s) ≤ 2 ^ 64 = pow-le-pow_right two less in
    omega (arith, p, put_fits n s b v 64 h small le)

high_whole : (n s b v : ℕ) → n < 2 ^ 64 → v < 2 ^ b → s + b ≤ 64 → n / 2 ^ s / 2 ^ b * 2 ^ b % 2 ^ 64 ≡ n / 2 ^ s / 2 ^ b * 2 ^ b
high_whole n s b v h small le = let f : n / 2 ^ s / 2 ^ b * 2 ^ b < 2 ^ 64 = omega (arith, high_fits n s b v h small le) in mod-eq_of_lt f

pub put_sum_fits : (n s b v : ℕ) → n < 2 ^ 64 → v < 2 ^ b → s + b ≤ 64 → n / 2 ^ s / 2 ^ b * 2 ^ b % 2 ^ 64 + v < 2 ^ 64
put_sum_fits n s b v h small le = subst (λ x. x + v < 2 ^ 64) (sym (high_whole n s b v h small le)) (high_fits n s b v h small le)

pub put_is : (n s b v : ℕ) → n < 2 ^ 64 → v < 2 ^ b → s + b ≤ 64 → 0 < b → (n / 2 ^ s / 2 ^ b * 2 ^ b % 2 ^ 64 + v) * 2 ^ s % 2 ^ 64 + n % (1 * 2 ^ s % 2 ^ 64) ≡ put n s b v
put_is n s b v h small le some =
    let within : s < 64 = omega arith in
    let f : (n / 2 ^ s / 2 ^ b * 2 ^ b + v) * 2 ^ s < 2 ^ 64 = omega (arith, put_below_top n s b v 64 h small le) in
    ap (λ x. (x + v) * 2 ^ s % 2 ^ 64 + n % (1 * 2 ^ s % 2 ^ 64)) (high_whole n s b v h small le)
    ∙ ap (λ x. x + n % (1 * 2 ^ s % 2 ^ 64)) (mod-eq_of_lt f)
    ∙ ap (λ x. (n / 2 ^ s / 2 ^ b * 2 ^ b + v) * 2 ^ s + n % x) (one_shl s 64 within)

pub put_all_fits : (n s b v : ℕ) → n < 2 ^ 64 → v < 2 ^ b → s + b ≤ 64 → 0 < b → (n / 2 ^ s / 2 ^ b * 2 ^ b % 2 ^ 64 + v) * 2 ^ s % 2 ^ 64 + n % (1 * 2 ^ s % 2 ^ 64) < 2 ^ 64
put_all_fits n s b v h small le some = subst (λ x. x < 2 ^ 64) (sym (put_is n s b v h small le some)) (put_below_top n s b v 64 h small le)

-- ---- parts of b bits, c to a number

-- part j of the words
abbrev pub part : ℕ → ℕ → List ℕ → ℕ → ℕ
part b c words j = get_or words (j / c) 0 / 2 ^ ((j % c) * b) % 2 ^ b

apart : (x y b : ℕ) → x < y → x * b + b ≤ y * b
apart x y b h = let m : suc x * b ≤ y * b = mul-le-mul_right b h in let s : suc x * b ≡ x * b + b = omega arith in omega arith

-- the words with v in the place of part k
abbrev pub changed : ℕ → ℕ → List ℕ → ℕ → ℕ → List ℕ
changed b c words k v = set words (k / c) (put (get_or words (k / c) 0) ((k % c) * b) b v)

same_place : (c j k : ℕ) → j / c ≡ k / c → j % c ≡ k % c → j ≡ k
same_place c j k p q = sym (div-add-mod' j c) ∙ ap (λ x. x * c + j % c) p ∙ ap (λ x. k / c * c + x) q ∙ div-add-mod' k c

pub changed_same : (b c : ℕ) (words : List ℕ) (k v : ℕ) → v < 2 ^ b → k / c < length words → part b c (changed b c words k v) k ≡ v
changed_same b c words k v h within =
    ap (λ x. x / 2 ^ ((k % c) * b) % 2 ^ b) (get_or-set_same words (k / c) (put (get_or words (k / c) 0) ((k % c) * b) b v) 0 within)
    ∙ put_same (get_or words (k / c) 0) ((k % c) * b) b v h

pub changed_other : (b c : ℕ) (words : List ℕ) (k v j : ℕ) → v < 2 ^ b → k / c < length words → (j ≡ k → ⊥) → part b c (changed b c words k v) j ≡ part b c words j
changed_other b c words k v j h within other = elim (cases_eq (j / c) (k / c)) [
  | inl p ↦
      (let n : ℕ = get_or words (k / c) 0 in
      let P : ℕ → Type 0 = λ i. get_or (set words (k / c) (put (get_or words (k / c) 0) ((k % c) * b) b v)) i 0 / 2 ^ ((j % c) * b) % 2 ^ b ≡ get_or words i 0 / 2 ^ ((j % c) * b) % 2 ^ b in
      let new : get_or (set words (k / c) (put (get_or words (k / c) 0) ((k % c) * b) b v)) (k / c) 0 ≡ put (get_or words (k / c) 0) ((k % c) * b) b v = get_or-set_same words (k / c) (put (get_or words (k / c) 0) ((k % c) * b) b v) 0 within in
      subst P (sym p) (ap (λ x. x / 2 ^ ((j % c) * b) % 2 ^ b) new ∙ elim (cases_order (j % c) (k % c)) [
        | inl q ↦ absurd (other (same_place c j k p q))
        | inr (inl q) ↦ put_below (get_or words (k / c) 0) ((k % c) * b) b v ((j % c) * b) (apart (j % c) (k % c) b q)
        | inr (inr q) ↦ ap (λ x. x % 2 ^ b) (put_over (get_or words (k / c) 0) ((k % c) * b) b v ((j % c) * b) h (apart (k % c) (j % c) b q))
      ]))
  | inr away ↦ ap (λ x. x / 2 ^ ((j % c) * b) % 2 ^ b) (get_or-set_other words (k / c) (j / c) (put (get_or words (k / c) 0) ((k % c) * b) b v) 0 away)
]

-- ---- bytes

byte_is : (words : List ℕ) (j : ℕ) → byte_of 8 words j ≡ part 8 8 words j
byte_is words j = let e : 8 * (j % 8) ≡ (j % 8) * 8 = omega arith in ap (λ p. get_or words (j / 8) 0 / 2 ^ p % 256) e

pub changed_bytes : (n : ℕ) (words : List ℕ) (k v : ℕ) → v < 2 ^ 8 → k / 8 < length words → k < n → bytes_of n (changed 8 8 words k v) ≡ set (bytes_of n words) k v
changed_bytes n words k v h within below =
    sym (fill_by_all (byte_of 8 (changed 8 8 words k v)) (set (bytes_of n words) k v) n 0 (length-set (bytes_of n words) k v ∙ length-each n (byte_of 8 words)) (λ j b. elim (cases_eq j k) [
      | inl s ↦
          (let there : k < length (bytes_of n words) = omega (arith, length-each n (byte_of 8 words)) in
          let P : ℕ → Type 0 = λ j. get_or (set (bytes_of n words) k v) j 0 ≡ byte_of 8 (changed 8 8 words k v) j in
          subst P (sym s) (get_or-set_same (bytes_of n words) k v 0 there ∙ sym (byte_is (changed 8 8 words k v) k ∙ changed_same 8 8 words k v h within)))
      | inr other ↦
          get_or-set_other (bytes_of n words) k j v 0 other ∙ get_or-each n (byte_of 8 words) j 0 b ∙ byte_is words j
          ∙ sym (byte_is (changed 8 8 words k v) j ∙ changed_other 8 8 words k v j h within other)
    ]))

-- ---- bits

pub bit_is : (words : List ℕ) (j : ℕ) → bit_of words j ≡ nat_eq (part 1 64 words j) 1
bit_is words j = let e : j % 64 ≡ (j % 64) * 1 = omega arith in ap (λ p. nat_eq (get_or words (j / 64) 0 / 2 ^ p % 2) 1) e

pub changed_bit_other : (words : List ℕ) (k v j : ℕ) → v < 2 → k / 64 < length words → (j ≡ k → ⊥) → bit_of (changed 1 64 words k v) j ≡ bit_of words j
changed_bit_other words k v j h within other = bit_is (changed 1 64 words k v) j ∙ ap (λ x. nat_eq x 1) (changed_other 1 64 words k v j h within other) ∙ sym (bit_is words j)

pub changed_bits : (n : ℕ) (words : List ℕ) (k v : ℕ) → v < 2 → k / 64 < length words → k < n → bits_of n (changed 1 64 words k v) ≡ set (bits_of n words) k (nat_eq v 1)
changed_bits n words k v h within below =
    sym (fill_by_all (bit_of (changed 1 64 words k v)) (set (bits_of n words) k (nat_eq v 1)) n false (length-set (bits_of n words) k (nat_eq v 1) ∙ length-each n (bit_of words)) (λ j b. elim (cases_eq j k) [
      | inl s ↦
          (let there : k < length (bits_of n words) = omega (arith, length-each n (bit_of words)) in
          let P : ℕ → Type 0 = λ j. get_or (set (bits_of n words) k (nat_eq v 1)) j false ≡ bit_of (changed 1 64 words k v) j in
          subst P (sym s) (get_or-set_same (bits_of n words) k (nat_eq v 1) false there ∙ sym (bit_is (changed 1 64 words k v) k ∙ ap (λ x. nat_eq x 1) (changed_same 1 64 words k v h within))))
      | inr other ↦
          get_or-set_other (bits_of n words) k j (nat_eq v 1) false other ∙ get_or-each n (bit_of words) j false b ∙ sym (changed_bit_other words k v j h within other)
    ]))
