-- How many bits of words are 1, and how many lanes that is.
use Rattle.std.proofs.Common.{◌≡◌, ◌<◌, ◌≤◌, ◌+◌, ◌-◌, ◌*◌, ◌/◌, ◌%◌, ◌^◌, ℕ, zero, suc, Bool, true, false, ◌&&◌, if◌then◌else◌, nat_eq, List, get_or, refl, sym, ap, ◌∙◌, arith}
use Rattle.std.specs.Int.{bit_at}
use Rattle.std.specs.Int.RustNames.{count_ones}
use Rattle.std.proofs.Math.Nat.{mod-lt, mod-eq_of_lt}
use Rattle.std.proofs.lemmas.Bool.{lt-ltb, le-ltb}
use Rattle.std.proofs.lemmas.Nat.{pow_pos, mod-pow-add, mod-mul-add, ones_cat, ones-le, le-div}
use Rattle.std.proofs.lemmas.Nat.Bits.{bit_at-lt}
use Rattle.emu_bits.specs.Fields.{bit}
use Rattle.lane_model.specs.Bits.{field_bit}
use Rattle.lane_model.specs.WordBits.{bit_of}
use Rattle.lane_model.proofs.Bits.{at_start, between}
use Rattle.lane_model.specs.FirstLast.{count_where}
use Rattle.pred_bits.proofs.Made.{bit_in, bit_placed}
use Rattle.pred_bits.specs.LaneBits.{among}

-- ---- parts of a count

count_add : (a b : ℕ) (f : ℕ → Bool) → count_where (a + b) f ≡ count_where a f + count_where b (λ s. f (a + s))
count_add a zero f = let e : a + 0 ≡ a = omega arith in ap (λ n. count_where n f) e ∙ omega arith
count_add a (suc b) f =
    let e : a + suc b ≡ suc (a + b) = omega arith in
    let h : count_where (a + b) f ≡ count_where a f + count_where b (λ s. f (a + s)) = count_add a b f in
    ap (λ n. count_where n f) e ∙ omega arith

count_none : (n : ℕ) (f : ℕ → Bool) → ((s : ℕ) → s < n → f s ≡ false) → count_where n f ≡ 0
count_none zero f h = refl
count_none (suc n) f h =
    let rest : count_where n f ≡ 0 = count_none n f (λ s q. h s (omega arith)) in
    let here : bit (f n) ≡ 0 = ap bit (h n (omega arith)) in
    omega arith

count_one : (r : ℕ) (f : ℕ → Bool) → ((s : ℕ) → 0 < s → s < suc r → f s ≡ false) → count_where (suc r) f ≡ bit (f 0)
count_one zero f h = omega arith
count_one (suc r) f h =
    let rest : count_where (suc r) f ≡ bit (f 0) = count_one r f (λ s p q. h s p (omega arith)) in
    let here : bit (f (suc r)) ≡ 0 = ap bit (h (suc r) (omega arith) (omega arith)) in
    omega arith

count_same : (n : ℕ) (f g : ℕ → Bool) → ((s : ℕ) → s < n → f s ≡ g s) → count_where n f ≡ count_where n g
count_same zero f g h = refl
count_same (suc n) f g h =
    let rest : count_where n f ≡ count_where n g = count_same n f g (λ s q. h s (omega arith)) in
    let here : bit (f n) ≡ bit (g n) = ap bit (h n (omega arith)) in
    omega arith

-- ---- words

one_digit : (d : ℕ) → d < 2 → bit (nat_eq d 1) ≡ count_ones d
unfolding count_ones
one_digit zero h = refl
one_digit (suc zero) h = refl
one_digit (suc (suc d)) h = absurd (omega arith)

no_digits : count_ones 0 ≡ 0
unfolding count_ones
no_digits = refl

low_digits : (k x : ℕ) → count_where k (λ s. nat_eq (bit_at x s) 1) ≡ count_ones (x % 2 ^ k)
low_digits zero x = let none : x % 2 ^ 0 ≡ 0 = let small : x % 2 ^ 0 < 2 ^ 0 = mod-lt x (pow_pos 0) in omega arith in sym (ap count_ones none ∙ no_digits)
low_digits (suc k) x =
    let e : suc k ≡ 1 + k = omega arith in
    let rest : count_where k (λ s. nat_eq (bit_at x s) 1) ≡ count_ones (x % 2 ^ k) = low_digits k x in
    let here : bit (nat_eq (bit_at x k) 1) ≡ count_ones (bit_at x k) = one_digit (bit_at x k) (bit_at-lt x k) in
    let split : x % 2 ^ suc k ≡ (x / 2 ^ k % 2 ^ 1) * 2 ^ k + x % 2 ^ k = ap (λ m. x % 2 ^ m) e ∙ mod-pow-add x 1 k in
    let both : count_ones (x % 2 ^ suc k) ≡ count_ones (bit_at x k) + count_ones (x % 2 ^ k) = ap count_ones split ∙ ones_cat k (x / 2 ^ k % 2 ^ 1) (x % 2 ^ k) (mod-lt x (pow_pos k)) in
    omega arith

pub word_counted : (words : List ℕ) (i : ℕ) → get_or words i 0 < 2 ^ 64 → count_ones (get_or words i 0) ≡ count_where 64 (λ s. bit_of words (64 * i + s))
word_counted words i small =
    ap count_ones (sym (mod-eq_of_lt small)) ∙ sym (low_digits 64 (get_or words i 0)) ∙ count_same 64 (λ s. bit_in words i s) (λ s. bit_of words (64 * i + s)) (λ s h. sym (bit_placed words i s h))

pub word_few : (x : ℕ) → x < 2 ^ 64 → count_ones x ≤ 64
word_few x h = ones-le 64 x h

pub counts_more : (i : ℕ) (f : ℕ → Bool) (n m : ℕ) → n ≡ count_where (64 * i) f → m ≡ count_where 64 (λ s. f (64 * i + s)) → n + m ≡ count_where (64 * (i + 1)) f
counts_more i f n m e d =
    let s : 64 * (i + 1) ≡ 64 * i + 64 = omega arith in
    let a : count_where (64 * i + 64) f ≡ count_where (64 * i) f + count_where 64 (λ s. f (64 * i + s)) = count_add (64 * i) 64 f in
    let b : count_where (64 * (i + 1)) f ≡ count_where (64 * i + 64) f = ap (λ n. count_where n f) s in
    omega arith

-- ---- lanes

module _ (w : ℕ) (test bits : ℕ → Bool) (r : ℕ) (width : w ≡ suc r) where
  lanes_counted : (n : ℕ) → ((k : ℕ) → k < n → bits (k * w) ≡ test k) → ((b : ℕ) → b < n * w → 0 < b % w → bits b ≡ false) → count_where (n * w) bits ≡ count_where n test
  lanes_counted zero on off = let z : 0 * w ≡ 0 = omega arith in ap (λ n. count_where n bits) z
  lanes_counted (suc n) on off =
      let e : suc n * w ≡ n * w + w = omega arith in
      let z : n * w + 0 ≡ n * w = omega arith in
      let before : count_where (n * w) bits ≡ count_where n test = lanes_counted n (λ k h. on k (omega arith)) (λ b h. off b (omega arith)) in
      let one : count_where (suc r) (λ s. bits (n * w + s)) ≡ bit (bits (n * w + 0)) = count_one r (λ s. bits (n * w + s)) (λ s p q.
      let small : s < w = omega arith in
      let rest : (n * w + s) % w ≡ s = mod-mul-add n w s small in
      off (n * w + s) (omega arith) (omega arith)) in
      let this : count_where w (λ s. bits (n * w + s)) ≡ bit (test n) = ap (λ m. count_where m (λ s. bits (n * w + s))) width ∙ one ∙ ap (λ x. bit (bits x)) z ∙ ap bit (on n (omega arith)) in
      let all : count_where (n * w + w) bits ≡ count_where (n * w) bits + count_where w (λ s. bits (n * w + s)) = count_add (n * w) w bits in
      ap (λ m. count_where m bits) e ∙ omega arith

none_past : (w n : ℕ) (test : ℕ → Bool) (s : ℕ) → 0 < w → field_bit w (among n test) (n * w + s) ≡ false
none_past w n test s some =
    let q : n ≤ (n * w + s) / w = le-div n (n * w + s) w some (omega arith) in
    neither (nat_eq ((n * w + s) % w) 0) (among n test ((n * w + s) / w)) (ap (λ t. t && test ((n * w + s) / w)) (le-ltb ((n * w + s) / w) n q))
  where
    neither : (t b : Bool) → b ≡ false → (if t then b else false) ≡ false
    neither true b e = e
    neither false b e = refl

pub count_of_words : (w n : ℕ) (test bits : ℕ → Bool) → 0 < w → n * w ≤ 256 → ((b : ℕ) → bits b ≡ field_bit w (among n test) b) → count_where 256 bits ≡ count_where n test
count_of_words w n test bits some room shows =
    let width : w ≡ suc (w - 1) = omega arith in
    let split : 256 ≡ n * w + (256 - n * w) = omega arith in
    let lanes : count_where (n * w) bits ≡ count_where n test = lanes_counted w test bits (w - 1) width n
    (λ k h. shows (k * w) ∙ at_start k w (among n test) some ∙ ap (λ t. t && test k) (lt-ltb k n h))
    (λ b h off. shows b ∙ between w b (among n test) off) in
    let past : count_where (256 - n * w) (λ s. bits (n * w + s)) ≡ 0 = count_none (256 - n * w) (λ s. bits (n * w + s)) (λ s h. shows (n * w + s) ∙ none_past w n test s some) in
    let all : count_where (n * w + (256 - n * w)) bits ≡ count_where (n * w) bits + count_where (256 - n * w) (λ s. bits (n * w + s)) = count_add (n * w) (256 - n * w) bits in
    ap (λ m. count_where m bits) split ∙ omega arith
