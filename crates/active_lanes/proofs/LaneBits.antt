-- Lanes of a predicate by the bits of its words.
use Rattle.std.proofs.Common.{◌≡◌, ◌<◌, ◌≤◌, ◌+◌, ◌-◌, ◌*◌, ◌/◌, ◌%◌, ◌^◌, ℕ, zero, suc, max, min, bit_and, bit_or, w64, Bool, true, false, nat_eq, if◌then◌else◌, List, get_or, inl, inr, refl, sym, ap, ◌∙◌, arith}
use Rattle.std.specs.Int.{bit_at, trailing_ones, trailing_zeros, bit_not}
use Rattle.std.proofs.lemmas.Bool.{cases_lt}
use Rattle.std.proofs.lemmas.Bool.Decides.{eqb_tells}
use Rattle.std.proofs.Math.Nat.{zero-div}
use Rattle.std.proofs.lemmas.Nat.{shr-shr, trailing_le}
use Rattle.std.proofs.lemmas.Nat.Bits.{bit_at_and, bit_at_not, bit_at_or, bit_at-zero, bit_at_ones, bit_at-trailing_ones, bit_at-trailing_zeros}
use Rattle.emu_model.specs.ListLaws.{get_or-each}
use Rattle.emu_model.specs.Active.{active}
use Rattle.emu_model.specs.LaneSizes.{IsLaneSize}
use Rattle.vec_regs.specs.Words.{bit_of, bits_of}
use Rattle.active_lanes.specs.Seen.{seen_end, unseen_bit}
use Rattle.active_lanes.proofs.FieldBits.{eight, bit_within}

-- ---- bits that no lane looks at

pub between2 : (u : ℕ) → u < 8 → 12297829382473034410 / 2 ^ (8 * u) % 256 ≡ 170
between2 = eight (λ u. 12297829382473034410 / 2 ^ (8 * u) % 256 ≡ 170) refl refl refl refl refl refl refl refl

pub off2 : (t : ℕ) → t < 8 → 170 / 2 ^ t % 2 ≡ unseen_bit 2 t
off2 = eight (λ t. 170 / 2 ^ t % 2 ≡ unseen_bit 2 t) refl refl refl refl refl refl refl refl

pub between4 : (u : ℕ) → u < 8 → 17216961135462248174 / 2 ^ (8 * u) % 256 ≡ 238
between4 = eight (λ u. 17216961135462248174 / 2 ^ (8 * u) % 256 ≡ 238) refl refl refl refl refl refl refl refl

pub off4 : (t : ℕ) → t < 8 → 238 / 2 ^ t % 2 ≡ unseen_bit 4 t
off4 = eight (λ t. 238 / 2 ^ t % 2 ≡ unseen_bit 4 t) refl refl refl refl refl refl refl refl

pub between8 : (u : ℕ) → u < 8 → 18374403900871474942 / 2 ^ (8 * u) % 256 ≡ 254
between8 = eight (λ u. 18374403900871474942 / 2 ^ (8 * u) % 256 ≡ 254) refl refl refl refl refl refl refl refl

pub off8 : (t : ℕ) → t < 8 → 254 / 2 ^ t % 2 ≡ unseen_bit 8 t
off8 = eight (λ t. 254 / 2 ^ t % 2 ≡ unseen_bit 8 t) refl refl refl refl refl refl refl refl

-- bit b of a number whose bytes are all f
pub between : (e n w x f b : ℕ) → e ≡ n → n / 8 ≡ w → ((u : ℕ) → u < 8 → x / 2 ^ (8 * u) % 256 ≡ f)
    → ((t : ℕ) → t < 8 → f / 2 ^ t % 2 ≡ unseen_bit w t) → b % 8 % w ≡ b % w → b < 64 → x / 2 ^ b % 2 ≡ unseen_bit (e / 8) b
between e n w x f b is width fields off again h =
    let u : b / 8 < 8 = omega (arith, h) in
    let t : b % 8 < 8 = omega arith in
    let place : 8 * (b / 8) + b % 8 ≡ b = omega arith in
    ap (λ s. x / 2 ^ s % 2) (sym place)
    ∙ sym (bit_within x (8 * (b / 8)) (b % 8) t)
    ∙ ap (λ y. y / 2 ^ (b % 8) % 2) (fields (b / 8) u)
    ∙ off (b % 8) t
    ∙ ap (λ r. if nat_eq r 0 then 0 else 1) again
    ∙ ap (λ w. unseen_bit w b) (sym (ap (λ e. e / 8) is ∙ width))

pub again2 : (b : ℕ) → b % 8 % 2 ≡ b % 2
again2 b = omega arith

pub again4 : (b : ℕ) → b % 8 % 4 ≡ b % 4
again4 b = omega arith

pub again8 : (b : ℕ) → b % 8 % 8 ≡ b % 8
again8 b = omega arith

-- lanes of one byte look at all bits
pub none_between : (e b : ℕ) → e ≡ 8 → 0 / 2 ^ b % 2 ≡ unseen_bit (e / 8) b
none_between e b is =
    let all : b % 1 ≡ 0 = omega arith in
    ap (λ x. x % 2) (zero-div (2 ^ b)) ∙ sym (ap (λ r. if nat_eq r 0 then 0 else 1) all) ∙ ap (λ e. unseen_bit (e / 8) b) (sym is)

lane_bits : (e j : ℕ) → IsLaneSize e → j * (e / 8) % (e / 8) ≡ 0
lane_bits e j (inl s) = rw s (omega arith)
lane_bits e j (inr (inl s)) = rw s (omega arith)
lane_bits e j (inr (inr (inl s))) = rw s (omega arith)
lane_bits e j (inr (inr (inr s))) = rw s (omega arith)

-- a lane looks at its bit
pub lane_seen : (e j : ℕ) → IsLaneSize e → unseen_bit (e / 8) (j * (e / 8)) ≡ 0
lane_seen e j size = ap (λ r. if nat_eq r 0 then 0 else 1) (lane_bits e j size)

zero_by : (r b : ℕ) → b ≡ (if nat_eq r 0 then 0 else 1) → b ≡ 0 → r ≡ 0
zero_by r b is h = elim (eqb_tells r 0) [
  | inl same ↦ same.1
  | inr other ↦ (let one : b ≡ 1 = is ∙ ap (λ (s : Bool). if s then 0 else 1) other.0 in absurd (omega (arith, one, h)))
]

pub seen_only : (w b : ℕ) → unseen_bit w b ≡ 0 → b % w ≡ 0
seen_only w b h = zero_by (b % w) (unseen_bit w b) refl h

-- ---- bits before the lowest of the other kind

pub ones_are : (x i : ℕ) → x < 2 ^ 64 → i < trailing_ones w64 x → x / 2 ^ i % 2 ≡ 1
ones_are x i small h = elim (cases_lt (x + 1) (2 ^ 64)) [
  | inl b ↦ (bit_at-trailing_ones w64 x b).2 i h
  | inr b ↦
      (let full : x ≡ 2 ^ 64 - 1 = omega arith in
      let few : trailing_ones w64 x ≤ 64 = trailing_le 64 (bit_not w64 x) in
      ap (λ x. x / 2 ^ i % 2) full ∙ bit_at_ones 64 i (omega (arith, few, h)))
]

full_ones : trailing_ones w64 (2 ^ 64 - 1) ≡ 64
unfolding lib.Count.count_trailing_zeros
full_ones = refl

pub ones_end : (x : ℕ) → x < 2 ^ 64 → trailing_ones w64 x < 64 → x / 2 ^ trailing_ones w64 x % 2 ≡ 0
ones_end x small h = elim (cases_lt (x + 1) (2 ^ 64)) [
  | inl b ↦ (bit_at-trailing_ones w64 x b).1
  | inr b ↦
      (let full : x ≡ 2 ^ 64 - 1 = omega arith in
      let all : trailing_ones w64 x ≡ 64 = ap (λ x. trailing_ones w64 x) full ∙ full_ones in
      absurd (omega (arith, all, h)))
]

pub zeros_are : (x i : ℕ) → x < 2 ^ 64 → i < trailing_zeros w64 x → x / 2 ^ i % 2 ≡ 0
zeros_are x i small h = elim (cases_lt 0 x) [
  | inl b ↦ (bit_at-trailing_zeros w64 x b small).2 i h
  | inr b ↦ (let none : x ≡ 0 = omega arith in ap (λ x. x / 2 ^ i % 2) none ∙ bit_at-zero i)
]

no_zeros : trailing_zeros w64 0 ≡ 64
unfolding lib.Count.count_trailing_zeros
no_zeros = refl

pub zeros_end : (x : ℕ) → x < 2 ^ 64 → trailing_zeros w64 x < 64 → x / 2 ^ trailing_zeros w64 x % 2 ≡ 1
zeros_end x small h = elim (cases_lt 0 x) [
  | inl b ↦ (bit_at-trailing_zeros w64 x b small).1
  | inr b ↦
      (let none : x ≡ 0 = omega arith in
      let all : trailing_zeros w64 x ≡ 64 = ap (λ x. trailing_zeros w64 x) none ∙ no_zeros in
      absurd (omega (arith, all, h)))
]

-- ---- one of two bits

first_of_two : (a : ℕ) → a < 2 → max a 0 ≡ 1 → a ≡ 1
first_of_two a b h = omega arith

pub first_is_set : (x y i : ℕ) → y / 2 ^ i % 2 ≡ 0 → bit_at (bit_or x y) i ≡ 1 → x / 2 ^ i % 2 ≡ 1
first_is_set x y i none h =
    let b : x / 2 ^ i % 2 < 2 = omega arith in
    first_of_two (x / 2 ^ i % 2) b (ap (λ z. max (x / 2 ^ i % 2) z) (sym none) ∙ sym (bit_at_or x y i) ∙ h)

none_of_two : (a b : ℕ) → max a b ≡ 0 → (a ≡ 0) × (b ≡ 0)
none_of_two a b h = (omega (arith, h), omega (arith, h))

pub neither_set : (x y i : ℕ) → bit_at (bit_or x y) i ≡ 0 → (x / 2 ^ i % 2 ≡ 0) × (y / 2 ^ i % 2 ≡ 0)
neither_set x y i h = none_of_two (x / 2 ^ i % 2) (y / 2 ^ i % 2) (sym (bit_at_or x y i) ∙ h)

first_alone : (a b : ℕ) → a < 2 → min a (1 - b) ≡ 1 → (a ≡ 1) × (b ≡ 0)
first_alone a b small h = (omega (arith, small, h), omega (arith, small, h))

no_first : (a b : ℕ) → b ≡ 0 → min a (1 - b) ≡ 0 → a ≡ 0
no_first a b none h = omega (arith, none, h)

-- bit i of those of x that aren't y's
left_bit : (x y i : ℕ) → y < 2 ^ 64 → i < 64 → min (x / 2 ^ i % 2) (1 - y / 2 ^ i % 2) ≡ bit_at (bit_and x (bit_not w64 y)) i
left_bit x y i small h = ap (λ z. min (x / 2 ^ i % 2) z) (sym (bit_at_not w64 y i small h)) ∙ sym (bit_at_and x (bit_not w64 y) i)

pub set_alone : (x y i : ℕ) → y < 2 ^ 64 → i < 64 → bit_at (bit_and x (bit_not w64 y)) i ≡ 1 → (x / 2 ^ i % 2 ≡ 1) × (y / 2 ^ i % 2 ≡ 0)
set_alone x y i small h set = first_alone (x / 2 ^ i % 2) (y / 2 ^ i % 2) (omega arith) (left_bit x y i small h ∙ set)

pub first_is_clear : (x y i : ℕ) → y < 2 ^ 64 → i < 64 → y / 2 ^ i % 2 ≡ 0 → bit_at (bit_and x (bit_not w64 y)) i ≡ 0 → x / 2 ^ i % 2 ≡ 0
first_is_clear x y i small h none clear = no_first (x / 2 ^ i % 2) (y / 2 ^ i % 2) none (left_bit x y i small h ∙ clear)

-- ---- the bit of a lane, in the 64 bits that have that of lane k

pub same_word : (e k i bytes : ℕ) → IsLaneSize e → k ≤ i → i < k + bytes / (e / 8) → bytes ≤ 64 - k * (e / 8) % 64 → i * (e / 8) / 64 ≡ k * (e / 8) / 64
same_word e k i bytes (inl s) = rw s (λ a b c. omega arith)
same_word e k i bytes (inr (inl s)) = rw s (λ a b c. omega arith)
same_word e k i bytes (inr (inr (inl s))) = rw s (λ a b c. omega arith)
same_word e k i bytes (inr (inr (inr s))) = rw s (λ a b c. omega arith)

further : (e k i : ℕ) → IsLaneSize e → k ≤ i → i * (e / 8) / 64 ≡ k * (e / 8) / 64 → i * (e / 8) % 64 ≡ k * (e / 8) % 64 + (i - k) * (e / 8)
further e k i (inl s) = rw s (λ a b. omega arith)
further e k i (inr (inl s)) = rw s (λ a b. omega arith)
further e k i (inr (inr (inl s))) = rw s (λ a b. omega arith)
further e k i (inr (inr (inr s))) = rw s (λ a b. omega arith)

pub among_bytes : (e k i bytes : ℕ) → IsLaneSize e → k ≤ i → i < k + bytes / (e / 8) → (i - k) * (e / 8) < bytes
among_bytes e k i bytes (inl s) = rw s (λ a b. omega arith)
among_bytes e k i bytes (inr (inl s)) = rw s (λ a b. omega arith)
among_bytes e k i bytes (inr (inr (inl s))) = rw s (λ a b. omega arith)
among_bytes e k i bytes (inr (inr (inr s))) = rw s (λ a b. omega arith)

-- so many whole lanes from lane k on end within its 64 bits
pub ends_in : (e k r bytes : ℕ) → IsLaneSize e → r ≤ bytes / (e / 8) → bytes ≤ 64 - k * (e / 8) % 64 → k + r ≤ seen_end e k
ends_in e k r bytes (inl s) = rw s (λ a b. omega arith)
ends_in e k r bytes (inr (inl s)) = rw s (λ a b. omega arith)
ends_in e k r bytes (inr (inr (inl s))) = rw s (λ a b. omega arith)
ends_in e k r bytes (inr (inr (inr s))) = rw s (λ a b. omega arith)

pub ends_before : (e k bytes : ℕ) → IsLaneSize e → k + bytes / (e / 8) < seen_end e k → bytes ≤ 64 - k * (e / 8) % 64 → bytes < 64 - k * (e / 8) % 64
ends_before e k bytes (inl s) = rw s (λ a b. omega arith)
ends_before e k bytes (inr (inl s)) = rw s (λ a b. omega arith)
ends_before e k bytes (inr (inr (inl s))) = rw s (λ a b. omega arith)
ends_before e k bytes (inr (inr (inr s))) = rw s (λ a b. omega arith)

pub same_before_end : (e k i : ℕ) → IsLaneSize e → k ≤ i → i < seen_end e k → i * (e / 8) / 64 ≡ k * (e / 8) / 64
same_before_end e k i (inl s) = rw s (λ a b. omega arith)
same_before_end e k i (inr (inl s)) = rw s (λ a b. omega arith)
same_before_end e k i (inr (inr (inl s))) = rw s (λ a b. omega arith)
same_before_end e k i (inr (inr (inr s))) = rw s (λ a b. omega arith)

pub begins_in : (e k : ℕ) → IsLaneSize e → k < seen_end e k
begins_in e k (inl s) = rw s (omega arith)
begins_in e k (inr (inl s)) = rw s (omega arith)
begins_in e k (inr (inr (inl s))) = rw s (omega arith)
begins_in e k (inr (inr (inr s))) = rw s (omega arith)

-- the bit behind whole lanes
pub behind_lanes : (e k b : ℕ) → IsLaneSize e → b % (e / 8) ≡ 0 → (k + b / (e / 8) - k) * (e / 8) ≡ b
behind_lanes e k b (inl s) = rw s (λ a. omega arith)
behind_lanes e k b (inr (inl s)) = rw s (λ a. omega arith)
behind_lanes e k b (inr (inr (inl s))) = rw s (λ a. omega arith)
behind_lanes e k b (inr (inr (inr s))) = rw s (λ a. omega arith)

pub lane_place : (e bits i : ℕ) → IsLaneSize e → i < bits / e → i * (e / 8) < bits / 8
lane_place e bits i (inl s) = rw s (λ a. omega arith)
lane_place e bits i (inr (inl s)) = rw s (λ a. omega arith)
lane_place e bits i (inr (inr (inl s))) = rw s (λ a. omega arith)
lane_place e bits i (inr (inr (inr s))) = rw s (λ a. omega arith)

pub seen_from : (words : List ℕ) (p : List Bool) (n e k i : ℕ) → IsLaneSize e → p ≡ bits_of n words → i * (e / 8) < n → k ≤ i → i * (e / 8) / 64 ≡ k * (e / 8) / 64
    → active e p i ≡ nat_eq (get_or words (k * (e / 8) / 64) 0 / 2 ^ (k * (e / 8) % 64) / 2 ^ ((i - k) * (e / 8)) % 2) 1
seen_from words p n e k i size is within h same =
    let x : ℕ = get_or words (k * (e / 8) / 64) 0 in
    ap (λ (p : List Bool). get_or p (i * (e / 8)) false) is
    ∙ get_or-each n (bit_of words) (i * (e / 8)) false within
    ∙ ap (λ j. nat_eq (get_or words j 0 / 2 ^ (i * (e / 8) % 64) % 2) 1) same
    ∙ ap (λ j. nat_eq (x / 2 ^ j % 2) 1) (further e k i size h same)
    ∙ ap (λ y. nat_eq (y % 2) 1) (sym (shr-shr x (k * (e / 8) % 64) ((i - k) * (e / 8))))

-- ---- lanes at the front, 64 bits of the predicate after 64 bits

-- lanes of which the first begins 64 bits, and which fill them
pub filled : (e k d : ℕ) → IsLaneSize e → k * (e / 8) % 64 ≡ 0 → k + d ≤ seen_end e k → 64 / (e / 8) ≤ d → (k + d) * (e / 8) % 64 ≡ 0
filled e k d (inl s) = rw s (λ a b c. omega arith)
filled e k d (inr (inl s)) = rw s (λ a b c. omega arith)
filled e k d (inr (inr (inl s))) = rw s (λ a b c. omega arith)
filled e k d (inr (inr (inr s))) = rw s (λ a b c. omega arith)

pub some_lanes : (e : ℕ) → IsLaneSize e → 1 ≤ 64 / (e / 8)
some_lanes e (inl s) = rw s (omega arith)
some_lanes e (inr (inl s)) = rw s (omega arith)
some_lanes e (inr (inr (inl s))) = rw s (omega arith)
some_lanes e (inr (inr (inr s))) = rw s (omega arith)

pub more_on : (on : ℕ → Bool) (k d : ℕ) → ((i : ℕ) → i < k → on i ≡ true) → ((i : ℕ) → k ≤ i → i < k + d → on i ≡ true) → (i : ℕ) → i < k + d → on i ≡ true
more_on on k d before here i h = elim (cases_lt i k) [
  | inl b ↦ before i b
  | inr b ↦ here i b h
]

-- ---- lanes whose bits are whole words of a predicate

pub whole_word_lanes : (e bits i : ℕ) → IsLaneSize e → i < bits / 512 → i * (64 / (e / 8)) + 64 / (e / 8) ≤ bits / e
whole_word_lanes e bits i (inl s) = rw s (λ h. omega arith)
whole_word_lanes e bits i (inr (inl s)) = rw s (λ h. omega arith)
whole_word_lanes e bits i (inr (inr (inl s))) = rw s (λ h. omega arith)
whole_word_lanes e bits i (inr (inr (inr s))) = rw s (λ h. omega arith)

pub word_end : (e i : ℕ) → IsLaneSize e → seen_end e (i * (64 / (e / 8))) ≡ i * (64 / (e / 8)) + 64 / (e / 8)
word_end e i (inl s) = rw s (omega arith)
word_end e i (inr (inl s)) = rw s (omega arith)
word_end e i (inr (inr (inl s))) = rw s (omega arith)
word_end e i (inr (inr (inr s))) = rw s (omega arith)

pub whole_words_fit : (e bits : ℕ) → IsLaneSize e → bits / 512 * (64 / (e / 8)) ≤ bits / e
whole_words_fit e bits (inl s) = rw s (omega arith)
whole_words_fit e bits (inr (inl s)) = rw s (omega arith)
whole_words_fit e bits (inr (inr (inl s))) = rw s (omega arith)
whole_words_fit e bits (inr (inr (inr s))) = rw s (omega arith)

pub last_word_lanes : (e bits : ℕ) → IsLaneSize e → bits / e ≤ bits / 512 * (64 / (e / 8)) + 64 / (e / 8)
last_word_lanes e bits (inl s) = rw s (omega arith)
last_word_lanes e bits (inr (inl s)) = rw s (omega arith)
last_word_lanes e bits (inr (inr (inl s))) = rw s (omega arith)
last_word_lanes e bits (inr (inr (inr s))) = rw s (omega arith)

pub in_next_word : (e i k : ℕ) → IsLaneSize e → k < (i + 1) * (64 / (e / 8)) → k < i * (64 / (e / 8)) + 64 / (e / 8)
in_next_word e i k (inl s) = rw s (λ h. omega arith)
in_next_word e i k (inr (inl s)) = rw s (λ h. omega arith)
in_next_word e i k (inr (inr (inl s))) = rw s (λ h. omega arith)
in_next_word e i k (inr (inr (inr s))) = rw s (λ h. omega arith)

-- ---- all lanes at once

both_of_two : (a b : ℕ) → a < 2 → b < 2 → min a b ≡ 1 → (a ≡ 1) × (b ≡ 1)
both_of_two a b first second h = (omega (arith, first, second, h), omega (arith, first, second, h))

both_set : (x y i : ℕ) → bit_at (bit_and x y) i ≡ 1 → (x / 2 ^ i % 2 ≡ 1) × (y / 2 ^ i % 2 ≡ 1)
both_set x y i h = both_of_two (x / 2 ^ i % 2) (y / 2 ^ i % 2) (omega arith) (omega arith) (sym (bit_at_and x y i) ∙ h)

four : (P : ℕ → Type 0) → P 0 → P 1 → P 2 → P 3 → (t : ℕ) → t < 4 → P t
four P a b c d zero h = a
four P a b c d (suc zero) h = b
four P a b c d (suc (suc zero)) h = c
four P a b c d (suc (suc (suc zero))) h = d
four P a b c d (suc (suc (suc (suc n)))) h = absurd (omega arith)

seen_in_word : (e k : ℕ) → IsLaneSize e → k * (e / 8) % 64 % (e / 8) ≡ 0
seen_in_word e k (inl s) = rw s (omega arith)
seen_in_word e k (inr (inl s)) = rw s (omega arith)
seen_in_word e k (inr (inr (inl s))) = rw s (omega arith)
seen_in_word e k (inr (inr (inr s))) = rw s (omega arith)

-- a lane, where each of four words has all bits that lanes look at
pub all_seen : (words : List ℕ) (p : List Bool) (between e bits k : ℕ) → IsLaneSize e → bits ≤ 2048 → p ≡ bits_of (bits / 8) words → ((b : ℕ) → b < 64 → between / 2 ^ b % 2 ≡ unseen_bit (e / 8) b)
    → bit_or (bit_and (bit_and (bit_and (get_or words 0 0) (get_or words 1 0)) (get_or words 2 0)) (get_or words 3 0)) between ≡ 2 ^ 64 - 1 → k < bits / e → active e p k ≡ true
all_seen words p between e bits k size most is unseen full h =
    let n : ℕ = bits / 8 in
    let j : ℕ = k * (e / 8) in
    let i : ℕ = k * (e / 8) % 64 in
    let within : k * (e / 8) < bits / 8 = lane_place e bits k size h in
    let small : k * (e / 8) % 64 < 64 = omega arith in
    let word : k * (e / 8) / 64 < 4 = omega (arith, within, most) in
    let none : between / 2 ^ i % 2 ≡ 0 = unseen i small ∙ ap (λ r. if nat_eq r 0 then 0 else 1) (seen_in_word e k size) in
    let abc : ℕ = bit_and (bit_and (get_or words 0 0) (get_or words 1 0)) (get_or words 2 0) in
    let ab : ℕ = bit_and (get_or words 0 0) (get_or words 1 0) in
    let all : bit_at (bit_or (bit_and abc (get_or words 3 0)) between) i ≡ 1 = ap (λ x. bit_at x i) full ∙ bit_at_ones 64 i small in
    let last = both_set abc (get_or words 3 0) i (first_is_set (bit_and abc (get_or words 3 0)) between i none all) in
    let third = both_set ab (get_or words 2 0) i last.0 in
    let pair = both_set (get_or words 0 0) (get_or words 1 0) i third.0 in
    let set : get_or words (j / 64) 0 / 2 ^ i % 2 ≡ 1 = four (λ q. get_or words q 0 / 2 ^ i % 2 ≡ 1) pair.0 pair.1 third.1 last.1 (j / 64) word in
    ap (λ (p : List Bool). get_or p j false) is
    ∙ get_or-each n (bit_of words) j false within
    ∙ ap (λ x. nat_eq x 1) set
