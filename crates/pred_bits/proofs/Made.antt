-- Words made one after the other, by their bits.
use Rattle.std.proofs.Common.{◌≡◌, ◌≢◌, ◌<◌, ◌≤◌, ◌+◌, ◌*◌, ◌/◌, ◌%◌, ◌^◌, ℕ, Bool, false, nat_eq, List, length, get_or, set, subst, inl, inr, sym, ap, ◌∙◌, arith}
use Rattle.std.specs.Int.{bit_at}
use Rattle.std.proofs.lemmas.Bool.{cases_lt}
use Rattle.std.proofs.lemmas.List.{get_or_past, get_or-set_same, get_or-set_other}
use Rattle.lane_model.specs.Lists.{each}
use Rattle.lane_model.specs.WordBits.{AreClearFrom, bit_of, bits_of}
use Rattle.lane_model.proofs.Bits.{each_bit_same}

-- bit i of word j
abbrev pub bit_in : List ℕ → ℕ → ℕ → Bool
bit_in words j i = nat_eq (bit_at (get_or words j 0) i) 1

-- bit s of word i is bit 64 * i + s
pub bit_placed : (words : List ℕ) (i s : ℕ) → s < 64 → bit_of words (64 * i + s) ≡ bit_in words i s
bit_placed words i s h =
    let q : (64 * i + s) / 64 ≡ i = omega arith in
    let r : (64 * i + s) % 64 ≡ s = omega arith in
    ap (λ x. nat_eq (get_or words x 0 / 2 ^ ((64 * i + s) % 64) % 2) 1) q ∙ ap (λ x. nat_eq (get_or words i 0 / 2 ^ x % 2) 1) r

-- no bit is 1 behind the words
pub bit_past : (words : List ℕ) (b : ℕ) → length words ≡ 4 → 256 ≤ b → bit_of words b ≡ false
bit_past words b count h =
    let outside : length words ≤ b / 64 = omega arith in
    let zero_bit : 0 / 2 ^ (b % 64) % 2 ≡ 0 = omega arith in
    ap (λ x. nat_eq (x / 2 ^ (b % 64) % 2) 1) (get_or_past words (b / 64) 0 outside) ∙ ap (λ x. nat_eq x 1) zero_bit

-- one word more
pub made_more : (words : List ℕ) (k w : ℕ) (f : ℕ → ℕ → Bool) → k < length words
    → ((j s : ℕ) → j < k → s < 64 → bit_in words j s ≡ f j s) → ((s : ℕ) → s < 64 → nat_eq (bit_at w s) 1 ≡ f k s)
    → (j s : ℕ) → j < k + 1 → s < 64 → bit_in (set words k w) j s ≡ f j s
made_more words k w f place done here j s q r = elim (cases_lt j k) [
  | inl less ↦ let other : j ≢ k = λ e. absurd (omega arith) in ap (λ x. nat_eq (bit_at x s) 1) (get_or-set_other words k j w 0 other) ∙ done j s less r
  | inr most ↦
      let same : k ≡ j = omega arith in
      subst (λ j. bit_in (set words k w) j s ≡ f j s) same (ap (λ x. nat_eq (bit_at x s) 1) (get_or-set_same words k w 0 place) ∙ here s r)
]

-- all four
module _ (words : List ℕ) (f : ℕ → Bool) (count : length words ≡ 4) (done : (j s : ℕ) → j < 4 → s < 64 → bit_in words j s ≡ f (64 * j + s)) where
  pub made_bit : (b : ℕ) → b < 256 → bit_of words b ≡ f b
  made_bit b h =
      let place : 64 * (b / 64) + b % 64 ≡ b = omega arith in
      done (b / 64) (b % 64) (omega arith) (omega arith) ∙ ap f place

  pub made_all : ((b : ℕ) → 256 ≤ b → f b ≡ false) → (b : ℕ) → bit_of words b ≡ f b
  made_all past b = elim (cases_lt b 256) [ inl h ↦ made_bit b h | inr h ↦ bit_past words b count h ∙ sym (past b h) ]

-- words by all their bits
pub clear_from : (words : List ℕ) (n : ℕ) (f : ℕ → Bool) → ((b : ℕ) → bit_of words b ≡ f b) → ((b : ℕ) → n ≤ b → f b ≡ false) → AreClearFrom n words
clear_from words n f is past b le = is b ∙ past b le

pub bits_are : (words : List ℕ) (n : ℕ) (f g : ℕ → Bool) → ((b : ℕ) → bit_of words b ≡ f b) → ((b : ℕ) → b < n → f b ≡ g b) → bits_of n words ≡ each n g
bits_are words n f g is same = each_bit_same n (bit_of words) g (λ b h. is b ∙ same b h)
