-- What the words of a predicate show.
use Rattle.std.proofs.Common.{◌≡◌, ◌≢◌, ◌<◌, ◌/◌, ◌%◌, ◌*◌, ◌+◌, ℕ, Bool, false, List, length, get_or, set, replicate, nat_eq, sym, ap, subst, ◌∙◌, inl, inr, arith}
use Rattle.std.specs.Int.{bit_at}
use Rattle.std.proofs.lemmas.Bool.{cases_eq}
use Rattle.std.proofs.lemmas.List.{length-set, length-replicate, get_or-replicate, get_or-set_same, get_or-set_other}
use Rattle.std.proofs.lemmas.List.FromFn.{fill_by_all}
use Rattle.std.proofs.lemmas.Nat.{div-add-mod'}
use Rattle.lane_model.specs.WordBits.{AreClearFrom, bit_of, bits_of}
use Rattle.lane_model.proofs.Bits.{get_or-each_bit, length-each_bit, zero_bit}

-- ---- reads

pub length_shown : (n : ℕ) (words : List ℕ) (p : List Bool) → bits_of n words ≡ p → length p ≡ n
length_shown n words p e = subst (λ (p : List Bool). length p ≡ n) e (length-each_bit n (bit_of words))

pub get_shown : (n : ℕ) (words : List ℕ) (p : List Bool) (k : ℕ) → bits_of n words ≡ p → k < length p → get_or p k false ≡ bit_of words k
get_shown n words p k e h =
    let within : k < n = omega (arith, length_shown n words p e) in
    subst (λ (p : List Bool). get_or p k false ≡ bit_of words k) e (get_or-each_bit n (bit_of words) k false within)

pub zeros_shown : (n m : ℕ) → bits_of n (replicate m 0) ≡ replicate n false
zeros_shown n m = sym (fill_by_all (bit_of (replicate m 0)) (replicate n false) n false (length-replicate n false) (λ k h. get_or-replicate n k false false h ∙ sym (zero_bit m k)))

pub words_shown : (n : ℕ) (words : List ℕ) (p : List Bool) → bits_of n words ≡ p → p ≡ bits_of (length p) words
words_shown n words p e = sym e ∙ ap (λ i. bits_of i words) (sym (length_shown n words p e))

pub above_shown : (n : ℕ) (words : List ℕ) (p : List Bool) → bits_of n words ≡ p → AreClearFrom n words → AreClearFrom (length p) words
above_shown n words p e h = subst (λ i. AreClearFrom i words) (sym (length_shown n words p e)) h

pub ruleset views = (length_shown, get_shown, zeros_shown, words_shown, above_shown)

-- ---- a bit written

-- two places in the same word differ within it
other_place : (j k : ℕ) → j ≢ k → j / 64 ≡ k / 64 → j % 64 ≢ k % 64
other_place j k other same rest =
    let p : j / 64 * 64 + j % 64 ≡ j = div-add-mod' j 64 in
    let q : k / 64 * 64 + k % 64 ≡ k = div-add-mod' k 64 in
    other (omega arith)

module _ (words : List ℕ) (k w : ℕ) (v : Bool) (place : k / 64 < length words) (written : nat_eq (bit_at w (k % 64)) 1 ≡ v)
    (others : (i : ℕ) → i < 64 → i ≢ k % 64 → bit_at w i ≡ bit_at (get_or words (k / 64) 0) i) where
  pub bit_written : bit_of (set words (k / 64) w) k ≡ v
  bit_written = ap (λ x. nat_eq (bit_at x (k % 64)) 1) (get_or-set_same words (k / 64) w 0 place) ∙ written

  pub bit_kept : (j : ℕ) → j ≢ k → bit_of (set words (k / 64) w) j ≡ bit_of words j
  bit_kept j other = elim (cases_eq (j / 64) (k / 64)) [
    | inl same ↦
        ap (λ i. nat_eq (bit_at (get_or (set words (k / 64) w) i 0) (j % 64)) 1) same
        ∙ ap (λ x. nat_eq (bit_at x (j % 64)) 1) (get_or-set_same words (k / 64) w 0 place)
        ∙ ap (λ x. nat_eq x 1) (others (j % 64) (omega arith) (other_place j k other same))
        ∙ ap (λ i. nat_eq (bit_at (get_or words i 0) (j % 64)) 1) (sym same)
    | inr apart ↦ ap (λ x. nat_eq (bit_at x (j % 64)) 1) (get_or-set_other words (k / 64) (j / 64) w 0 apart)
  ]

  pub above_kept : (n : ℕ) → k < n → AreClearFrom n words → AreClearFrom n (set words (k / 64) w)
  above_kept n h clear j le = let other : j ≢ k = λ e. absurd (omega arith) in bit_kept j other ∙ clear j le

  pub set_shown : (n : ℕ) (p : List Bool) → bits_of n words ≡ p → k < length p → bits_of n (set words (k / 64) w) ≡ set p k v
  set_shown n p e h = subst (λ (p : List Bool). bits_of n (set words (k / 64) w) ≡ set p k v) e (sym (fill_by_all (bit_of (set words (k / 64) w)) (set (bits_of n words) k v) n false
      (length-set (bits_of n words) k v ∙ length-each_bit n (bit_of words)) at)) where
        at : (j : ℕ) → j < n → get_or (set (bits_of n words) k v) j false ≡ bit_of (set words (k / 64) w) j
        at j within = elim (cases_eq j k) [
          | inl same ↦
              let there : k < length (bits_of n words) = omega (arith, length-each_bit n (bit_of words)) in
              ap (λ i. get_or (set (bits_of n words) k v) i false) same ∙ get_or-set_same (bits_of n words) k v false there ∙ sym bit_written ∙ ap (bit_of (set words (k / 64) w)) (sym same)
          | inr other ↦ get_or-set_other (bits_of n words) k j v false other ∙ get_or-each_bit n (bit_of words) j false within ∙ sym (bit_kept j other)
        ]
