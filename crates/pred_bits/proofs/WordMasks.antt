-- Words with the bits below a number, and with the bits at which fields begin.
use Rattle.std.proofs.Common.{◌≡◌, ◌≢◌, ◌<◌, ◌≤◌, ◌+◌, ◌-◌, ◌*◌, ◌/◌, ◌%◌, ◌^◌, ℕ, zero, suc, Bool, true, false, not, ◌&&◌, if◌then◌else◌, nat_eq, nat_lt, List, [], ◌∷◌, length, get_or, bit_and, w64, inl, inr, refl, sym, ap, subst, ◌∙◌, arith}
use Rattle.std.specs.Int.{bit_at, bit_not}
use Rattle.std.proofs.lemmas.Bool.{cases_lt, cases_eq, lt-ltb, le-ltb, and_right}
use Rattle.std.proofs.lemmas.Bool.Decides.{nat_tests}
use Rattle.std.proofs.lemmas.Nat.Bits.{bit_at_ones, bit_at_ones_above, bit_at-zero}
use Rattle.emu_bits.specs.Flags.{size_of}
use Rattle.emu_bits.specs.declared.flags.Esize.{Esize}
use Rattle.emu_bits.specs.declared.flags.Esize.TheVariants.{B, H, S, D}
use Rattle.lane_model.specs.WordBits.{bit_of}
use Rattle.lane_model.proofs.Found.{all_tells}
use Rattle.lane_model.specs.FirstLast.{all_below}
use Rattle.pred_bits.proofs.Made.{made_all}
use Rattle.pred_bits.proofs.WordBits.{and_bit, not_bit}

-- ---- the bits below a number

ones_bit : (m s : ℕ) → nat_eq (bit_at (2 ^ m - 1) s) 1 ≡ nat_lt s m
ones_bit m s = elim (cases_lt s m) [
  | inl h ↦ ap (λ x. nat_eq x 1) (bit_at_ones m s h) ∙ sym (lt-ltb s m h)
  | inr h ↦ ap (λ x. nat_eq x 1) (bit_at_ones_above m s h) ∙ sym (le-ltb s m h)
]

pub part_word : (n i s p : ℕ) → i ≡ n / 64 → p ≡ 2 ^ (n % 64) → s < 64 → nat_eq (bit_at (p - 1) s) 1 ≡ nat_lt (64 * i + s) n
part_word n i s p q e h = ap (λ x. nat_eq (bit_at (x - 1) s) 1) e ∙ ones_bit (n % 64) s ∙ elim (cases_lt s (n % 64)) [
  | inl less ↦ lt-ltb s (n % 64) less ∙ sym (lt-ltb (64 * i + s) n (omega arith))
  | inr most ↦ le-ltb s (n % 64) most ∙ sym (le-ltb (64 * i + s) n (omega arith))
]

-- ---- the bits at which fields begin

same_answer : Bool → Bool → Bool
same_answer true b = b
same_answer false b = not b

same_are : (a b : Bool) → same_answer a b ≡ true → a ≡ b
unfolding same_answer
same_are true b e = sym e
same_are false true e = e
same_are false false e = refl

begins : (word w : ℕ) → all_below 64 (λ s. same_answer (nat_eq (bit_at word s) 1) (nat_eq (s % w) 0)) ≡ true → (s : ℕ) → s < 64 → nat_eq (bit_at word s) 1 ≡ nat_eq (s % w) 0
begins word w all s h = same_are (nat_eq (bit_at word s) 1) (nat_eq (s % w) 0) (all_tells 64 (λ s. same_answer (nat_eq (bit_at word s) 1) (nat_eq (s % w) 0)) all s h)

pub byte_starts : (s : ℕ) → s < 64 → nat_eq (bit_at 18446744073709551615 s) 1 ≡ nat_eq (s % 1) 0
unfolding same_answer
byte_starts = begins 18446744073709551615 1 refl

pub half_starts : (s : ℕ) → s < 64 → nat_eq (bit_at 6148914691236517205 s) 1 ≡ nat_eq (s % 2) 0
unfolding same_answer
half_starts = begins 6148914691236517205 2 refl

pub word_starts : (s : ℕ) → s < 64 → nat_eq (bit_at 1229782938247303441 s) 1 ≡ nat_eq (s % 4) 0
unfolding same_answer
word_starts = begins 1229782938247303441 4 refl

pub double_starts : (s : ℕ) → s < 64 → nat_eq (bit_at 72340172838076673 s) 1 ≡ nat_eq (s % 8) 0
unfolding same_answer
double_starts = begins 72340172838076673 8 refl

-- in each word alike
start_again : (e : Esize) (i s : ℕ) → nat_eq (s % (size_of e / 8)) 0 ≡ nat_eq ((64 * i + s) % (size_of e / 8)) 0
start_again B i s = let r : s % 1 ≡ (64 * i + s) % 1 = omega arith in ap (λ x. nat_eq x 0) r
start_again H i s = let r : s % 2 ≡ (64 * i + s) % 2 = omega arith in ap (λ x. nat_eq x 0) r
start_again S i s = let r : s % 4 ≡ (64 * i + s) % 4 = omega arith in ap (λ x. nat_eq x 0) r
start_again D i s = let r : s % 8 ≡ (64 * i + s) % 8 = omega arith in ap (λ x. nat_eq x 0) r

-- ---- words of both

pub start_and : (e : Esize) (starts i s x : ℕ) (t : Bool) → nat_eq (bit_at starts s) 1 ≡ nat_eq (s % (size_of e / 8)) 0 → nat_eq (bit_at x s) 1 ≡ t
    → nat_eq (bit_at (bit_and starts x) s) 1 ≡ (nat_eq ((64 * i + s) % (size_of e / 8)) 0 && t)
start_and e starts i s x t begin is =
    and_bit starts x s ∙ ap (λ b. b && nat_eq (bit_at x s) 1) (begin ∙ start_again e i s) ∙ ap (λ b. nat_eq ((64 * i + s) % (size_of e / 8)) 0 && b) is

-- ---- the words below a number

pub each_of_four : (P : ℕ → Type 0) → P 0 → P 1 → P 2 → P 3 → (i : ℕ) → i < 4 → P i
each_of_four P a b c d zero h = a
each_of_four P a b c d (suc zero) h = b
each_of_four P a b c d (suc (suc zero)) h = c
each_of_four P a b c d (suc (suc (suc zero))) h = d
each_of_four P a b c d (suc (suc (suc (suc i)))) h = absurd (omega arith)

-- one word, and zeros behind it
pub first_of_four : (x : ℕ) (f : ℕ → Bool) → ((s : ℕ) → s < 64 → nat_eq (bit_at x s) 1 ≡ f (64 * 0 + s)) → ((b : ℕ) → 64 ≤ b → f b ≡ false)
    → (j s : ℕ) → j < 4 → s < 64 → nat_eq (bit_at (get_or (x ∷ 0 ∷ 0 ∷ 0 ∷ []) j 0) s) 1 ≡ f (64 * j + s)
first_of_four x f is none j s q h = each_of_four (λ j. nat_eq (bit_at (get_or (x ∷ 0 ∷ 0 ∷ 0 ∷ []) j 0) s) 1 ≡ f (64 * j + s)) (is s h)
    (ap (λ x. nat_eq x 1) (bit_at-zero s) ∙ sym (none (64 * 1 + s) (omega arith))) (ap (λ x. nat_eq x 1) (bit_at-zero s) ∙ sym (none (64 * 2 + s) (omega arith)))
    (ap (λ x. nat_eq x 1) (bit_at-zero s) ∙ sym (none (64 * 3 + s) (omega arith))) j q

kept : (t u : Bool) → u ≡ true → t ≡ (t && u)
kept true u e = sym e
kept false u e = refl

dropped : (t u : Bool) → u ≡ false → false ≡ (t && u)
dropped true u e = sym e
dropped false u e = refl

pub is_equal : (j k : ℕ) → j ≡ k → nat_eq j k ≡ true
is_equal j k e = grind (arith, nat_tests)

pub is_other : (j k : ℕ) → j ≢ k → nat_eq j k ≡ false
is_other j k e = grind (arith, nat_tests)

-- whole words, then a part of one, and zeros behind
pub run_bit : (e : Esize) (starts p n : ℕ) (words : List ℕ) → ((s : ℕ) → s < 64 → nat_eq (bit_at starts s) 1 ≡ nat_eq (s % (size_of e / 8)) 0) → p ≡ 2 ^ (n % 64)
    → ((i : ℕ) → i < 4 → get_or words i 0 ≡ (if nat_lt i (n / 64) then starts else if nat_eq i (n / 64) then bit_and starts (p - 1) else 0))
    → (j s : ℕ) → j < 4 → s < 64 → nat_eq (bit_at (get_or words j 0) s) 1 ≡ (nat_eq ((64 * j + s) % (size_of e / 8)) 0 && nat_lt (64 * j + s) n)
run_bit e starts p n words begin is made j s q h = ap (λ x. nat_eq (bit_at x s) 1) (made j q) ∙ elim (cases_lt j (n / 64)) [
  | inl less ↦
      let inside : 64 * j + s < n = omega arith in
      ap (λ t. nat_eq (bit_at (if t then starts else if nat_eq j (n / 64) then bit_and starts (p - 1) else 0) s) 1) (lt-ltb j (n / 64) less)
      ∙ begin s h ∙ start_again e j s ∙ kept (nat_eq ((64 * j + s) % (size_of e / 8)) 0) (nat_lt (64 * j + s) n) (lt-ltb (64 * j + s) n inside)
  | inr most ↦
      ap (λ t. nat_eq (bit_at (if t then starts else if nat_eq j (n / 64) then bit_and starts (p - 1) else 0) s) 1) (le-ltb j (n / 64) most)
      ∙ elim (cases_eq j (n / 64)) [
        | inl same ↦
            ap (λ t. nat_eq (bit_at (if t then bit_and starts (p - 1) else 0) s) 1) (is_equal j (n / 64) same)
            ∙ start_and e starts j s (p - 1) (nat_lt (64 * j + s) n) (begin s h) (part_word n j s p same is h)
        | inr other ↦
            let outside : n ≤ 64 * j + s = omega arith in
            ap (λ t. nat_eq (bit_at (if t then bit_and starts (p - 1) else 0) s) 1) (is_other j (n / 64) other)
            ∙ ap (λ x. nat_eq x 1) (bit_at-zero s) ∙ dropped (nat_eq ((64 * j + s) % (size_of e / 8)) 0) (nat_lt (64 * j + s) n) (le-ltb (64 * j + s) n outside)
      ]
]

-- four whole words, of which none is a part
pub run_whole : (starts x y : ℕ) (words : List ℕ) → ((i : ℕ) → i < 4 → get_or words i 0 ≡ (if nat_lt i 4 then starts else if nat_eq i 4 then x else 0))
    → (i : ℕ) → i < 4 → get_or words i 0 ≡ (if nat_lt i 4 then starts else if nat_eq i 4 then bit_and starts y else 0)
run_whole starts x y words made i h =
    made i h ∙ ap (λ t. if t then starts else if nat_eq i 4 then x else 0) (lt-ltb i 4 h) ∙ sym (ap (λ t. if t then starts else if nat_eq i 4 then bit_and starts y else 0) (lt-ltb i 4 h))

pub run_all : (e : Esize) (starts p n count : ℕ) (words : List ℕ) → ((s : ℕ) → s < 64 → nat_eq (bit_at starts s) 1 ≡ nat_eq (s % (size_of e / 8)) 0) → p ≡ 2 ^ (n % 64) → n ≤ 256 → count ≡ n / 64
    → length words ≡ 4 → ((i : ℕ) → i < 4 → get_or words i 0 ≡ (if nat_lt i count then starts else if nat_eq i count then bit_and starts (p - 1) else 0))
    → (b : ℕ) → bit_of words b ≡ (nat_eq (b % (size_of e / 8)) 0 && nat_lt b n)
run_all e starts p n count words begin is few at four made =
    made_all words (λ b. nat_eq (b % (size_of e / 8)) 0 && nat_lt b n) four
    (run_bit e starts p n words begin is (subst (λ k. (i : ℕ) → i < 4 → get_or words i 0 ≡ (if nat_lt i k then starts else if nat_eq i k then bit_and starts (p - 1) else 0)) at made))
    (λ b past. and_right (nat_eq (b % (size_of e / 8)) 0) (nat_lt b n) (le-ltb b n (omega arith)))

-- ---- the bits behind a place

behind_spot : (p i s : ℕ) → i ≡ p / 64 → s < 64 → not (nat_lt s (p % 64 + 1)) ≡ nat_lt p (64 * i + s)
behind_spot p i s at h = elim (cases_lt s (p % 64 + 1)) [
  | inl less ↦ let upto : 64 * i + s ≤ p = omega arith in ap not (lt-ltb s (p % 64 + 1) less) ∙ sym (le-ltb p (64 * i + s) upto)
  | inr most ↦ let past : p < 64 * i + s = omega arith in ap not (le-ltb s (p % 64 + 1) most) ∙ sym (lt-ltb p (64 * i + s) past)
]

behind_part : (p i s x upto : ℕ) → i ≡ p / 64 → upto ≡ 2 ^ (p % 64 + 1) - 1 → upto < 2 ^ 64 → s < 64 → nat_eq (bit_at (bit_and x (bit_not w64 upto)) s) 1 ≡ (nat_eq (bit_at x s) 1 && nat_lt p (64 * i + s))
behind_part p i s x upto at is small h =
    and_bit x (bit_not w64 upto) s
    ∙ ap (λ t. nat_eq (bit_at x s) 1 && t)
    (not_bit upto s small h ∙ ap not (ap (λ y. nat_eq (bit_at y s) 1) is ∙ ones_bit (p % 64 + 1) s) ∙ behind_spot p i s at h)

pub behind_bit : (p upto : ℕ) (words made : List ℕ) → upto ≡ 2 ^ (p % 64 + 1) - 1 → upto < 2 ^ 64
    → ((i : ℕ) → i < 4 → get_or made i 0 ≡ (if nat_lt i (p / 64) then 0 else if nat_eq i (p / 64) then bit_and (get_or words i 0) (bit_not w64 upto) else get_or words i 0))
    → (j s : ℕ) → j < 4 → s < 64 → nat_eq (bit_at (get_or made j 0) s) 1 ≡ (nat_eq (bit_at (get_or words j 0) s) 1 && nat_lt p (64 * j + s))
behind_bit p upto words made is small at j s q h = ap (λ x. nat_eq (bit_at x s) 1) (at j q) ∙ elim (cases_lt j (p / 64)) [
  | inl less ↦
      let before : 64 * j + s ≤ p = omega arith in
      ap (λ t. nat_eq (bit_at (if t then 0 else if nat_eq j (p / 64) then bit_and (get_or words j 0) (bit_not w64 upto) else get_or words j 0) s) 1) (lt-ltb j (p / 64) less)
      ∙ ap (λ x. nat_eq x 1) (bit_at-zero s) ∙ dropped (nat_eq (bit_at (get_or words j 0) s) 1) (nat_lt p (64 * j + s)) (le-ltb p (64 * j + s) before)
  | inr most ↦
      ap (λ t. nat_eq (bit_at (if t then 0 else if nat_eq j (p / 64) then bit_and (get_or words j 0) (bit_not w64 upto) else get_or words j 0) s) 1) (le-ltb j (p / 64) most)
      ∙ elim (cases_eq j (p / 64)) [
        | inl same ↦
            ap (λ t. nat_eq (bit_at (if t then bit_and (get_or words j 0) (bit_not w64 upto) else get_or words j 0) s) 1) (is_equal j (p / 64) same)
            ∙ behind_part p j s (get_or words j 0) upto same is small h
        | inr other ↦
            let past : p < 64 * j + s = omega arith in
            ap (λ t. nat_eq (bit_at (if t then bit_and (get_or words j 0) (bit_not w64 upto) else get_or words j 0) s) 1) (is_other j (p / 64) other)
            ∙ kept (nat_eq (bit_at (get_or words j 0) s) 1) (nat_lt p (64 * j + s)) (lt-ltb p (64 * j + s) past)
      ]
]
