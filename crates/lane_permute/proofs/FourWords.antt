-- Fields among the bits of four words.
use Rattle.std.proofs.Common.{◌≡◌, ◌≢◌, ◌<◌, ◌≤◌, ◌+◌, ◌-◌, ◌*◌, ◌/◌, ◌%◌, ◌^◌, ℕ, Bool, true, false, not, ◌&&◌, ◌||◌, nat_eq, nat_lt, nat_le, if◌then◌else◌, List, [], ◌∷◌, length, get_or, bit_and, bit_or, inl, inr, refl, sym, ap, ◌∙◌, arith}
use Rattle.std.proofs.lemmas.Bool.{cases_lt, cases_eq, lt-ltb, le-ltb, le-leb, lt-leb, true≢false, false≢true, agree_below, agree_below_at}
use Rattle.std.proofs.lemmas.List.{get_or_past}
use Rattle.std.proofs.lemmas.Nat.Bits.{bit_at-zero, bit_at_above}
use Rattle.lane_model.specs.WordBits.{bit_of}
use Rattle.lane_permute.specs.Places.{IsField, is_one, Comes, in_turn, apart, backwards, zipped, every_second, joined, transposed, reversed}
use Rattle.lane_permute.proofs.WordPlaces.{and_bit, or_bit, up_bit, down_bit, bit_of_low, or_false}

-- ---- bits of words

pub zero_bit : (s : ℕ) → is_one 0 s ≡ false
zero_bit s = ap (λ x. nat_eq x 1) (bit_at-zero s)

high_bit : (x k s : ℕ) → x < 2 ^ k → k ≤ s → is_one x s ≡ false
high_bit x k s small h = ap (λ y. nat_eq y 1) (bit_at_above x k s small h)

-- bit s of word q
pub placed : (words : List ℕ) (q s j : ℕ) → s < 64 → j ≡ 64 * q + s → bit_of words j ≡ is_one (get_or words q 0) s
placed words q s j h is =
    let word : j / 64 ≡ q = omega arith in
    let bit : j % 64 ≡ s = omega arith in
    ap (λ i. is_one (get_or words i 0) (j % 64)) word ∙ ap (is_one (get_or words q 0)) bit

past : (words : List ℕ) (j : ℕ) → length words ≡ 4 → 256 ≤ j → bit_of words j ≡ false
past words j count h =
    let outside : length words ≤ j / 64 = omega arith in
    ap (λ x. is_one x (j % 64)) (get_or_past words (j / 64) 0 outside) ∙ zero_bit (j % 64)

-- four words by their bits
module _ (w0 w1 w2 w3 : ℕ) (f : ℕ → Bool) (e0 : (s : ℕ) → s < 64 → is_one w0 s ≡ f (64 * 0 + s)) (e1 : (s : ℕ) → s < 64 → is_one w1 s ≡ f (64 * 1 + s))
    (e2 : (s : ℕ) → s < 64 → is_one w2 s ≡ f (64 * 2 + s)) (e3 : (s : ℕ) → s < 64 → is_one w3 s ≡ f (64 * 3 + s)) (none : (j : ℕ) → 256 ≤ j → f j ≡ false) where
  in_word : (q j w : ℕ) → get_or (w0 ∷ w1 ∷ w2 ∷ w3 ∷ []) q 0 ≡ w → ((s : ℕ) → s < 64 → is_one w s ≡ f (64 * q + s)) → 64 * q ≤ j → j < 64 * q + 64
      → bit_of (w0 ∷ w1 ∷ w2 ∷ w3 ∷ []) j ≡ f j
  in_word q j w is e most less =
      let within : j - 64 * q < 64 = omega arith in
      let place : j ≡ 64 * q + (j - 64 * q) = omega arith in
      placed (w0 ∷ w1 ∷ w2 ∷ w3 ∷ []) q (j - 64 * q) j within place ∙ ap (λ x. is_one x (j - 64 * q)) is ∙ e (j - 64 * q) within ∙ ap f (sym place)

  pub four : (j : ℕ) → bit_of (w0 ∷ w1 ∷ w2 ∷ w3 ∷ []) j ≡ f j
  four j = elim (cases_lt j 64) [
    | inl h0 ↦ in_word 0 j w0 refl e0 (omega arith) (omega arith)
    | inr m0 ↦ elim (cases_lt j 128) [
      | inl h1 ↦ in_word 1 j w1 refl e1 (omega arith) (omega arith)
      | inr m1 ↦ elim (cases_lt j 192) [
        | inl h2 ↦ in_word 2 j w2 refl e2 (omega arith) (omega arith)
        | inr m2 ↦ elim (cases_lt j 256) [
          | inl h3 ↦ in_word 3 j w3 refl e3 (omega arith) (omega arith)
          | inr m3 ↦ past (w0 ∷ w1 ∷ w2 ∷ w3 ∷ []) j refl m3 ∙ sym (none j m3)
        ]
      ]
    ]
  ]

-- one word, and zeros behind it
pub one_word : (w : ℕ) (f : ℕ → Bool) → ((s : ℕ) → s < 64 → is_one w s ≡ f s) → ((j : ℕ) → 64 ≤ j → f j ≡ false) → (j : ℕ) → bit_of (w ∷ 0 ∷ 0 ∷ 0 ∷ []) j ≡ f j
one_word w f is none =
    four w 0 0 0 f (λ s h. is s h ∙ ap f (omega arith)) (λ s h. zero_bit s ∙ sym (none (64 * 1 + s) (omega arith))) (λ s h. zero_bit s ∙ sym (none (64 * 2 + s) (omega arith)))
    (λ s h. zero_bit s ∙ sym (none (64 * 3 + s) (omega arith))) (λ j h. none j (omega arith))

-- ---- 64 bits from a place on

pub bits_whole : (words : List ℕ) (at s x : ℕ) → x ≡ get_or words (at / 64) 0 → at % 64 ≡ 0 → s < 64 → is_one (x / 2 ^ (at % 64)) s ≡ bit_of words (at + s)
bits_whole words at s x is whole h =
    let same : s + at % 64 ≡ s = omega arith in
    let place : at + s ≡ 64 * (at / 64) + s = omega arith in
    down_bit x (at % 64) s ∙ ap (is_one x) same ∙ ap (λ y. is_one y s) is ∙ sym (placed words (at / 64) s (at + s) h place)

pub bits_part : (words : List ℕ) (at s x y : ℕ) → x < 2 ^ 64 → x ≡ get_or words (at / 64) 0 → y ≡ get_or words (at / 64 + 1) 0 → at % 64 ≢ 0 → s < 64
    → is_one (bit_or (x / 2 ^ (at % 64)) (y * 2 ^ (64 - at % 64) % 2 ^ 64)) s ≡ bit_of words (at + s)
bits_part words at s x y small low high part h = or_bit (x / 2 ^ (at % 64)) (y * 2 ^ (64 - at % 64) % 2 ^ 64) s ∙ ap (λ t. t || is_one (y * 2 ^ (64 - at % 64) % 2 ^ 64) s) (down_bit x (at % 64) s)
    ∙ ap (λ t. is_one x (s + at % 64) || t) (up_bit y (64 - at % 64) s h) ∙ elim (cases_lt (s + at % 64) 64) [
      | inl inside ↦
          let below : s < 64 - at % 64 = omega arith in
          let place : at + s ≡ 64 * (at / 64) + (s + at % 64) = omega arith in
          ap (λ t. is_one x (s + at % 64) || (t && is_one y (s - (64 - at % 64)))) (lt-leb (64 - at % 64) s below) ∙ or_false (is_one x (s + at % 64))
          ∙ ap (λ z. is_one z (s + at % 64)) low ∙ sym (placed words (at / 64) (s + at % 64) (at + s) inside place)
      | inr over ↦
          let most : 64 - at % 64 ≤ s = omega arith in
          let within : s - (64 - at % 64) < 64 = omega arith in
          let place : at + s ≡ 64 * (at / 64 + 1) + (s - (64 - at % 64)) = omega arith in
          ap (λ t. t || (nat_le (64 - at % 64) s && is_one y (s - (64 - at % 64)))) (high_bit x 64 (s + at % 64) small over)
          ∙ ap (λ t. t && is_one y (s - (64 - at % 64))) (le-leb (64 - at % 64) s most)
          ∙ ap (λ z. is_one z (s - (64 - at % 64))) high ∙ sym (placed words (at / 64 + 1) (s - (64 - at % 64)) (at + s) within place)
    ]

-- ---- halves and first bits of words

pub halves_bit : (a b s : ℕ) → s < 64 → is_one (bit_or (a % 2 ^ 32) (b * 2 ^ 32 % 2 ^ 64)) s ≡ (if nat_lt s 32 then is_one a s else is_one b (s - 32))
halves_bit a b s h = or_bit (a % 2 ^ 32) (b * 2 ^ 32 % 2 ^ 64) s ∙ ap (λ t. is_one (a % 2 ^ 32) s || t) (up_bit b 32 s h) ∙ elim (cases_lt s 32) [
  | inl low ↦
      ap (λ t. is_one (a % 2 ^ 32) s || (t && is_one b (s - 32))) (lt-leb 32 s low) ∙ or_false (is_one (a % 2 ^ 32) s) ∙ ap (λ x. nat_eq x 1) (bit_of_low a 32 s low)
      ∙ sym (ap (λ t. if t then is_one a s else is_one b (s - 32)) (lt-ltb s 32 low))
  | inr high ↦
      let small : a % 2 ^ 32 < 2 ^ 32 = omega arith in
      ap (λ t. t || (nat_le 32 s && is_one b (s - 32))) (high_bit (a % 2 ^ 32) 32 s small high) ∙ ap (λ t. t && is_one b (s - 32)) (le-leb 32 s high)
      ∙ sym (ap (λ t. if t then is_one a s else is_one b (s - 32)) (le-ltb s 32 high))
]

pub first_some : (x n s : ℕ) → n < 64 → s < 64 → is_one (x * 2 ^ (64 - n) % 2 ^ 64 / 2 ^ (64 - n)) s ≡ (nat_lt s n && is_one x s)
first_some x n s part h = down_bit (x * 2 ^ (64 - n) % 2 ^ 64) (64 - n) s ∙ elim (cases_lt s n) [
  | inl less ↦
      let within : s + (64 - n) < 64 = omega arith in
      let reaches : 64 - n ≤ s + (64 - n) = omega arith in
      let same : s + (64 - n) - (64 - n) ≡ s = omega arith in
      up_bit x (64 - n) (s + (64 - n)) within ∙ ap (λ t. t && is_one x (s + (64 - n) - (64 - n))) (le-leb (64 - n) (s + (64 - n)) reaches)
      ∙ ap (is_one x) same ∙ sym (ap (λ t. t && is_one x s) (lt-ltb s n less))
  | inr most ↦
      let small : x * 2 ^ (64 - n) % 2 ^ 64 < 2 ^ 64 = omega arith in
      let over : 64 ≤ s + (64 - n) = omega arith in
      high_bit (x * 2 ^ (64 - n) % 2 ^ 64) 64 (s + (64 - n)) small over ∙ sym (ap (λ t. t && is_one x s) (le-ltb s n most))
]

pub first_all : (x n s : ℕ) → 64 ≤ n → s < 64 → is_one x s ≡ (nat_lt s n && is_one x s)
first_all x n s all h = let less : s < n = omega arith in sym (ap (λ t. t && is_one x s) (lt-ltb s n less))

-- ---- fields in turn

half_place : (w s : ℕ) → IsField w → s < 64 → s / (2 * w) * w + s % w < 32
half_place w s (inl e) h = rw e (omega arith)
half_place w s (inr (inl e)) h = rw e (omega arith)
half_place w s (inr (inr (inl e))) h = rw e (omega arith)
half_place w s (inr (inr (inr e))) h = rw e (omega arith)

pub zip_bit : (w from s r pair low high : ℕ) (a b : ℕ → Bool) → IsField w → s < 64 → ((s : ℕ) → s < 32 → is_one low s ≡ a (from + s)) → ((s : ℕ) → s < 32 → is_one high s ≡ b (from + s))
    → ((s : ℕ) → s < 64 → is_one pair s ≡ (if nat_lt s 32 then is_one low s else is_one high (s - 32))) → Comes r pair (in_turn w) → is_one r s ≡ zipped w from a b s
zip_bit w from s r pair low high a b field h is_low is_high is_pair turned = elim (cases_eq (s / w % 2) 0) [
  | inl even ↦
      let p : in_turn w s ≡ s / (2 * w) * w + s % w = omega arith in
      let inside : s / (2 * w) * w + s % w < 32 = half_place w s field h in
      let inside64 : s / (2 * w) * w + s % w < 64 = omega arith in
      turned s h ∙ ap (is_one pair) p ∙ is_pair (s / (2 * w) * w + s % w) inside64
      ∙ ap (λ t. if t then is_one low (s / (2 * w) * w + s % w) else is_one high (s / (2 * w) * w + s % w - 32)) (lt-ltb (s / (2 * w) * w + s % w) 32 inside)
      ∙ is_low (s / (2 * w) * w + s % w) inside
      ∙ sym (ap (λ t. if nat_eq t 0 then a (from + (s / (2 * w) * w + s % w)) else b (from + (s / (2 * w) * w + s % w))) even)
  | inr odd ↦
      let one : s / w % 2 ≡ 1 = omega arith in
      let p : in_turn w s ≡ s / (2 * w) * w + s % w + 32 = omega arith in
      let inside : s / (2 * w) * w + s % w < 32 = half_place w s field h in
      let within : s / (2 * w) * w + s % w + 32 < 64 = omega arith in
      let past32 : 32 ≤ s / (2 * w) * w + s % w + 32 = omega arith in
      let back : s / (2 * w) * w + s % w + 32 - 32 ≡ s / (2 * w) * w + s % w = omega arith in
      turned s h ∙ ap (is_one pair) p ∙ is_pair (s / (2 * w) * w + s % w + 32) within
      ∙ ap (λ t. if t then is_one low (s / (2 * w) * w + s % w + 32) else is_one high (s / (2 * w) * w + s % w + 32 - 32)) (le-ltb (s / (2 * w) * w + s % w + 32) 32 past32)
      ∙ ap (is_one high) back ∙ is_high (s / (2 * w) * w + s % w) inside
      ∙ sym (ap (λ t. if nat_eq t 0 then a (from + (s / (2 * w) * w + s % w)) else b (from + (s / (2 * w) * w + s % w))) one)
]

same_turn : (w i s : ℕ) → IsField w → (64 * i + s) / w % 2 ≡ s / w % 2
same_turn w i s (inl e) = rw e (omega arith)
same_turn w i s (inr (inl e)) = rw e (omega arith)
same_turn w i s (inr (inr (inl e))) = rw e (omega arith)
same_turn w i s (inr (inr (inr e))) = rw e (omega arith)

next_place : (w from i s : ℕ) → IsField w → from + 32 * i + (s / (2 * w) * w + s % w) ≡ from + ((64 * i + s) / (2 * w) * w + (64 * i + s) % w)
next_place w from i s (inl e) = rw e (omega arith)
next_place w from i s (inr (inl e)) = rw e (omega arith)
next_place w from i s (inr (inr (inl e))) = rw e (omega arith)
next_place w from i s (inr (inr (inr e))) = rw e (omega arith)

zip_next : (w from i s : ℕ) (a b : ℕ → Bool) → IsField w → zipped w (from + 32 * i) a b s ≡ zipped w from a b (64 * i + s)
zip_next w from i s a b field =
    ap (λ p. if nat_eq (s / w % 2) 0 then a p else b p) (next_place w from i s field)
    ∙ ap (λ t. if nat_eq t 0 then a (from + ((64 * i + s) / (2 * w) * w + (64 * i + s) % w)) else b (from + ((64 * i + s) / (2 * w) * w + (64 * i + s) % w))) (sym (same_turn w i s field))

same_test : (bits i s : ℕ) → 64 * i < bits → nat_lt s (bits - 64 * i) ≡ nat_lt (64 * i + s) bits
same_test bits i s some = elim (cases_lt (64 * i + s) bits) [
  | inl less ↦ let l : s < bits - 64 * i = omega arith in lt-ltb s (bits - 64 * i) l ∙ sym (lt-ltb (64 * i + s) bits less)
  | inr most ↦ let m : bits - 64 * i ≤ s = omega arith in le-ltb s (bits - 64 * i) m ∙ sym (le-ltb (64 * i + s) bits most)
]

pub zip_part : (w from bits i s r word : ℕ) (a b : ℕ → Bool) → IsField w → 64 * i < bits → s < 64 → (is_one word s ≡ zipped w (from + 32 * i) a b s)
    → (is_one r s ≡ (nat_lt s (bits - 64 * i) && is_one word s)) → is_one r s ≡ (nat_lt (64 * i + s) bits && zipped w from a b (64 * i + s))
zip_part w from bits i s r word a b field some h is_word is =
    is ∙ ap (λ t. t && is_one word s) (same_test bits i s some) ∙ ap (λ t. nat_lt (64 * i + s) bits && t) (is_word ∙ zip_next w from i s a b field)

pub zip_none : (bits i s : ℕ) (t : Bool) → bits ≤ 64 * i → is_one 0 s ≡ (nat_lt (64 * i + s) bits && t)
zip_none bits i s t none = let most : bits ≤ 64 * i + s = omega arith in zero_bit s ∙ sym (ap (λ u. u && t) (le-ltb (64 * i + s) bits most))

pub empty_word : (i s : ℕ) (t : Bool) → 2 ≤ i → is_one 0 s ≡ (nat_lt (64 * i + s) 128 && t)
empty_word i s t h = zip_none 128 i s t (omega arith)

-- 32 bits of the first word from a place on
pub shifted_bit : (words : List ℕ) (from s x : ℕ) → from ≤ 32 → x ≡ get_or words 0 0 → s < 32 → is_one (x / 2 ^ from) s ≡ bit_of words (from + s)
shifted_bit words from s x few is h =
    let inside : s + from < 64 = omega arith in
    let place : from + s ≡ 64 * 0 + (s + from) = omega arith in
    down_bit x from s ∙ ap (λ y. is_one y (s + from)) is ∙ sym (placed words 0 (s + from) (from + s) inside place)

-- so many bits further up
pub moved_up : (bits q s at : ℕ) → bits ≤ 256 → at ≡ 256 + 64 * q → at - bits + s ≡ 256 - bits + (64 * q + s)
moved_up bits q s at few is = omega arith

pub none_past : (bits n j : ℕ) (t : Bool) → bits ≤ n → n ≤ j → (nat_lt j bits && t) ≡ false
none_past bits n j t few h = let most : bits ≤ j = omega arith in ap (λ u. u && t) (le-ltb j bits most)

-- ---- every second field

apart_place : (w skip s : ℕ) → IsField w → s < 32 → apart w s + skip ≡ s / w * (2 * w) + skip + s % w
apart_place w skip s (inl e) h = rw e (omega arith)
apart_place w skip s (inr (inl e)) h = rw e (omega arith)
apart_place w skip s (inr (inr (inl e))) h = rw e (omega arith)
apart_place w skip s (inr (inr (inr e))) h = rw e (omega arith)

second_bit : (w skip s r x : ℕ) → IsField w → s < 32 → Comes r (x / 2 ^ skip) (apart w) → is_one r s ≡ every_second w skip (is_one x) s
second_bit w skip s r x field h comes =
    let inside : s < 64 = omega arith in
    comes s inside ∙ down_bit x skip (apart w s) ∙ ap (is_one x) (apart_place w skip s field h)

pub seconds_bit : (w skip s r x y p q : ℕ) → IsField w → s < 64 → Comes p (x / 2 ^ skip) (apart w) → Comes q (y / 2 ^ skip) (apart w)
    → (is_one r s ≡ (if nat_lt s 32 then is_one p s else is_one q (s - 32))) → is_one r s ≡ (if nat_lt s 32 then every_second w skip (is_one x) s else every_second w skip (is_one y) (s - 32))
seconds_bit w skip s r x y p q field h first second is = is ∙ elim (cases_lt s 32) [
  | inl low ↦
      ap (λ t. if t then is_one p s else is_one q (s - 32)) (lt-ltb s 32 low) ∙ second_bit w skip s p x field low first
      ∙ sym (ap (λ t. if t then every_second w skip (is_one x) s else every_second w skip (is_one y) (s - 32)) (lt-ltb s 32 low))
  | inr high ↦
      let within : s - 32 < 32 = omega arith in
      ap (λ t. if t then is_one p s else is_one q (s - 32)) (le-ltb s 32 high) ∙ second_bit w skip (s - 32) q y field within second
      ∙ sym (ap (λ t. if t then every_second w skip (is_one x) s else every_second w skip (is_one y) (s - 32)) (le-ltb s 32 high))
]

second_within : (w skip s : ℕ) → IsField w → skip ≤ w → s < 32 → s / w * (2 * w) + skip + s % w < 64
second_within w skip s (inl e) le h = rw e (let m : skip ≤ 1 = omega arith in omega arith)
second_within w skip s (inr (inl e)) le h = rw e (let m : skip ≤ 2 = omega arith in omega arith)
second_within w skip s (inr (inr (inl e))) le h = rw e (let m : skip ≤ 4 = omega arith in omega arith)
second_within w skip s (inr (inr (inr e))) le h = rw e (let m : skip ≤ 8 = omega arith in omega arith)

low_second : (w skip i s : ℕ) → IsField w → (64 * i + s) / w * (2 * w) + skip + (64 * i + s) % w ≡ 64 * (2 * i) + (s / w * (2 * w) + skip + s % w)
low_second w skip i s (inl e) = rw e (omega arith)
low_second w skip i s (inr (inl e)) = rw e (omega arith)
low_second w skip i s (inr (inr (inl e))) = rw e (omega arith)
low_second w skip i s (inr (inr (inr e))) = rw e (omega arith)

high_second : (w skip i s : ℕ) → IsField w → 32 ≤ s → (64 * i + s) / w * (2 * w) + skip + (64 * i + s) % w ≡ 64 * (2 * i + 1) + ((s - 32) / w * (2 * w) + skip + (s - 32) % w)
high_second w skip i s (inl e) h = rw e (omega arith)
high_second w skip i s (inr (inl e)) h = rw e (omega arith)
high_second w skip i s (inr (inr (inl e))) h = rw e (omega arith)
high_second w skip i s (inr (inr (inr e))) h = rw e (omega arith)

pub seconds_word : (w skip i s r x y : ℕ) (a : List ℕ) → IsField w → skip ≤ w → i < 2 → s < 64 → x ≡ get_or a (2 * i) 0 → y ≡ get_or a (2 * i + 1) 0
    → (is_one r s ≡ (if nat_lt s 32 then every_second w skip (is_one x) s else every_second w skip (is_one y) (s - 32))) → is_one r s ≡ (nat_lt (64 * i + s) 128 && every_second w skip (bit_of a) (64 * i + s))
seconds_word w skip i s r x y a field le few h is_x is_y is =
    let inside : 64 * i + s < 128 = omega arith in
    is ∙ elim (cases_lt s 32) [
      | inl low ↦
          ap (λ t. if t then every_second w skip (is_one x) s else every_second w skip (is_one y) (s - 32)) (lt-ltb s 32 low)
          ∙ ap (λ z. is_one z (s / w * (2 * w) + skip + s % w)) is_x
          ∙ sym (placed a (2 * i) (s / w * (2 * w) + skip + s % w) ((64 * i + s) / w * (2 * w) + skip + (64 * i + s) % w) (second_within w skip s field le low) (low_second w skip i s field))
      | inr high ↦
          let within : s - 32 < 32 = omega arith in
          ap (λ t. if t then every_second w skip (is_one x) s else every_second w skip (is_one y) (s - 32)) (le-ltb s 32 high)
          ∙ ap (λ z. is_one z ((s - 32) / w * (2 * w) + skip + (s - 32) % w)) is_y
          ∙ sym (placed a (2 * i + 1) ((s - 32) / w * (2 * w) + skip + (s - 32) % w) ((64 * i + s) / w * (2 * w) + skip + (64 * i + s) % w) (second_within w skip (s - 32) field le within) (high_second w skip i s field high))
    ]
    ∙ sym (ap (λ t. t && every_second w skip (bit_of a) (64 * i + s)) (lt-ltb (64 * i + s) 128 inside))

-- ---- one behind the other

up_word : (b : List ℕ) (t : ℕ) → ((j : ℕ) → 128 ≤ j → bit_of b j ≡ false) → bit_of (0 ∷ 0 ∷ get_or b 0 0 ∷ get_or b 1 0 ∷ []) (128 + t) ≡ bit_of b t
up_word b t few = elim (cases_lt t 64) [
  | inl h0 ↦ placed (0 ∷ 0 ∷ get_or b 0 0 ∷ get_or b 1 0 ∷ []) 2 t (128 + t) h0 (omega arith) ∙ sym (placed b 0 t t h0 (omega arith))
  | inr m0 ↦ elim (cases_lt t 128) [
    | inl h1 ↦
        let within : t - 64 < 64 = omega arith in
        placed (0 ∷ 0 ∷ get_or b 0 0 ∷ get_or b 1 0 ∷ []) 3 (t - 64) (128 + t) within (omega arith) ∙ sym (placed b 1 (t - 64) t within (omega arith))
    | inr m1 ↦ past (0 ∷ 0 ∷ get_or b 0 0 ∷ get_or b 1 0 ∷ []) (128 + t) refl (omega arith) ∙ sym (few t m1)
  ]
]

below_up : (b0 b1 j : ℕ) → j < 128 → bit_of (0 ∷ 0 ∷ b0 ∷ b1 ∷ []) j ≡ false
below_up b0 b1 j h = elim (cases_lt j 64) [
  | inl h0 ↦ placed (0 ∷ 0 ∷ b0 ∷ b1 ∷ []) 0 j j h0 (omega arith) ∙ zero_bit j
  | inr m0 ↦ let within : j - 64 < 64 = omega arith in placed (0 ∷ 0 ∷ b0 ∷ b1 ∷ []) 1 (j - 64) j within (omega arith) ∙ zero_bit (j - 64)
]

pub join_bit : (at q s x up from : ℕ) (a b : List ℕ) → at ≤ 128 → q < 4 → s < 64 → x ≡ get_or a q 0 → from ≡ 128 + 64 * q - at
    → ((j : ℕ) → at ≤ j → bit_of a j ≡ false) → ((j : ℕ) → 128 ≤ j → bit_of b j ≡ false) → (is_one up s ≡ bit_of (0 ∷ 0 ∷ get_or b 0 0 ∷ get_or b 1 0 ∷ []) (from + s))
    → is_one (bit_or x up) s ≡ joined at (bit_of a) (bit_of b) (64 * q + s)
join_bit at q s x up from a b within few h is_x is_from above above_b is_up =
    or_bit x up s ∙ ap (λ t. is_one x s || t) is_up
    ∙ ap (λ t. t || bit_of (0 ∷ 0 ∷ get_or b 0 0 ∷ get_or b 1 0 ∷ []) (from + s)) (ap (λ z. is_one z s) is_x ∙ sym (placed a q s (64 * q + s) h refl))
    ∙ elim (cases_lt (64 * q + s) at) [
      | inl less ↦
          let low : from + s < 128 = omega arith in
          ap (λ t. bit_of a (64 * q + s) || t) (below_up (get_or b 0 0) (get_or b 1 0) (from + s) low) ∙ or_false (bit_of a (64 * q + s))
          ∙ sym (ap (λ t. if t then bit_of a (64 * q + s) else bit_of b (64 * q + s - at)) (lt-ltb (64 * q + s) at less))
      | inr most ↦
          let place : from + s ≡ 128 + (64 * q + s - at) = omega arith in
          ap (λ t. t || bit_of (0 ∷ 0 ∷ get_or b 0 0 ∷ get_or b 1 0 ∷ []) (from + s)) (above (64 * q + s) most)
          ∙ ap (bit_of (0 ∷ 0 ∷ get_or b 0 0 ∷ get_or b 1 0 ∷ [])) place ∙ up_word b (64 * q + s - at) above_b
          ∙ sym (ap (λ t. if t then bit_of a (64 * q + s) else bit_of b (64 * q + s - at)) (le-ltb (64 * q + s) at most))
    ]

pub join_past : (at j : ℕ) (a b : ℕ → Bool) → at ≤ 128 → 256 ≤ j → ((j : ℕ) → 128 ≤ j → b j ≡ false) → joined at a b j ≡ false
join_past at j a b within h few =
    let most : at ≤ j = omega arith in
    ap (λ t. if t then a j else b (j - at)) (le-ltb j at most) ∙ few (j - at) (omega arith)

second_past : (w skip bits j : ℕ) → IsField w → bits % 16 ≡ 0 → bits / 2 ≤ j → bits ≤ j / w * (2 * w) + skip + j % w
second_past w skip bits j (inl e) whole h = rw e (omega arith)
second_past w skip bits j (inr (inl e)) whole h = rw e (omega arith)
second_past w skip bits j (inr (inr (inl e))) whole h = rw e (omega arith)
second_past w skip bits j (inr (inr (inr e))) whole h = rw e (omega arith)

-- no field from half of the bits on
pub seconds_end : (w skip bits j : ℕ) (a : ℕ → Bool) → IsField w → bits % 16 ≡ 0 → ((j : ℕ) → bits ≤ j → a j ≡ false) → bits / 2 ≤ j → every_second w skip a j ≡ false
seconds_end w skip bits j a field whole above h = above (j / w * (2 * w) + skip + j % w) (second_past w skip bits j field whole h)

both_false : (t u : Bool) → u ≡ false → (t && u) ≡ false
both_false true u e = e
both_false false u e = refl

pub halves_end : (w skip bits j : ℕ) (f a : ℕ → Bool) → IsField w → bits % 16 ≡ 0 → ((j : ℕ) → bits ≤ j → a j ≡ false) → ((j : ℕ) → f j ≡ (nat_lt j 128 && every_second w skip a j)) → bits / 2 ≤ j → f j ≡ false
halves_end w skip bits j f a field whole above is h = is j ∙ both_false (nat_lt j 128) (every_second w skip a j) (seconds_end w skip bits j a field whole above h)

pub uzp_bit : (w skip bits j : ℕ) (r f g a b : ℕ → Bool) → bits ≤ 256 → j < bits → bits % 16 ≡ 0 → ((j : ℕ) → f j ≡ (nat_lt j 128 && every_second w skip a j)) → ((j : ℕ) → g j ≡ (nat_lt j 128 && every_second w skip b j))
    → r j ≡ joined (bits / 2) f g j → r j ≡ joined (bits / 2) (every_second w skip a) (every_second w skip b) j
uzp_bit w skip bits j r f g a b few h whole is_f is_g is = is ∙ elim (cases_lt j (bits / 2)) [
  | inl less ↦
      let low : j < 128 = omega arith in
      ap (λ t. if t then f j else g (j - bits / 2)) (lt-ltb j (bits / 2) less) ∙ is_f j ∙ ap (λ t. t && every_second w skip a j) (lt-ltb j 128 low)
      ∙ sym (ap (λ t. if t then every_second w skip a j else every_second w skip b (j - bits / 2)) (lt-ltb j (bits / 2) less))
  | inr most ↦
      let low : j - bits / 2 < 128 = omega arith in
      ap (λ t. if t then f j else g (j - bits / 2)) (le-ltb j (bits / 2) most) ∙ is_g (j - bits / 2) ∙ ap (λ t. t && every_second w skip b (j - bits / 2)) (lt-ltb (j - bits / 2) 128 low)
      ∙ sym (ap (λ t. if t then every_second w skip a j else every_second w skip b (j - bits / 2)) (le-ltb j (bits / 2) most))
]

pub uzp_above : (w skip bits j : ℕ) (r f g b : ℕ → Bool) → IsField w → bits % 16 ≡ 0 → bits ≤ j → ((j : ℕ) → bits ≤ j → b j ≡ false) → ((j : ℕ) → g j ≡ (nat_lt j 128 && every_second w skip b j))
    → r j ≡ joined (bits / 2) f g j → r j ≡ false
uzp_above w skip bits j r f g b field whole h above is_g is =
    let most : bits / 2 ≤ j = omega arith in
    let half : bits / 2 ≤ j - bits / 2 = omega arith in
    is ∙ ap (λ t. if t then f j else g (j - bits / 2)) (le-ltb j (bits / 2) most) ∙ halves_end w skip bits (j - bits / 2) g b field whole above is_g half

-- the same of two words that have all bits
word_seconds : (w skip bits s r x : ℕ) (a : List ℕ) → IsField w → skip ≤ w → bits ≤ 64 → bits % 16 ≡ 0 → s < 64 → x ≡ get_or a 0 0 → ((j : ℕ) → bits ≤ j → bit_of a j ≡ false)
    → (is_one r s ≡ (if nat_lt s 32 then every_second w skip (is_one x) s else every_second w skip (is_one 0) (s - 32))) → is_one r s ≡ every_second w skip (bit_of a) s
word_seconds w skip bits s r x a field le few whole h is_x above is = is ∙ elim (cases_lt s 32) [
  | inl low ↦
      ap (λ t. if t then every_second w skip (is_one x) s else every_second w skip (is_one 0) (s - 32)) (lt-ltb s 32 low)
      ∙ ap (λ z. is_one z (s / w * (2 * w) + skip + s % w)) is_x
      ∙ sym (placed a 0 (s / w * (2 * w) + skip + s % w) (s / w * (2 * w) + skip + s % w) (second_within w skip s field le low) (omega arith))
  | inr high ↦
      let most : bits / 2 ≤ s = omega arith in
      ap (λ t. if t then every_second w skip (is_one x) s else every_second w skip (is_one 0) (s - 32)) (le-ltb s 32 high)
      ∙ zero_bit ((s - 32) / w * (2 * w) + skip + (s - 32) % w) ∙ sym (seconds_end w skip bits s (bit_of a) field whole above most)
]

pub uzp_word_bit : (w skip bits s f g x y : ℕ) (a b : List ℕ) → IsField w → skip ≤ w → bits ≤ 64 → bits % 16 ≡ 0 → s < 64 → x ≡ get_or a 0 0 → y ≡ get_or b 0 0
    → ((j : ℕ) → bits ≤ j → bit_of a j ≡ false) → ((j : ℕ) → bits ≤ j → bit_of b j ≡ false)
    → ((s : ℕ) → s < 64 → is_one f s ≡ (if nat_lt s 32 then every_second w skip (is_one x) s else every_second w skip (is_one 0) (s - 32)))
    → ((s : ℕ) → s < 64 → is_one g s ≡ (if nat_lt s 32 then every_second w skip (is_one y) s else every_second w skip (is_one 0) (s - 32)))
    → is_one (bit_or f (g * 2 ^ (bits / 2) % 2 ^ 64)) s ≡ joined (bits / 2) (every_second w skip (bit_of a)) (every_second w skip (bit_of b)) s
uzp_word_bit w skip bits s f g x y a b field le few whole h is_x is_y above_a above_b is_f is_g =
    or_bit f (g * 2 ^ (bits / 2) % 2 ^ 64) s
    ∙ ap (λ t. is_one f s || t) (up_bit g (bits / 2) s h)
    ∙ ap (λ t. t || (nat_le (bits / 2) s && is_one g (s - bits / 2))) (word_seconds w skip bits s f x a field le few whole h is_x above_a (is_f s h))
    ∙ elim (cases_lt s (bits / 2)) [
      | inl less ↦
          ap (λ t. every_second w skip (bit_of a) s || (t && is_one g (s - bits / 2))) (lt-leb (bits / 2) s less) ∙ or_false (every_second w skip (bit_of a) s)
          ∙ sym (ap (λ t. if t then every_second w skip (bit_of a) s else every_second w skip (bit_of b) (s - bits / 2)) (lt-ltb s (bits / 2) less))
      | inr most ↦
          let within : s - bits / 2 < 64 = omega arith in
          ap (λ t. t || (nat_le (bits / 2) s && is_one g (s - bits / 2))) (seconds_end w skip bits s (bit_of a) field whole above_a most)
          ∙ ap (λ t. t && is_one g (s - bits / 2)) (le-leb (bits / 2) s most)
          ∙ word_seconds w skip bits (s - bits / 2) g y b field le few whole within is_y above_b (is_g (s - bits / 2) within)
          ∙ sym (ap (λ t. if t then every_second w skip (bit_of a) s else every_second w skip (bit_of b) (s - bits / 2)) (le-ltb s (bits / 2) most))
    ]

pub uzp_end : (w skip bits j : ℕ) (a b : ℕ → Bool) → IsField w → bits % 16 ≡ 0 → ((j : ℕ) → bits ≤ j → b j ≡ false) → bits ≤ j → joined (bits / 2) (every_second w skip a) (every_second w skip b) j ≡ false
uzp_end w skip bits j a b field whole above h =
    let most : bits / 2 ≤ j = omega arith in
    let half : bits / 2 ≤ j - bits / 2 = omega arith in
    ap (λ t. if t then every_second w skip a j else every_second w skip b (j - bits / 2)) (le-ltb j (bits / 2) most) ∙ seconds_end w skip bits (j - bits / 2) b field whole above half

-- ---- transposed fields

-- an odd field is behind an even one
turns : (w s : ℕ) → IsField w → s < 64 → (nat_le w s && nat_eq ((s - w) / w % 2) 0) ≡ not (nat_eq (s / w % 2) 0)
turns w s (inl e) h = rw e (agree_below_at (λ s. nat_le 1 s && nat_eq ((s - 1) / 1 % 2) 0) (λ s. not (nat_eq (s / 1 % 2) 0)) 64 s refl h)
turns w s (inr (inl e)) h = rw e (agree_below_at (λ s. nat_le 2 s && nat_eq ((s - 2) / 2 % 2) 0) (λ s. not (nat_eq (s / 2 % 2) 0)) 64 s refl h)
turns w s (inr (inr (inl e))) h = rw e (agree_below_at (λ s. nat_le 4 s && nat_eq ((s - 4) / 4 % 2) 0) (λ s. not (nat_eq (s / 4 % 2) 0)) 64 s refl h)
turns w s (inr (inr (inr e))) h = rw e (agree_below_at (λ s. nat_le 8 s && nat_eq ((s - 8) / 8 % 2) 0) (λ s. not (nat_eq (s / 8 % 2) 0)) 64 s refl h)

picked_turn : (x y z t u : Bool) → (y && z) ≡ not x → ((x && t) || (y && (z && u))) ≡ (if x then t else u)
picked_turn true true true t u e = absurd (true≢false e)
picked_turn true true false t u e = or_false t
picked_turn true false z t u e = or_false t
picked_turn false true true t u e = refl
picked_turn false true false t u e = absurd (false≢true e)
picked_turn false false z t u e = absurd (false≢true e)

pub trn_bit : (w skip s even a b : ℕ) → IsField w → s < 64 → ((s : ℕ) → s < 64 → is_one even s ≡ nat_eq (s / w % 2) 0)
    → is_one (bit_or (bit_and even (a / 2 ^ skip)) (bit_and even (b / 2 ^ skip) * 2 ^ w % 2 ^ 64)) s ≡ transposed w skip (is_one a) (is_one b) s
trn_bit w skip s even a b field h is_even =
    let back : s - w < 64 = omega arith in
    or_bit (bit_and even (a / 2 ^ skip)) (bit_and even (b / 2 ^ skip) * 2 ^ w % 2 ^ 64) s
    ∙ ap (λ t. t || is_one (bit_and even (b / 2 ^ skip) * 2 ^ w % 2 ^ 64) s) (and_bit even (a / 2 ^ skip) s ∙ ap (λ t. t && is_one (a / 2 ^ skip) s) (is_even s h) ∙ ap (λ t. nat_eq (s / w % 2) 0 && t) (down_bit a skip s))
    ∙ ap (λ t. (nat_eq (s / w % 2) 0 && is_one a (s + skip)) || t) (up_bit (bit_and even (b / 2 ^ skip)) w s h
    ∙ ap (λ t. nat_le w s && t) (and_bit even (b / 2 ^ skip) (s - w) ∙ ap (λ t. t && is_one (b / 2 ^ skip) (s - w)) (is_even (s - w) back) ∙ ap (λ t. nat_eq ((s - w) / w % 2) 0 && t) (down_bit b skip (s - w))))
    ∙ picked_turn (nat_eq (s / w % 2) 0) (nat_le w s) (nat_eq ((s - w) / w % 2) 0) (is_one a (s + skip)) (is_one b (s - w + skip)) (turns w s field h)

even_within : (w skip s : ℕ) → IsField w → skip ≤ w → s < 64 → s / w % 2 ≡ 0 → s + skip < 64
even_within w skip s (inl e) le h even = let l : skip ≤ 1 = (rw e at le) in let v : s / 1 % 2 ≡ 0 = (rw e at even) in omega arith
even_within w skip s (inr (inl e)) le h even = let l : skip ≤ 2 = (rw e at le) in let v : s / 2 % 2 ≡ 0 = (rw e at even) in omega arith
even_within w skip s (inr (inr (inl e))) le h even = let l : skip ≤ 4 = (rw e at le) in let v : s / 4 % 2 ≡ 0 = (rw e at even) in omega arith
even_within w skip s (inr (inr (inr e))) le h even = let l : skip ≤ 8 = (rw e at le) in let v : s / 8 % 2 ≡ 0 = (rw e at even) in omega arith

-- an odd field begins behind one that lies wholly behind a multiple of 16 bits
odd_behind : (w bits j : ℕ) → IsField w → bits % 16 ≡ 0 → bits ≤ j → j / w % 2 ≡ 1 → bits + w ≤ j
odd_behind w bits j (inl e) whole h odd = let v : j / 1 % 2 ≡ 1 = (rw e at odd) in rw e (omega arith)
odd_behind w bits j (inr (inl e)) whole h odd = let v : j / 2 % 2 ≡ 1 = (rw e at odd) in rw e (omega arith)
odd_behind w bits j (inr (inr (inl e))) whole h odd = let v : j / 4 % 2 ≡ 1 = (rw e at odd) in rw e (omega arith)
odd_behind w bits j (inr (inr (inr e))) whole h odd = let v : j / 8 % 2 ≡ 1 = (rw e at odd) in rw e (omega arith)

pub trn_word : (w skip q s r x y : ℕ) (a b : List ℕ) → IsField w → skip ≤ w → s < 64 → x ≡ get_or a q 0 → y ≡ get_or b q 0 → (is_one r s ≡ transposed w skip (is_one x) (is_one y) s)
    → is_one r s ≡ transposed w skip (bit_of a) (bit_of b) (64 * q + s)
trn_word w skip q s r x y a b field le h is_x is_y is = is ∙ elim (cases_eq (s / w % 2) 0) [
  | inl even ↦
      let there : (64 * q + s) / w % 2 ≡ 0 = same_turn w q s field ∙ even in
      let within : s + skip < 64 = even_within w skip s field le h even in
      let place : 64 * q + s + skip ≡ 64 * q + (s + skip) = omega arith in
      ap (λ t. if nat_eq t 0 then is_one x (s + skip) else is_one y (s - w + skip)) even ∙ ap (λ z. is_one z (s + skip)) is_x ∙ sym (placed a q (s + skip) (64 * q + s + skip) within place)
      ∙ sym (ap (λ t. if nat_eq t 0 then bit_of a (64 * q + s + skip) else bit_of b (64 * q + s - w + skip)) there)
  | inr odd ↦
      let one : s / w % 2 ≡ 1 = omega arith in
      let there : (64 * q + s) / w % 2 ≡ 1 = same_turn w q s field ∙ one in
      let none : 0 % 16 ≡ 0 = refl in
      let some : 0 ≤ s = omega arith in
      let behind : 0 + w ≤ s = odd_behind w 0 s field none some one in
      let within : s - w + skip < 64 = omega arith in
      let place : 64 * q + s - w + skip ≡ 64 * q + (s - w + skip) = omega arith in
      ap (λ t. if nat_eq t 0 then is_one x (s + skip) else is_one y (s - w + skip)) one ∙ ap (λ z. is_one z (s - w + skip)) is_y ∙ sym (placed b q (s - w + skip) (64 * q + s - w + skip) within place)
      ∙ sym (ap (λ t. if nat_eq t 0 then bit_of a (64 * q + s + skip) else bit_of b (64 * q + s - w + skip)) there)
]

-- no bit behind those of both
pub trn_end : (w skip bits j : ℕ) (a b : ℕ → Bool) → IsField w → bits % 16 ≡ 0 → ((j : ℕ) → bits ≤ j → a j ≡ false) → ((j : ℕ) → bits ≤ j → b j ≡ false) → bits ≤ j → transposed w skip a b j ≡ false
trn_end w skip bits j a b field whole above_a above_b h = elim (cases_eq (j / w % 2) 0) [
  | inl even ↦
      let most : bits ≤ j + skip = omega arith in
      ap (λ t. if nat_eq t 0 then a (j + skip) else b (j - w + skip)) even ∙ above_a (j + skip) most
  | inr odd ↦
      let one : j / w % 2 ≡ 1 = omega arith in
      let behind : bits + w ≤ j = odd_behind w bits j field whole h one in
      let most : bits ≤ j - w + skip = omega arith in
      ap (λ t. if nat_eq t 0 then a (j + skip) else b (j - w + skip)) one ∙ above_b (j - w + skip) most
]

pub trn_past : (w skip j : ℕ) (a b : List ℕ) → IsField w → length a ≡ 4 → length b ≡ 4 → 256 ≤ j → transposed w skip (bit_of a) (bit_of b) j ≡ false
trn_past w skip j a b field count_a count_b h = trn_end w skip 256 j (bit_of a) (bit_of b) field refl (λ j q. past a j count_a q) (λ j q. past b j count_b q) h

-- ---- fields in reverse order

turned_within : (w s : ℕ) → IsField w → s < 64 → backwards w s < 64
turned_within w s (inl e) h = rw e (omega arith)
turned_within w s (inr (inl e)) h = rw e (omega arith)
turned_within w s (inr (inr (inl e))) h = rw e (omega arith)
turned_within w s (inr (inr (inr e))) h = rw e (omega arith)

turned_place : (w q s : ℕ) → IsField w → q < 4 → s < 64 → (256 / w - 1 - (64 * q + s) / w) * w + (64 * q + s) % w ≡ 64 * (3 - q) + backwards w s
turned_place w q s (inl e) few h = rw e (omega arith)
turned_place w q s (inr (inl e)) few h = rw e (omega arith)
turned_place w q s (inr (inr (inl e))) few h = rw e (omega arith)
turned_place w q s (inr (inr (inr e))) few h = rw e (omega arith)

pub turned_word : (w q s r x : ℕ) (a : List ℕ) → IsField w → q < 4 → s < 64 → x ≡ get_or a (3 - q) 0 → Comes r x (backwards w) → is_one r s ≡ (nat_lt (64 * q + s) 256 && reversed w 256 (bit_of a) (64 * q + s))
turned_word w q s r x a field few h is comes =
    let inside : 64 * q + s < 256 = omega arith in
    comes s h ∙ ap (λ z. is_one z (backwards w s)) is
    ∙ sym (placed a (3 - q) (backwards w s) ((256 / w - 1 - (64 * q + s) / w) * w + (64 * q + s) % w) (turned_within w s field h) (turned_place w q s field few h))
    ∙ sym (ap (λ t. t && reversed w 256 (bit_of a) (64 * q + s)) (lt-ltb (64 * q + s) 256 inside))

rev_place : (w bits j : ℕ) → IsField w → bits ≤ 256 → bits % 16 ≡ 0 → j < bits → (256 / w - 1 - (256 - bits + j) / w) * w + (256 - bits + j) % w ≡ (bits / w - 1 - j / w) * w + j % w
rev_place w bits j (inl e) few whole h = rw e (omega arith)
rev_place w bits j (inr (inl e)) few whole h = rw e (omega arith)
rev_place w bits j (inr (inr (inl e))) few whole h = rw e (omega arith)
rev_place w bits j (inr (inr (inr e))) few whole h = rw e (omega arith)

pub rev_bit : (w bits j : ℕ) (r t a : ℕ → Bool) → IsField w → bits ≤ 256 → bits % 16 ≡ 0 → j < bits → ((j : ℕ) → t j ≡ (nat_lt j 256 && reversed w 256 a j)) → r j ≡ t (256 - bits + j) → r j ≡ reversed w bits a j
rev_bit w bits j r t a field few whole h is_t is =
    let inside : 256 - bits + j < 256 = omega arith in
    is ∙ is_t (256 - bits + j) ∙ ap (λ u. u && reversed w 256 a (256 - bits + j)) (lt-ltb (256 - bits + j) 256 inside) ∙ ap a (rev_place w bits j field few whole h)

pub rev_above : (w bits j : ℕ) (r t a : ℕ → Bool) → bits ≤ 256 → bits ≤ j → ((j : ℕ) → t j ≡ (nat_lt j 256 && reversed w 256 a j)) → r j ≡ t (256 - bits + j) → r j ≡ false
rev_above w bits j r t a few h is_t is =
    let over : 256 ≤ 256 - bits + j = omega arith in
    is ∙ is_t (256 - bits + j) ∙ ap (λ u. u && reversed w 256 a (256 - bits + j)) (le-ltb (256 - bits + j) 256 over)

pub rev_past : (w bits j : ℕ) (t a : ℕ → Bool) → bits ≤ 256 → 256 ≤ j → ((j : ℕ) → t j ≡ (nat_lt j 256 && reversed w 256 a j)) → t (256 - bits + j) ≡ false
rev_past w bits j t a few h is_t =
    let over : 256 ≤ 256 - bits + j = omega arith in
    is_t (256 - bits + j) ∙ ap (λ u. u && reversed w 256 a (256 - bits + j)) (le-ltb (256 - bits + j) 256 over)

-- ---- masks

alike : (word w : ℕ) → agree_below (λ s. nat_eq (s / w % 2) 0) (is_one word) 64 ≡ true → (s : ℕ) → s < 64 → is_one word s ≡ nat_eq (s / w % 2) 0
alike word w e s h = sym (agree_below_at (λ s. nat_eq (s / w % 2) 0) (is_one word) 64 s e h)

pub even8 : (s : ℕ) → s < 64 → is_one 71777214294589695 s ≡ nat_eq (s / 8 % 2) 0
even8 = alike 71777214294589695 8 refl

pub even4 : (s : ℕ) → s < 64 → is_one 1085102592571150095 s ≡ nat_eq (s / 4 % 2) 0
even4 = alike 1085102592571150095 4 refl

pub even2 : (s : ℕ) → s < 64 → is_one 3689348814741910323 s ≡ nat_eq (s / 2 % 2) 0
even2 = alike 3689348814741910323 2 refl

pub even1 : (s : ℕ) → s < 64 → is_one 6148914691236517205 s ≡ nat_eq (s / 1 % 2) 0
even1 = alike 6148914691236517205 1 refl
