-- The bits of a predicate, by the answers of lanes.
use Rattle.std.proofs.Common.{◌≡◌, ◌<◌, ◌≤◌, ◌+◌, ◌-◌, ◌*◌, ◌/◌, ◌%◌, ◌^◌, ℕ, zero, suc, Bool, true, false, not, ◌&&◌, cond, nat_eq, nat_lt, if◌then◌else◌, List, [], ◌∷◌, length, map, get_or, set, inl, inr, refl, sym, ap, ap₂, subst, ◌∙◌, arith}
use Rattle.std.specs.Int.{bit_at}
use Rattle.std.specs.Simd.Lanes.{digits_l, number_l, mask_l, zip2}
use mir.Val.{bool_byte}
use Rattle.std.proofs.Math.Nat.{div-eq_of_lt, mod-mod}
use Rattle.std.proofs.lemmas.Bool.{cases_lt, cases_eq, lt-ltb, le-ltb}
use Rattle.std.proofs.lemmas.Bool.Decides.{nat_tests}
use Rattle.std.proofs.lemmas.List.{get_or-map, length-map, map-set, get_or_past, get_or-set_same, get_or-set_other}
use Rattle.std.proofs.lemmas.Nat.{pow_below, shr-shr}
use Rattle.std.proofs.lemmas.Nat.Bits.{bit_at-zero, bit_at_cat_low, bit_at_cat_high}
use Rattle.std.proofs.lemmas.Simd.{bit_mask_l, get_or_narrower}
use Rattle.emu_bits.specs.Fields.{bit}
use Rattle.emu_model.specs.SoundState.{IsVectorLength}
use Rattle.emu_model.specs.Lists.{each}
use Rattle.emu_model.specs.ListLaws.{get_or-each}
use Rattle.lane_pack.specs.Bits.{is_set}
use Rattle.emu_model.specs.Lanes.{field_bit}
use Rattle.emu_model.specs.LaneSizes.{IsLaneSize}
use Rattle.vec_regs.specs.Packed.{packed}
use Rattle.vec_regs.specs.Words.{bit_of}
use Rattle.vec_regs.proofs.PackedLanes.{byte_in_packed, filled}
use Rattle.vec_regs.proofs.Parts.{same_part}
use Rattle.register_lanes.proofs.PairLanes.{powers, pair_of_lanes}

-- ---- a test of two lanes

pub tested : {A : Type 0} (number : A → ℕ) (f : A → A → Bool) (entry : ℕ → ℕ → Bool) → ((x y : A) → f x y ≡ entry (number x) (number y))
    → (xs ys : List A) (j : ℕ) → j < length xs → j < length ys → get_or (zip2 f xs ys) j false ≡ entry (get_or (map number xs) j 0) (get_or (map number ys) j 0)
tested number f entry law [] ys j p q = absurd (omega arith)
tested number f entry law (x ∷ xs) [] j p q = absurd (omega arith)
tested number f entry law (x ∷ xs) (y ∷ ys) zero p q = law x y
tested number f entry law (x ∷ xs) (y ∷ ys) (suc j) p q = tested number f entry law xs ys j (omega arith) (omega arith)

-- ---- a flag for each lane of 128 bits

flag_byte : (t : Bool) (r : ℕ) → not (nat_eq (bit t / 2 ^ (8 * r) % 256) 0) ≡ (if nat_eq r 0 then t else false)
flag_byte true zero = refl
flag_byte false zero = refl
flag_byte t (suc r) =
    let some : 2 ^ 0 < 2 ^ (8 * suc r) = pow_below 0 (8 * suc r) (omega arith) in
    let small : bit t < 2 ^ (8 * suc r) = one_at_most t (2 ^ (8 * suc r)) some in
    let rest : nat_eq (suc r) 0 ≡ false = grind (arith, nat_tests) in
    ap (λ x. not (nat_eq (x % 256) 0)) (div-eq_of_lt small) ∙ sym (ap (λ b. if b then t else false) rest)
  where
    one_at_most : (t : Bool) (x : ℕ) → 1 < x → bit t < x
    one_at_most true x h = h
    one_at_most false x h = omega arith

-- c lanes of w bytes in a word
module _ (w c : ℕ) (some : 0 < w) (told : ℕ → Bool) (pair : List ℕ) (words : (h : ℕ) → h < 2 → get_or pair h 0 ≡ packed (8 * w) (each c (λ j. bit (told (h * c + j))))) where
  byte_told : (s : ℕ) → s / 8 < 2 → (s % 8) / w < c → s / 8 * c + (s % 8) / w ≡ s / w → (s % 8) % w ≡ s % w → not (nat_eq (get_or pair (s / 8) 0 / 2 ^ (8 * (s % 8)) % 256) 0) ≡ field_bit w told s
  byte_told s half inside at rest =
      ap (λ x. not (nat_eq (x / 2 ^ (8 * (s % 8)) % 256) 0)) (words (s / 8) half)
      ∙ ap (λ x. not (nat_eq x 0)) (byte_in_packed w some (each c (λ j. bit (told (s / 8 * c + j)))) (s % 8))
      ∙ ap₂ (λ x y. not (nat_eq (x / 2 ^ (8 * y) % 256) 0)) (get_or-each c (λ j. bit (told (s / 8 * c + j))) ((s % 8) / w) 0 inside ∙ ap (λ k. bit (told k)) at) rest
      ∙ flag_byte (told (s / w)) (s % w)

by_size : (e : ℕ) (told : ℕ → Bool) (pair : List ℕ) (s : ℕ) → IsLaneSize e → s < 16 → ((h : ℕ) → h < 2 → get_or pair h 0 ≡ packed e (each (64 / e) (λ j. bit (told (h * (64 / e) + j)))))
    → not (nat_eq (get_or pair (s / 8) 0 / 2 ^ (8 * (s % 8)) % 256) 0) ≡ field_bit (e / 8) told s
by_size e told pair s size b =
    let P : ℕ → Type 0 = λ e. ((h : ℕ) → h < 2 → get_or pair h 0 ≡ packed e (each (64 / e) (λ j. bit (told (h * (64 / e) + j))))) → not (nat_eq (get_or pair (s / 8) 0 / 2 ^ (8 * (s % 8)) % 256) 0) ≡ field_bit (e / 8) told s in
    elim size [
      | inl is ↦ subst P (sym is) (λ words. byte_told 1 8 (omega arith) told pair words s (omega arith) (omega arith) (omega arith) (omega arith))
      | inr more ↦ elim more [
        | inl is ↦ subst P (sym is) (λ words. byte_told 2 4 (omega arith) told pair words s (omega arith) (omega arith) (omega arith) (omega arith))
        | inr more ↦ elim more [
          | inl is ↦ subst P (sym is) (λ words. byte_told 4 2 (omega arith) told pair words s (omega arith) (omega arith) (omega arith) (omega arith))
          | inr is ↦ subst P (sym is) (λ words. byte_told 8 1 (omega arith) told pair words s (omega arith) (omega arith) (omega arith) (omega arith))
        ]
      ]
    ]

pub part_bits : (e w : ℕ) (told : ℕ → Bool) (lanes pair : List ℕ) (s : ℕ) → IsLaneSize e → w * e ≡ 128 → length lanes ≡ w → ((j : ℕ) → j < w → get_or lanes j 0 ≡ bit (told j) % 2 ^ e)
    → ((h : ℕ) → h < 2 → get_or pair h 0 ≡ get_or (digits_l (2 ^ 64) 2 (number_l (2 ^ e) lanes)) h 0) → s < 16 → not (nat_eq (get_or pair (s / 8) 0 / 2 ^ (8 * (s % 8)) % 256) 0) ≡ field_bit (e / 8) told s
part_bits e w told lanes pair s size whole count flags is b =
    by_size e told pair s size b (λ h half.
    let z : 2 * 0 + h ≡ h = omega arith in
    is h half
    ∙ pair_of_lanes e w 0 h (λ k. bit (told k)) lanes size whole count (λ j q. flags j q ∙ ap (λ k. bit (told k) % 2 ^ e) (omega arith)) half
    ∙ ap (λ i. packed e (each (64 / e) (λ j. bit (told (i * (64 / e) + j))))) z)

pub both_words : (xs : List ℕ) (h : ℕ) → h < 2 → get_or (get_or xs 0 0 ∷ get_or xs 1 0 ∷ []) h 0 ≡ get_or xs h 0
both_words xs zero b = refl
both_words xs (suc zero) b = refl
both_words xs (suc (suc h)) b = absurd (omega arith)

-- ---- bytes that are not 0

one_flag : (b : Bool) → nat_eq (cond b 1 0) 1 ≡ b
one_flag true = refl
one_flag false = refl

pub flag_number : (b : Bool) → bool_byte b ≡ bit b
flag_number true = refl
flag_number false = refl

pub byte_flags : (mask low high s : ℕ) (bytes : List ℕ) → low < 2 ^ 64 → high < 2 ^ 64 → bytes ≡ digits_l 256 16 (number_l (2 ^ 64) (low ∷ high ∷ [])) → length bytes ≡ 16
    → mask ≡ mask_l (map (λ x. not (nat_eq x 0)) bytes) → s < 16 → is_set mask s ≡ not (nat_eq (get_or (low ∷ high ∷ []) (s / 8) 0 / 2 ^ (8 * (s % 8)) % 256) 0)
byte_flags mask low high s bytes p q is long value h =
    let within : s < length bytes = omega arith in
    let at : 8 * (s / 8) + s % 8 ≡ s = omega arith in
    let inside : 8 * (s / 8) + s % 8 < 16 = omega arith in
    ap (λ x. is_set x s) value ∙ ap (λ y. nat_eq y 1) (bit_mask_l (map (λ x. not (nat_eq x 0)) bytes) s) ∙ one_flag (get_or (map (λ x. not (nat_eq x 0)) bytes) s false)
    ∙ get_or-map (λ x. not (nat_eq x 0)) bytes s 0 false within
    ∙ ap (λ (xs : List ℕ). not (nat_eq (get_or xs s 0) 0)) is
    ∙ ap (λ i. not (nat_eq (get_or (digits_l 256 16 (number_l (2 ^ 64) (low ∷ high ∷ []))) i 0) 0)) (sym at)
    ∙ ap (λ x. not (nat_eq x 0)) (get_or_narrower (2 ^ 64) 8 256 16 (low ∷ high ∷ []) (s / 8) (s % 8) refl (p, (q, tt)) (omega arith) inside ∙ ap (λ x. get_or (low ∷ high ∷ []) (s / 8) 0 / x % 256) (powers 8 (s % 8)))

-- ---- one lane more

pub written : {A : Type 0} (number : A → ℕ) (xs : List A) (i : ℕ) (x : A) (f : ℕ → ℕ) → i < length xs → number x ≡ f i → ((k : ℕ) → k < i → get_or (map number xs) k 0 ≡ f k)
    → (k : ℕ) → k < i + 1 → get_or (map number (set xs i x)) k 0 ≡ f k
written number xs i x f within is done k h =
    let there : i < length (map number xs) = omega (arith, length-map xs number) in
    ap (λ (ys : List ℕ). get_or ys k 0) (map-set number xs i x) ∙ filled f (map number xs) i (number x) there is done k h

-- ---- the 64-bit lane that covers a lane

pub plain_number : (xs : List ℕ) → map (λ (x : ℕ). x) xs ≡ xs
plain_number [] = refl
plain_number (x ∷ xs) = ap (λ (r : List ℕ). x ∷ r) (plain_number xs)

pub covering : (e w i j : ℕ) → IsLaneSize e → w * e ≡ 128 → j < w → (j * e / 64 < 2) × (i * 2 + j * e / 64 ≡ (i * w + j) * e / 64)
covering e w i j (inl is) whole b = let q : w * 8 ≡ 128 = rw is at whole in let t : w ≡ 16 = omega arith in rw (is, t) (omega arith, omega arith)
covering e w i j (inr (inl is)) whole b = let q : w * 16 ≡ 128 = rw is at whole in let t : w ≡ 8 = omega arith in rw (is, t) (omega arith, omega arith)
covering e w i j (inr (inr (inl is))) whole b = let q : w * 32 ≡ 128 = rw is at whole in let t : w ≡ 4 = omega arith in rw (is, t) (omega arith, omega arith)
covering e w i j (inr (inr (inr is))) whole b = let q : w * 64 ≡ 128 = rw is at whole in let t : w ≡ 2 = omega arith in rw (is, t) (omega arith, omega arith)

-- ---- parts of 16 bits in words

pub small_more : (parts : List ℕ) (i r : ℕ) → i < length parts → r < 2 ^ 16 → ((k : ℕ) → get_or parts k 0 < 2 ^ 16) → (k : ℕ) → get_or (set parts i r) k 0 < 2 ^ 16
small_more parts i r within h small k = elim (cases_eq k i) [
  | inl same ↦ (let P : ℕ → Type 0 = λ k. get_or (set parts i r) k 0 < 2 ^ 16 in subst P (sym same) (subst (λ x. x < 2 ^ 16) (sym (get_or-set_same parts i r 0 within)) h))
  | inr other ↦ subst (λ x. x < 2 ^ 16) (sym (get_or-set_other parts i k r 0 other)) (small k)
]

digit_bit : (n x b : ℕ) → b < 64 * n → bit_of (digits_l (2 ^ 64) n x) b ≡ is_set x b
digit_bit zero x b h = absurd (omega arith)
digit_bit (suc n) x b h = elim (cases_lt b 64) [
  | inl low ↦
      (let q : b / 64 ≡ 0 = omega arith in
      let r : b % 64 ≡ b = omega arith in
      let up : b + 1 ≤ 64 = omega arith in
      ap₂ (λ i s. nat_eq (get_or (digits_l (2 ^ 64) (suc n) x) i 0 / 2 ^ s % 2) 1) q r
      ∙ ap (λ y. nat_eq y 1) (same_part (x % 2 ^ 64) x 64 b 1 (mod-mod x (2 ^ 64)) up))
  | inr high ↦
      (let q : b / 64 ≡ suc ((b - 64) / 64) = omega arith in
      let r : b % 64 ≡ (b - 64) % 64 = omega arith in
      let s : 64 + (b - 64) ≡ b = omega arith in
      let within : b - 64 < 64 * n = omega arith in
      ap₂ (λ i s. nat_eq (get_or (digits_l (2 ^ 64) (suc n) x) i 0 / 2 ^ s % 2) 1) q r
      ∙ digit_bit n (x / 2 ^ 64) (b - 64) within
      ∙ ap (λ y. nat_eq (y % 2) 1) (shr-shr x 64 (b - 64) ∙ ap (λ k. x / 2 ^ k) s))
]

number_bit : (xs : List ℕ) (b : ℕ) → ((k : ℕ) → k < length xs → get_or xs k 0 < 2 ^ 16) → is_set (number_l (2 ^ 16) xs) b ≡ is_set (get_or xs (b / 16) 0) (b % 16)
number_bit [] b small = ap (λ y. nat_eq y 1) (bit_at-zero b ∙ sym (bit_at-zero (b % 16)))
number_bit (x ∷ xs) b small =
    let turned : x + 2 ^ 16 * number_l (2 ^ 16) xs ≡ number_l (2 ^ 16) xs * 2 ^ 16 + x = omega arith in
    let first : x < 2 ^ 16 = small 0 (omega arith) in
    elim (cases_lt b 16) [
      | inl low ↦
          (let q : b / 16 ≡ 0 = omega arith in
          let r : b % 16 ≡ b = omega arith in
          ap (λ y. is_set y b) turned ∙ ap (λ y. nat_eq y 1) (bit_at_cat_low (number_l (2 ^ 16) xs) 16 x b low) ∙ sym (ap₂ (λ i s. is_set (get_or (x ∷ xs) i 0) s) q r))
      | inr high ↦
          (let q : b / 16 ≡ suc ((b - 16) / 16) = omega arith in
          let r : b % 16 ≡ (b - 16) % 16 = omega arith in
          ap (λ y. is_set y b) turned ∙ ap (λ y. nat_eq y 1) (bit_at_cat_high (number_l (2 ^ 16) xs) 16 x b first high)
          ∙ number_bit xs (b - 16) (λ k h. let s : suc k < length (x ∷ xs) = omega arith in small (suc k) s)
          ∙ sym (ap₂ (λ i s. is_set (get_or (x ∷ xs) i 0) s) q r))
    ]

past_words : (words : List ℕ) (b : ℕ) → length words ≡ 4 → 256 ≤ b → bit_of words b ≡ false
past_words words b count h =
    let outside : length words ≤ b / 64 = omega arith in
    ap (λ x. nat_eq (bit_at x (b % 64)) 1) (get_or_past words (b / 64) 0 outside) ∙ ap (λ x. nat_eq x 1) (bit_at-zero (b % 64))

-- ---- one part after the other

-- the place of a bit in its part
placed : (e w i s : ℕ) (f : ℕ → Bool) → IsLaneSize e → w * e ≡ 128 → s < 16 → field_bit (e / 8) (λ j. f (i * w + j)) s ≡ field_bit (e / 8) f (16 * i + s)
placed e w i s f size whole b =
    let P : ℕ → ℕ → Type 0 = λ e w. field_bit (e / 8) (λ j. f (i * w + j)) s ≡ field_bit (e / 8) f (16 * i + s) in
    let by_numbers : (w c : ℕ) → s % c ≡ (16 * i + s) % c → i * w + s / c ≡ (16 * i + s) / c → field_bit c (λ j. f (i * w + j)) s ≡ field_bit c f (16 * i + s) = λ w c r q. ap₂ (λ x k. if nat_eq x 0 then f k else false) r q in
    elim size [
      | inl is ↦ (let q : w * 8 ≡ 128 = rw is at whole in let t : w ≡ 16 = omega arith in subst (λ e. P e w) (sym is) (subst (P 8) (sym t) (by_numbers 16 1 (omega arith) (omega arith))))
      | inr more ↦ elim more [
        | inl is ↦ (let q : w * 16 ≡ 128 = rw is at whole in let t : w ≡ 8 = omega arith in subst (λ e. P e w) (sym is) (subst (P 16) (sym t) (by_numbers 8 2 (omega arith) (omega arith))))
        | inr more ↦ elim more [
          | inl is ↦ (let q : w * 32 ≡ 128 = rw is at whole in let t : w ≡ 4 = omega arith in subst (λ e. P e w) (sym is) (subst (P 32) (sym t) (by_numbers 4 4 (omega arith) (omega arith))))
          | inr is ↦ (let q : w * 64 ≡ 128 = rw is at whole in let t : w ≡ 2 = omega arith in subst (λ e. P e w) (sym is) (subst (P 64) (sym t) (by_numbers 2 8 (omega arith) (omega arith))))
        ]
      ]
    ]

in_part : (e w s : ℕ) → IsLaneSize e → w * e ≡ 128 → s < 16 → s / (e / 8) < w
in_part e w s (inl is) whole b = let q : w * 8 ≡ 128 = rw is at whole in let t : w ≡ 16 = omega arith in rw (is, t) (omega arith)
in_part e w s (inr (inl is)) whole b = let q : w * 16 ≡ 128 = rw is at whole in let t : w ≡ 8 = omega arith in rw (is, t) (omega arith)
in_part e w s (inr (inr (inl is))) whole b = let q : w * 32 ≡ 128 = rw is at whole in let t : w ≡ 4 = omega arith in rw (is, t) (omega arith)
in_part e w s (inr (inr (inr is))) whole b = let q : w * 64 ≡ 128 = rw is at whole in let t : w ≡ 2 = omega arith in rw (is, t) (omega arith)

module _ (e w : ℕ) (f : ℕ → Bool) (size : IsLaneSize e) (whole : w * e ≡ 128) where
  -- part i is told
  pub one_part : (i r : ℕ) (told : ℕ → Bool) → ((j : ℕ) → j < w → told j ≡ f (i * w + j)) → ((s : ℕ) → s < 16 → is_set r s ≡ field_bit (e / 8) told s) → (s : ℕ) → s < 16 → is_set r s ≡ field_bit (e / 8) f (16 * i + s)
  one_part i r told is bits s b =
      bits s b ∙ ap (λ t. if nat_eq (s % (e / 8)) 0 then t else false) (is (s / (e / 8)) (in_part e w s size whole b)) ∙ placed e w i s f size whole b

  pub parts_more : (parts : List ℕ) (i r : ℕ) → i < length parts → ((k s : ℕ) → k < i → s < 16 → is_set (get_or parts k 0) s ≡ field_bit (e / 8) f (16 * k + s))
      → ((s : ℕ) → s < 16 → is_set r s ≡ field_bit (e / 8) f (16 * i + s)) → (k s : ℕ) → k < i + 1 → s < 16 → is_set (get_or (set parts i r) k 0) s ≡ field_bit (e / 8) f (16 * k + s)
  parts_more parts i r within done here k s q b = elim (cases_eq k i) [
    | inl same ↦
        (let P : ℕ → Type 0 = λ k. is_set (get_or (set parts i r) k 0) s ≡ field_bit (e / 8) f (16 * k + s) in
        subst P (sym same) (ap (λ x. is_set x s) (get_or-set_same parts i r 0 within) ∙ here s b))
    | inr other ↦ (let below : k < i = omega arith in ap (λ x. is_set x s) (get_or-set_other parts i k r 0 other) ∙ done k s below b)
  ]

  pub all_parts : (bits : ℕ) (parts words : List ℕ) → IsVectorLength bits → length words ≡ 4 → length parts ≡ 16 → ((k : ℕ) → k < length parts → get_or parts k 0 < 2 ^ 16)
      → words ≡ digits_l (2 ^ 64) 4 (number_l (2 ^ 16) parts)
      → ((k s : ℕ) → k < bits / 128 → s < 16 → is_set (get_or parts k 0) s ≡ field_bit (e / 8) f (16 * k + s)) → ((k : ℕ) → bits / 128 ≤ k → get_or parts k 0 ≡ 0)
      → (b : ℕ) → bit_of words b ≡ (nat_lt b (bits / 8) && field_bit (e / 8) f b)
  all_parts bits parts words l count sixteen small is done rest b =
      let multiple : bits % 128 ≡ 0 = l.multiple in
      elim (cases_lt b 256) [
        | inr past ↦
            (let most : bits ≤ 2048 = l.most in
            let out : bits / 8 ≤ b = omega arith in
            past_words words b count past ∙ sym (ap (λ t. t && field_bit (e / 8) f b) (le-ltb b (bits / 8) out)))
        | inl within ↦
            (let four : b < 64 * 4 = omega arith in
            ap (λ (ws : List ℕ). bit_of ws b) is ∙ digit_bit 4 (number_l (2 ^ 16) parts) b four ∙ number_bit parts b small
            ∙ elim (cases_lt (b / 16) (bits / 128)) [
              | inl h ↦
                  (let place : 16 * (b / 16) + b % 16 ≡ b = omega arith in
                  let low : b % 16 < 16 = omega arith in
                  let inside : b < bits / 8 = omega arith in
                  done (b / 16) (b % 16) h low ∙ ap (field_bit (e / 8) f) place ∙ sym (ap (λ t. t && field_bit (e / 8) f b) (lt-ltb b (bits / 8) inside)))
              | inr h ↦
                  (let outside : bits / 8 ≤ b = omega arith in
                  ap (λ x. is_set x (b % 16)) (rest (b / 16) h) ∙ ap (λ y. nat_eq y 1) (bit_at-zero (b % 16)) ∙ sym (ap (λ t. t && field_bit (e / 8) f b) (le-ltb b (bits / 8) outside)))
            ])
      ]
