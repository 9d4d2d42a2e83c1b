-- What a slot shows of a number tells the number, one equation a kind.
use Rattle.std.proofs.Common.{◌≡◌, ℕ, zero, suc, ◌+◌, ◌-◌, ◌*◌, ◌/◌, ◌%◌, ◌^◌, ◌<◌, ℤ, pos, neg_ℤ, unsigned_abs, ◌==◌, ◌||◌, if◌then◌else◌, Bool, true, nat_lt, refl, sym, ap, ◌∙◌, subst, arith, inl, inr}
use Rattle.std.proofs.lemmas.Bool.{cases_Bool, and_parts, or_cases, eqb-true, false≢true, ltb-true}
use Rattle.std.proofs.Math.Nat.{mul-div_cancel, mul-lt-mul_of_pos_right}
use Rattle.std.proofs.lemmas.Int.{ints}
use Rattle.std.specs.Int.{is_negative}
use Rattle.std.specs.Prelude.{false, Option, Some, None, is_some, unwrap_or}
use Rattle.emu_bits.specs.Bitmask.{bitmask_of}
use Rattle.emu_bits.proofs.AllBelow.{all_below, each_below}
use Rattle.text_model.specs.declared.slots.Kind.{Kind}
use Rattle.text_model.specs.declared.slots.Kind.TheVariants.{Fixed, Plain, Stack, After, NamedCount, UnnamedCount, Scaled, Falling, Signed, Target, Bitmask, Spread, LeftShift, Inverted}
use Rattle.text_model.specs.Masks.{bitmask_at}
use Rattle.text_model.specs.Slots.{shown_number, is_low, inverse, spread}
use Rattle.text_model.specs.Told.{told_of, told_number, gathered}
use Rattle.text_model.specs.Reading.{element_size, is_canonical}
use Rattle.text_model.proofs.MaskLaws.{mask_told}
use Rattle.text_model.proofs.Tests.{is_good_kind}

-- The bits of a target are 0.
abbrev pub is_unaimed : Kind → ℕ → Bool
is_unaimed (Target n g) v = v == 0
is_unaimed k v = true

stack_told : (v : ℕ) → v < 32 → (let y : ℕ = if v == 31 then 32 else v in if y == 32 then 31 else y) ≡ v
stack_told v h = grind arith

after_told : (v k : ℕ) → v < 32 → k < 32 → ((v + k) % 32 + (32 - k)) % 32 ≡ v
after_told v k h l = omega arith

scaled_told : (v n k : ℕ) → 0 < n → n * (v + k) / n - k ≡ v
scaled_told v n k h =
    let e : n * (v + k) ≡ (v + k) * n = grind arith in
    ap (λ (x : ℕ). x / n - k) e ∙ ap (λ (x : ℕ). x - k) (mul-div_cancel (v + k) h) ∙ omega arith

falling_told : (v m : ℕ) → v < m → m - (m - v) ≡ v
falling_told v m h = omega arith

-- ---- signs

pub not_negative : (m : ℕ) → is_negative (pos m) ≡ false
not_negative m = grind (arith, ints)

pub minus_negative : (m : ℕ) → 0 < m → is_negative (neg_ℤ (pos m)) ≡ true
minus_negative zero h = absurd (omega (arith, h))
minus_negative (suc m) h = refl

pub minus_size : (m : ℕ) → unsigned_abs (neg_ℤ (pos m)) ≡ m
minus_size zero = refl
minus_size (suc m) = refl

product_some : (m n : ℕ) → 0 < n → 0 < m → 0 < n * m
product_some m n h k = let p : 0 * m < n * m = mul-lt-mul_of_pos_right h k in omega (arith, p)

signed_told : (v n b : ℕ) → 0 < n → v < 2 ^ b → told_number (Signed n) b (shown_number (Signed n) b v) ≡ v
signed_told v n b h l =
    let f = λ (z : ℤ). told_number (Signed n) b z in
    let g = λ (t : Bool). f (if t then pos (n * v) else neg_ℤ (pos (n * (2 ^ b - v)))) in
    elim (cases_Bool (is_low b v)) [
      | inl e ↦ (let q : n * v ≡ v * n = grind arith in
          ap g e ∙ ap (λ (t : Bool). told_of (Signed n) b t (n * v)) (not_negative (n * v)) ∙ ap (λ (t : ℕ). t / n) q ∙ mul-div_cancel v h)
      | inr e ↦ (let d : ℕ = 2 ^ b - v in
          let q : n * d ≡ d * n = grind arith in
          let s : 0 < n * d = product_some d n h (omega (arith, l)) in
          ap g e ∙ ap (λ (t : Bool). told_of (Signed n) b t (unsigned_abs (neg_ℤ (pos (n * d))))) (minus_negative (n * d) s)
          ∙ ap (λ (t : ℕ). 2 ^ b - t / n) (minus_size (n * d))
          ∙ ap (λ (t : ℕ). 2 ^ b - t / n) q ∙ ap (λ (t : ℕ). 2 ^ b - t) (mul-div_cancel d h) ∙ omega (arith, l))
    ]

inverse_told : (v : ℕ) → v < 16 → inverse (inverse v) ≡ v
inverse_told v h = eqb-true _ _ (each_below 16 (λ x. inverse (inverse x) == x) v refl h)

spread_told : (v : ℕ) → v < 256 → gathered 8 (spread 8 v) ≡ v
spread_told v h = eqb-true _ _ (each_below 256 (λ x. gathered 8 (spread 8 x) == x) v refl h)

-- ---- bitmasks

given : (o : Option ℕ) → is_some o ≡ true → o ≡ Some (unwrap_or o 0)
given None h = absurd (false≢true h)
given (Some x) h = refl

masks_told : (w v : ℕ) → (w == 64 || w == 32) ≡ true → v < 8192 → is_canonical (Bitmask w) v ≡ true → told_number (Bitmask w) 13 (shown_number (Bitmask w) 13 v) ≡ v
masks_told w v g h c =
    let m : ℕ = unwrap_or (bitmask_at w v) 0 in
    mask_told w v m g h (given (bitmask_at w v) (and_parts (is_some (bitmask_at w v)) (nat_lt (v / 64 % 64) (element_size v)) c).0) c

-- ---- all kinds

-- a number of b bits where b is this number
pub of_bits : (v b n : ℕ) → v < 2 ^ b → (b == n) ≡ true → v < 2 ^ n
of_bits v b n h e = subst (λ (x : ℕ). v < 2 ^ x) (eqb-true b n e) h

pub kind_law : (k : Kind) (b v : ℕ) → v < 2 ^ b → is_good_kind k b ≡ true → is_canonical k v ≡ true → is_unaimed k v ≡ true → told_number k b (shown_number k b v) ≡ v
kind_law (Fixed x) b v h g c u = let l : v < 2 ^ 0 = of_bits v b 0 h g in omega (arith, l)
kind_law Plain b v h g c u = refl
kind_law Stack b v h g c u = stack_told v (of_bits v b 5 h g)
kind_law (After k) b v h g c u =
    let g2 = and_parts (b == 5) (nat_lt k 32) g in
    after_told v k (of_bits v b 5 h g2.0) (ltb-true k 32 g2.1)
kind_law NamedCount b v h g c u = refl
kind_law UnnamedCount b v h g c u = refl
kind_law (Scaled n k) b v h g c u = scaled_told v n k (ltb-true 0 n g)
kind_law Falling b v h g c u = falling_told v (2 ^ b) h
kind_law (Signed n) b v h g c u =
    let g2 = and_parts (nat_lt 0 n) (nat_lt 0 b) g in
    signed_told v n b (ltb-true 0 n g2.0) h
kind_law (Target n g') b v h g c u = sym (eqb-true v 0 u)
kind_law (Bitmask w) b v h g c u =
    let g2 = and_parts (b == 13) (w == 64 || w == 32) g in
    masks_told w v g2.1 (of_bits v b 13 h g2.0) c
kind_law Spread b v h g c u = spread_told v (of_bits v b 8 h g)
kind_law (LeftShift w) b v h g c u = absurd (false≢true g)
kind_law Inverted b v h g c u = inverse_told v (of_bits v b 4 h g)

-- ---- sizes

abbrev is_small_mask : ℕ → ℕ → Bool
is_small_mask w v = nat_lt (unwrap_or (bitmask_at w v) 0) (2 ^ 64)

short_small : all_below 8192 (is_small_mask 32) ≡ true
unfolding bitmask_of
short_small = refl

long_small : all_below 8192 (is_small_mask 64) ≡ true
unfolding bitmask_of
long_small = refl

pub bitmask_small : (w v : ℕ) → (w == 64 || w == 32) ≡ true → v < 8192 → unwrap_or (bitmask_at w v) 0 < 2 ^ 64
bitmask_small w v g h = elim (or_cases (w == 64) (w == 32) g) [
  | inl e ↦ ltb-true _ _ (ap (λ (x : ℕ). nat_lt (unwrap_or (bitmask_at x v) 0) (2 ^ 64)) (eqb-true w 64 e) ∙ each_below 8192 (is_small_mask 64) v long_small h)
  | inr e ↦ ltb-true _ _ (ap (λ (x : ℕ). nat_lt (unwrap_or (bitmask_at x v) 0) (2 ^ 64)) (eqb-true w 32 e) ∙ each_below 8192 (is_small_mask 32) v short_small h)
]

pub spread_small : (v : ℕ) → v < 256 → spread 8 v < 2 ^ 64
spread_small v h = ltb-true _ _ (each_below 256 (λ x. nat_lt (spread 8 x) (2 ^ 64)) v refl h)
