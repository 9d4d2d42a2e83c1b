-- Lanes read as signed: how far two are apart, and what a shift to the right leaves of one.
use Rattle.std.proofs.Common.{◌≡◌, ◌⊎◌, ◌<◌, ◌≤◌, ◌+◌, ◌-◌, ◌*◌, ◌/◌, ◌%◌, ◌^◌, ℕ, ℤ, true, false, cond, min, nat_lt, suc, inl, inr, refl, sym, ap, ap₂, subst, ◌∙◌, arith, pos, negsuc, ◌-ℤ◌}
use Rattle.std.specs.Prelude.{int_lt, unsigned_abs}
use Rattle.std.specs.Int.{int_shr}
use Rattle.std.specs.Int.Signed.{mag}
use Rattle.std.proofs.Math.Nat.{mod-mod, mod-eq_of_lt, div-eq_of_lt, add-mod_right, zero-mod, lt_of_lt_of_le, pow-le-pow_right}
use Rattle.std.proofs.lemmas.Bool.{cases_lt}
use Rattle.std.proofs.lemmas.Int.{ints}
use Rattle.std.proofs.lemmas.Nat.{pow_pos}
use Rattle.emu_bits.proofs.Signs.{double, sext_low, sext_high}
use Rattle.emu_bits.specs.Numbers.{signed, unsigned_int}
use Rattle.emu_bits.specs.Operations.{asr}
use Rattle.sve_elements.proofs.FarShifts.{none_low}
use Rattle.emu_model.specs.LaneSizes.{IsLaneSize}

pub some_bits : (e : ℕ) → IsLaneSize e → 1 ≤ e
some_bits e (inl s) = omega arith
some_bits e (inr (inl s)) = omega arith
some_bits e (inr (inr (inl s))) = omega arith
some_bits e (inr (inr (inr s))) = omega arith

-- a lane is read as its number, less nothing or 2^e
reading : {P : Type 0} (e n : ℕ) → 1 ≤ e → n < 2 ^ e → ((p : ℕ) → (p ≡ 0) ⊎ (p ≡ 2 ^ e) → signed n e ≡ pos n -ℤ pos p → P) → P
reading e n some small told =
    let itself : n ≡ n % 2 ^ e = sym (mod-eq_of_lt small) in
    let h : ℕ = 2 ^ (e - 1) in
    let nothing : pos n ≡ pos n -ℤ pos 0 = omega (arith, ints) in
    elim (cases_lt n (2 ^ (e - 1))) [
      | inl p ↦ told 0 (inl refl) (sext_low n e h n some refl itself p ∙ nothing)
      | inr p ↦ told (2 ^ e) (inr refl) (sext_high n e h n some refl itself p ∙ ap (λ m. pos n -ℤ pos m) (sym (double e some)))
    ]

-- ---- how far two lanes are apart

told_less : (x y p q : ℕ) → int_lt (pos x -ℤ pos p) (pos y -ℤ pos q) ≡ true → x + q < y + p
told_less x y p q h = grind (arith, ints, h)

told_not_less : (x y p q : ℕ) → int_lt (pos x -ℤ pos p) (pos y -ℤ pos q) ≡ false → y + p ≤ x + q
told_not_less x y p q h = grind (arith, ints, h)

below : (x y p q : ℕ) → x + q < y + p → unsigned_abs ((pos x -ℤ pos p) -ℤ (pos y -ℤ pos q)) ≡ (y + p) - (x + q)
below x y p q h =
    let z : (pos x -ℤ pos p) -ℤ (pos y -ℤ pos q) ≡ negsuc ((y + p) - suc (x + q)) = omega (arith, ints, h) in
    ap unsigned_abs z ∙ omega arith

above : (x y p q : ℕ) → y + p ≤ x + q → unsigned_abs ((pos x -ℤ pos p) -ℤ (pos y -ℤ pos q)) ≡ (x + q) - (y + p)
above x y p q h =
    let z : (pos x -ℤ pos p) -ℤ (pos y -ℤ pos q) ≡ pos ((x + q) - (y + p)) = omega (arith, ints, h) in
    ap unsigned_abs z

between : (m x y p q : ℕ) → x < m → y < m → (p ≡ 0) ⊎ (p ≡ m) → (q ≡ 0) ⊎ (q ≡ m) → x + q ≤ y + p → (y + (m - x)) % m ≡ ((y + p) - (x + q)) % m
between m x y p q r s (inl a) (inl b) h =
    let t : y + (m - x) ≡ ((y + p) - (x + q)) + m = omega arith in
    ap (λ k. k % m) t ∙ add-mod_right ((y + p) - (x + q)) m
between m x y p q r s (inr a) (inr b) h =
    let t : y + (m - x) ≡ ((y + p) - (x + q)) + m = omega arith in
    ap (λ k. k % m) t ∙ add-mod_right ((y + p) - (x + q)) m
between m x y p q r s (inr a) (inl b) h = let t : y + (m - x) ≡ (y + p) - (x + q) = omega arith in ap (λ k. k % m) t
between m x y p q r s (inl a) (inr b) h = absurd (omega arith)

pub distance_below : (e x y : ℕ) → 1 ≤ e → x < 2 ^ e → y < 2 ^ e → int_lt (signed x e) (signed y e) ≡ true
    → (y + (2 ^ e - x)) % 2 ^ e ≡ unsigned_abs (signed x e -ℤ signed y e) % 2 ^ e % 2 ^ e
distance_below e x y some r s h =
    reading e x some r (λ p a is.
    reading e y some s (λ q b other.
    let less : x + q < y + p = told_less x y p q (ap₂ int_lt (sym is) (sym other) ∙ h) in
    let most : x + q ≤ y + p = omega arith in
    between (2 ^ e) x y p q r s a b most
    ∙ ap (λ n. n % 2 ^ e) (sym (ap₂ (λ z t. unsigned_abs (z -ℤ t)) is other ∙ below x y p q less))
    ∙ sym (mod-mod (unsigned_abs (signed x e -ℤ signed y e)) (2 ^ e))))

pub distance_above : (e x y : ℕ) → 1 ≤ e → x < 2 ^ e → y < 2 ^ e → int_lt (signed x e) (signed y e) ≡ false
    → (x + (2 ^ e - y)) % 2 ^ e ≡ unsigned_abs (signed x e -ℤ signed y e) % 2 ^ e % 2 ^ e
distance_above e x y some r s h =
    reading e x some r (λ p a is.
    reading e y some s (λ q b other.
    let most : y + p ≤ x + q = told_not_less x y p q (ap₂ int_lt (sym is) (sym other) ∙ h) in
    between (2 ^ e) y x q p s r b a most
    ∙ ap (λ n. n % 2 ^ e) (sym (ap₂ (λ z t. unsigned_abs (z -ℤ t)) is other ∙ above x y p q most))
    ∙ sym (mod-mod (unsigned_abs (signed x e -ℤ signed y e)) (2 ^ e))))

-- a magnitude is a distance from 0
pub from_zero : (e x : ℕ) → 1 ≤ e → unsigned_abs (signed x e -ℤ signed (0 % 2 ^ e) e) ≡ unsigned_abs (signed x e)
from_zero e x some =
    let none : 0 ≡ 0 % 2 ^ e % 2 ^ e = sym (ap (λ n. n % 2 ^ e) (zero-mod (2 ^ e)) ∙ zero-mod (2 ^ e)) in
    let z : signed (0 % 2 ^ e) e ≡ pos 0 = sext_low (0 % 2 ^ e) e (2 ^ (e - 1)) 0 some refl none (pow_pos (e - 1)) in
    ap (λ t. unsigned_abs (signed x e -ℤ t)) z ∙ ap unsigned_abs (less_nothing (signed x e)) where
      less_nothing : (z : ℤ) → z -ℤ pos 0 ≡ z
      less_nothing z = omega (arith, ints)

-- ---- shifts by e or more

pub right_none : (e a n : ℕ) → a < 2 ^ e → e ≤ n → 0 % 2 ^ e ≡ a / 2 ^ n % 2 ^ e % 2 ^ e
right_none e a n small far =
    let none : a / 2 ^ n ≡ 0 = div-eq_of_lt (lt_of_lt_of_le small (pow-le-pow_right {n = 2} (omega arith) {i = e} {j = n} far)) in
    sym (ap (λ x. x % 2 ^ e % 2 ^ e) none ∙ mod-mod 0 (2 ^ e))

pub left_none : (e a n : ℕ) → e ≤ n → 0 % 2 ^ e ≡ a * 2 ^ n % 2 ^ e % 2 ^ e
left_none e a n far = sym (ap (λ x. x % 2 ^ e) (none_low a n e far))

-- the magnitude of a number of h bits and a sign is gone after h places
gone : (h n k : ℕ) → n < 2 ^ h → h ≤ k → n / 2 ^ k ≡ 0
gone h n k small far = div-eq_of_lt (lt_of_lt_of_le small (pow-le-pow_right {n = 2} (omega arith) {i = h} {j = k} far))

signs_left : (z : ℤ) (h k : ℕ) → mag z < 2 ^ h → h ≤ k → int_shr z h ≡ int_shr z k
signs_left (pos n) h k small far = ap pos (gone h n h small (omega arith) ∙ sym (gone h n k small far))
signs_left (negsuc n) h k small far = ap negsuc (gone h n h small (omega arith) ∙ sym (gone h n k small far))

signs_far : (z : ℤ) (h k : ℕ) → mag z < 2 ^ h → int_shr z (min k h) ≡ int_shr z k
signs_far z h k small = elim (cases_lt k h) [
  | inl p ↦ (let is : min k h ≡ k = omega arith in ap (int_shr z) is)
  | inr p ↦ (let is : min k h ≡ h = omega arith in ap (int_shr z) is ∙ signs_left z h k small p)
]

negative : (n h : ℕ) → h ≤ n → n < h + h → mag (pos n -ℤ pos (h + h)) < h
negative n h p q =
    let z : pos n -ℤ pos (h + h) ≡ negsuc ((h + h) - suc n) = omega (arith, ints, q) in
    let small : (h + h) - suc n < h = omega arith in
    subst (λ t. mag t < h) (sym z) small

pub signed_small : (e a : ℕ) → 1 ≤ e → a < 2 ^ e → mag (signed a e) < 2 ^ (e - 1)
signed_small e a some small =
    let itself : a ≡ a % 2 ^ e = sym (mod-eq_of_lt small) in
    let h : ℕ = 2 ^ (e - 1) in
    let whole : a < 2 ^ (e - 1) + 2 ^ (e - 1) = omega (arith, double e some) in
    elim (cases_lt a (2 ^ (e - 1))) [
      | inl p ↦ subst (λ t. mag t < 2 ^ (e - 1)) (sym (sext_low a e h a some refl itself p)) p
      | inr p ↦ subst (λ t. mag t < 2 ^ (e - 1)) (sym (sext_high a e h a some refl itself p)) (negative a h p whole)
    ]

pub signed_far : (e a n : ℕ) → 1 ≤ e → a < 2 ^ e → asr e a (min n (e - 1)) ≡ asr e a n
signed_far e a n some small = ap (λ z. unsigned_int z e) (signs_far (signed a e) (e - 1) n (signed_small e a some small))

-- ---- operands that are taken modulo 2^e, or that no lane reaches

pub read_again : (e n : ℕ) → signed (n % 2 ^ e) e ≡ signed n e
read_again e n = ap (λ x. cond (nat_lt x (2 ^ (e - 1))) (pos x) (pos x -ℤ pos (2 ^ e))) (mod-mod n (2 ^ e))
