-- The starts of folds: each is a lane, and a step by it changes neither itself nor what a step made.
use Rattle.std.proofs.Common.{◌≡◌, ◌<◌, ◌≤◌, ◌+◌, ◌-◌, ◌%◌, ◌^◌, ℕ, ℤ, false, cond, min, max, inl, inr, refl, sym, ap, ◌∙◌, arith, bit_and, pos, negsuc, ◌-ℤ◌}
use Rattle.std.specs.Prelude.{int_lt}
use Rattle.std.specs.Int.{int_max, int_min}
use Rattle.std.specs.Int.Bits.{bit_or, bit_xor, or_zero_r, xor_zero_r}
use Rattle.std.proofs.Math.Nat.{mod-lt, mod-mod, mod-eq_of_lt, zero-mod}
use Rattle.std.proofs.Math.Pow.{pow-lt}
use Rattle.std.proofs.lemmas.Bool.{cases_lt}
use Rattle.std.proofs.lemmas.Int.{ints}
use Rattle.std.proofs.lemmas.Nat.{pow_pos, and_mask}
use Rattle.emu_bits.specs.Numbers.{signed, unsigned_int, sign_extended}
use Rattle.emu_bits.proofs.Signs.{double, sext_low, sext_high}
use Rattle.emu_model.specs.LaneSizes.{IsLaneSize}
use Rattle.lane_ops.proofs.Greater.{max_else, signed_back}
use Rattle.lane_ops.proofs.Readings.{some_bits, read_again}

-- ---- starts are lanes

pub least_small : (e : ℕ) → IsLaneSize e → 2 ^ (e - 1) < 2 ^ e
least_small e size = let some : 1 ≤ e = some_bits e size in let below : e - 1 < e = omega arith in pow-lt below

pub greatest_small : (e : ℕ) → IsLaneSize e → 2 ^ (e - 1) - 1 < 2 ^ e
greatest_small e size = let small : 2 ^ (e - 1) < 2 ^ e = least_small e size in omega arith

pub ones_small : (e : ℕ) → 2 ^ e - 1 < 2 ^ e
ones_small e = let some : 0 < 2 ^ e = pow_pos e in omega arith

-- ---- sums

pub sum_kept : (n : ℕ) → (n % 2 ^ 64 + 0) % 2 ^ 64 ≡ n % 2 ^ 64
sum_kept n = let z : n % 2 ^ 64 + 0 ≡ n % 2 ^ 64 = omega arith in ap (λ x. x % 2 ^ 64) z ∙ mod-mod n (2 ^ 64)

pub no_sign : (e : ℕ) → IsLaneSize e → sign_extended 64 e 0 ≡ 0
no_sign e size = ap (λ z. unsigned_int z 64) (sext_low 0 e (2 ^ (e - 1)) 0 (some_bits e size) refl (sym (zero-mod (2 ^ e))) (pow_pos (e - 1)))

pub signed_sum_kept : (e n : ℕ) → IsLaneSize e → (n % 2 ^ 64 + sign_extended 64 e 0) % 2 ^ 64 ≡ n % 2 ^ 64
signed_sum_kept e n size = ap (λ x. (n % 2 ^ 64 + x) % 2 ^ 64) (no_sign e size) ∙ sum_kept n

pub signed_sum_none : (e : ℕ) → IsLaneSize e → (0 + sign_extended 64 e 0) % 2 ^ 64 ≡ 0
signed_sum_none e size = ap (λ x. (0 + x) % 2 ^ 64) (no_sign e size)

-- ---- the greatest and the smallest of unsigned numbers

pub max_kept : (e n : ℕ) → max (n % 2 ^ e) 0 % 2 ^ e ≡ n % 2 ^ e
max_kept e n = let z : max (n % 2 ^ e) 0 ≡ n % 2 ^ e = omega arith in ap (λ x. x % 2 ^ e) z ∙ mod-mod n (2 ^ e)

pub max_none : (e : ℕ) → max 0 0 % 2 ^ e ≡ 0
max_none e = let z : max 0 0 ≡ 0 = omega arith in ap (λ x. x % 2 ^ e) z ∙ zero-mod (2 ^ e)

pub min_kept : (e n : ℕ) → min (n % 2 ^ e) (2 ^ e - 1) % 2 ^ e ≡ n % 2 ^ e
min_kept e n =
    let p : n % 2 ^ e < 2 ^ e = mod-lt n (pow_pos e) in
    let z : min (n % 2 ^ e) (2 ^ e - 1) ≡ n % 2 ^ e = omega arith in
    ap (λ x. x % 2 ^ e) z ∙ mod-mod n (2 ^ e)

pub min_none : (e : ℕ) → min (2 ^ e - 1) (2 ^ e - 1) % 2 ^ e ≡ 2 ^ e - 1
min_none e = let z : min (2 ^ e - 1) (2 ^ e - 1) ≡ 2 ^ e - 1 = omega arith in ap (λ x. x % 2 ^ e) z ∙ mod-eq_of_lt (ones_small e)

-- ---- bits

pub or_kept : (e n : ℕ) → bit_or (n % 2 ^ e) 0 % 2 ^ e ≡ n % 2 ^ e
or_kept e n = ap (λ x. x % 2 ^ e) (or_zero_r (n % 2 ^ e)) ∙ mod-mod n (2 ^ e)

pub or_none : (e : ℕ) → bit_or 0 0 % 2 ^ e ≡ 0
or_none e = ap (λ x. x % 2 ^ e) (or_zero_r 0) ∙ zero-mod (2 ^ e)

pub xor_kept : (e n : ℕ) → bit_xor (n % 2 ^ e) 0 % 2 ^ e ≡ n % 2 ^ e
xor_kept e n = ap (λ x. x % 2 ^ e) (xor_zero_r (n % 2 ^ e)) ∙ mod-mod n (2 ^ e)

pub xor_none : (e : ℕ) → bit_xor 0 0 % 2 ^ e ≡ 0
xor_none e = ap (λ x. x % 2 ^ e) (xor_zero_r 0) ∙ zero-mod (2 ^ e)

pub and_kept : (e n : ℕ) → bit_and (n % 2 ^ e) (2 ^ e - 1) % 2 ^ e ≡ n % 2 ^ e
and_kept e n = ap (λ x. x % 2 ^ e) (and_mask (n % 2 ^ e) e ∙ mod-mod n (2 ^ e)) ∙ mod-mod n (2 ^ e)

pub and_none : (e : ℕ) → bit_and (2 ^ e - 1) (2 ^ e - 1) % 2 ^ e ≡ 2 ^ e - 1
and_none e = ap (λ x. x % 2 ^ e) (and_mask (2 ^ e - 1) e) ∙ mod-mod (2 ^ e - 1) (2 ^ e) ∙ mod-eq_of_lt (ones_small e)

-- ---- the greatest and the smallest of signed numbers

pub unsigned_small : (z : ℤ) (e : ℕ) → unsigned_int z e < 2 ^ e
unsigned_small (pos n) e = mod-lt n (pow_pos e)
unsigned_small (negsuc n) e = let some : 0 < 2 ^ e = pow_pos e in omega arith

-- h is half of what e bits count
over_least : (m h : ℕ) → 0 < h → int_lt (pos m) (pos h -ℤ pos (h + h)) ≡ false
over_least m h some = grind (arith, ints)

negative_over_least : (m h : ℕ) → h ≤ m → int_lt (pos m -ℤ pos (h + h)) (pos h -ℤ pos (h + h)) ≡ false
negative_over_least m h p = grind (arith, ints)

under_greatest : (m h : ℕ) → m < h → int_lt (pos (h - 1)) (pos m) ≡ false
under_greatest m h p = grind (arith, ints)

negative_under_greatest : (m h : ℕ) → m < h + h → int_lt (pos (h - 1)) (pos m -ℤ pos (h + h)) ≡ false
negative_under_greatest m h p = grind (arith, ints)

pub smax_kept : (e m : ℕ) → IsLaneSize e → m < 2 ^ e → unsigned_int (int_max (signed m e) (signed (2 ^ (e - 1)) e)) e ≡ m
smax_kept e m size small =
    let h : ℕ = 2 ^ (e - 1) in
    let some : 1 ≤ e = some_bits e size in
    let itself : m ≡ m % 2 ^ e = sym (mod-eq_of_lt small) in
    let least : signed (2 ^ (e - 1)) e ≡ pos (2 ^ (e - 1)) -ℤ pos (2 ^ (e - 1) + 2 ^ (e - 1)) = sext_high h e h h some refl (sym (mod-eq_of_lt (least_small e size))) (omega arith) in
    let not_less : int_lt (signed m e) (pos (2 ^ (e - 1)) -ℤ pos (2 ^ (e - 1) + 2 ^ (e - 1))) ≡ false = elim (cases_lt m (2 ^ (e - 1))) [
      | inl p ↦ ap (λ z. int_lt z (pos h -ℤ pos (h + h))) (sext_low m e h m some refl itself p) ∙ over_least m h (pow_pos (e - 1))
      | inr p ↦ ap (λ z. int_lt z (pos h -ℤ pos (h + h))) (sext_high m e h m some refl itself p) ∙ negative_over_least m h p
    ] in
    ap (λ z. unsigned_int z e) (ap (int_max (signed m e)) least ∙ max_else (signed m e) (pos h -ℤ pos (h + h)) not_less) ∙ signed_back e m small

pub smin_kept : (e m : ℕ) → IsLaneSize e → m < 2 ^ e → unsigned_int (int_min (signed m e) (signed (2 ^ (e - 1) - 1) e)) e ≡ m
smin_kept e m size small =
    let h : ℕ = 2 ^ (e - 1) in
    let some : 1 ≤ e = some_bits e size in
    let half : 0 < 2 ^ (e - 1) = pow_pos (e - 1) in
    let last : 2 ^ (e - 1) - 1 < 2 ^ (e - 1) = omega arith in
    let itself : m ≡ m % 2 ^ e = sym (mod-eq_of_lt small) in
    let whole : m < 2 ^ (e - 1) + 2 ^ (e - 1) = omega (arith, double e some) in
    let greatest : signed (2 ^ (e - 1) - 1) e ≡ pos (2 ^ (e - 1) - 1) = sext_low (h - 1) e h (h - 1) some refl (sym (mod-eq_of_lt (greatest_small e size))) last in
    let not_greater : int_lt (pos (2 ^ (e - 1) - 1)) (signed m e) ≡ false = elim (cases_lt m (2 ^ (e - 1))) [
      | inl p ↦ ap (int_lt (pos (h - 1))) (sext_low m e h m some refl itself p) ∙ under_greatest m h p
      | inr p ↦ ap (int_lt (pos (h - 1))) (sext_high m e h m some refl itself p) ∙ negative_under_greatest m h whole
    ] in
    ap (λ z. unsigned_int z e) (ap (int_min (signed m e)) greatest ∙ ap (λ c. cond c (pos (h - 1)) (signed m e)) not_greater) ∙ signed_back e m small

-- ---- a value so far that is taken as a lane

pub smax_of_lane : (e n a : ℕ) → unsigned_int (int_max (signed (n % 2 ^ e) e) (signed a e)) e % 2 ^ e ≡ unsigned_int (int_max (signed n e) (signed a e)) e
smax_of_lane e n a =
    mod-eq_of_lt (unsigned_small (int_max (signed (n % 2 ^ e) e) (signed a e)) e) ∙ ap (λ z. unsigned_int (int_max z (signed a e)) e) (read_again e n)

pub smin_of_lane : (e n a : ℕ) → unsigned_int (int_min (signed (n % 2 ^ e) e) (signed a e)) e % 2 ^ e ≡ unsigned_int (int_min (signed n e) (signed a e)) e
smin_of_lane e n a =
    mod-eq_of_lt (unsigned_small (int_min (signed (n % 2 ^ e) e) (signed a e)) e) ∙ ap (λ z. unsigned_int (int_min z (signed a e)) e) (read_again e n)
