-- The elements of a bitmask: their size, rotation and repetition.
use Rattle.std.proofs.Common.{◌≡◌, ℕ, zero, suc, ◌+◌, ◌-◌, ◌*◌, ◌/◌, ◌%◌, ◌^◌, ◌<◌, ◌≤◌, ◌==◌, ◌||◌, Bool, true, false, cond, Some, None, refl, sym, ap, ap₂, ◌∙◌, subst, nat_le, arith}
use Rattle.std.proofs.Math.Nat.{mul-le-mul_right, add-mul, mul-add, mul_assoc, mul-one, mod-lt, mod-eq_of_lt, lt_of_lt_of_le, pow-le-pow_right, div-mul-le_self}
use Rattle.std.proofs.Math.Pow.{shr_lt}
use Rattle.std.proofs.lemmas.Nat.{pow-add}
use Rattle.std.proofs.lemmas.Bool.{eqb-true, leb-true, ne_eqb}
use Rattle.std.proofs.lemmas.Bool.Decides.{nat_tests}
use Rattle.std.specs.Int.{from_bool}
use Rattle.std.specs.Int.Count.{count_leading_zeros}
use Rattle.emu_bits.specs.Fields.{bit}
use Rattle.emu_bits.specs.Bitmask.{rotated, repeated, highest_set, element_log, has_no_value, element, with_elements, bitmask_of}
use Rattle.emu_bits.proofs.AllBelow.{all_below, each_below, gives, given}
use Rattle.emu_bits.proofs.Places.{some_power}

-- ---- the highest set bit of seven

is_log : ℕ → Bool
is_log x = x == 0 || gives (highest_set 6 x) (31 - count_leading_zeros 32 x)

logs : all_below 128 is_log ≡ true
unfolding is_log count_leading_zeros
logs = refl

is_small_log : ℕ → Bool
is_small_log x = nat_le (31 - count_leading_zeros 32 x) 5

small_logs : all_below 64 is_small_log ≡ true
unfolding is_small_log count_leading_zeros
small_logs = refl

is_any_log : ℕ → Bool
is_any_log x = nat_le (31 - count_leading_zeros 32 x) 6

any_logs : all_below 128 is_any_log ≡ true
unfolding is_any_log count_leading_zeros
any_logs = refl

from_or : (x y : ℕ) (b : Bool) → (x ≡ y → ⊥) → (x == y || b) ≡ true → b ≡ true
from_or x y b n h = ap (λ (t : Bool). t || b) (sym (ne_eqb x y n)) ∙ h

pub log_is : (x : ℕ) → x < 128 → (x ≡ 0 → ⊥) → highest_set 6 x ≡ Some (31 - count_leading_zeros 32 x)
unfolding is_log
log_is x h n = given (highest_set 6 x) _ (from_or x 0 _ n (each_below 128 is_log x logs h))

pub small_log : (x : ℕ) → x < 64 → 31 - count_leading_zeros 32 x ≤ 5
unfolding is_small_log
small_log x h = leb-true (31 - count_leading_zeros 32 x) 5 (each_below 64 is_small_log x small_logs h)

pub any_log : (x : ℕ) → x < 128 → 31 - count_leading_zeros 32 x ≤ 6
unfolding is_any_log
any_log x h = leb-true (31 - count_leading_zeros 32 x) 6 (each_below 128 is_any_log x any_logs h)

-- ---- what is not refused

pub record Accepted (w n imms h : ℕ) : Type 0 where
  pub some : (h ≡ 0 → ⊥)
  pub narrow : w ≡ 32 → n ≡ 1 → ⊥
  pub mixed : (imms % 2 ^ h ≡ 2 ^ h - 1 → ⊥)

pub accepted : (w n imms h : ℕ) → has_no_value w n imms h ≡ false → Accepted w n imms h
accepted w n imms h e = record {
  some = λ q. grind (arith, nat_tests, e, q);
  narrow = λ q r. grind (arith, nat_tests, e, q, r);
  mixed = λ q. grind (arith, nat_tests, e, q);
}

-- ---- joined numbers

pub joined_below : (a b j k : ℕ) → a < 2 ^ j → b < 2 ^ k → b + a * 2 ^ k < 2 ^ (j + k)
joined_below a b j k h f =
    let m : suc a * 2 ^ k ≤ 2 ^ j * 2 ^ k = mul-le-mul_right (2 ^ k) h in
    let s : suc a * 2 ^ k ≡ a * 2 ^ k + 2 ^ k = omega (arith, add-mul a 1 (2 ^ k)) in
    let p : 2 ^ (j + k) ≡ 2 ^ j * 2 ^ k = pow-add 2 j k in
    omega arith

pub rotated_below : (e v r : ℕ) → r ≤ e → v < 2 ^ e → rotated e v r < 2 ^ e
rotated_below e v r h f =
    let i : r + (e - r) ≡ e = omega arith in
    let k : (e - r) + r ≡ e = omega arith in
    let low : v / 2 ^ r < 2 ^ (e - r) = shr_lt (e - r) r (subst (λ (x : ℕ). v < 2 ^ x) (sym k) f) in
    subst (λ (x : ℕ). rotated e v r < 2 ^ x) i (joined_below (v % 2 ^ r) (v / 2 ^ r) r (e - r) (mod-lt v (some_power r)) low)

pub power_fits : (e : ℕ) → e ≤ 64 → 2 ^ e ≤ 2 ^ 64
power_fits e h = pow-le-pow_right {n = 2} (omega arith) {i = e} {j = 64} h

-- as the code computes it, with a product that keeps 64 bits
pub rotated_code : (e v r p : ℕ) → e ≤ 64 → r ≤ e → v < 2 ^ e → p ≡ 2 ^ r → v / 2 ^ r + v % p * 2 ^ (e - r) % 2 ^ 64 ≡ rotated e v r
rotated_code e v r p g h f q =
    let b : rotated e v r < 2 ^ e = rotated_below e v r h f in
    let w : 2 ^ e ≤ 2 ^ 64 = power_fits e g in
    let small : v % 2 ^ r * 2 ^ (e - r) < 2 ^ 64 = omega arith in
    ap (λ (x : ℕ). v / 2 ^ r + v % x * 2 ^ (e - r) % 2 ^ 64) q
    ∙ ap (λ (x : ℕ). v / 2 ^ r + x) (mod-eq_of_lt small)

pub repeated_below : (e v k : ℕ) → v < 2 ^ e → repeated e v k < 2 ^ (k * e)
repeated_below e v zero h = some_power (0 * e)
repeated_below e v (suc k) h =
    let s : k * e + e ≡ suc k * e = omega (arith, add-mul k 1 e) in
    subst (λ (x : ℕ). repeated e v (suc k) < 2 ^ x) s (joined_below (repeated e v k) v (k * e) e (repeated_below e v k h) h)

pub repeated_is : (e v k : ℕ) → v * repeated e 1 k ≡ repeated e v k
repeated_is e v zero = omega arith
repeated_is e v (suc k) =
    let r : ℕ = repeated e 1 k in
    mul-add v 1 (r * 2 ^ e)
    ∙ ap₂ (λ (a b : ℕ). a + b) (mul-one v) (sym (mul_assoc v r (2 ^ e)) ∙ ap (λ (a : ℕ). a * 2 ^ e) (repeated_is e v k))

-- ---- the value

pub bit_is : (b : Bool) → from_bool b ≡ bit b
bit_is false = refl
bit_is true = refl

pub no_log : (w n immr imms : ℕ) → element_log n imms ≡ None → bitmask_of w n immr imms ≡ None
unfolding bitmask_of
no_log w n immr imms e = ap (with_elements w n immr imms) e

pub refused : (w n immr imms h : ℕ) → element_log n imms ≡ Some h → has_no_value w n imms h ≡ true → bitmask_of w n immr imms ≡ None
unfolding bitmask_of
refused w n immr imms h e f =
    ap (with_elements w n immr imms) e
    ∙ ap (λ (t : Bool). cond t None (Some (repeated (2 ^ h) (element immr imms h) (w / 2 ^ h)))) f

pub found : (w n immr imms h : ℕ) → element_log n imms ≡ Some h → has_no_value w n imms h ≡ false
    → bitmask_of w n immr imms ≡ Some (repeated (2 ^ h) (element immr imms h) (w / 2 ^ h))
unfolding bitmask_of
found w n immr imms h e f =
    ap (with_elements w n immr imms) e
    ∙ ap (λ (t : Bool). cond t None (Some (repeated (2 ^ h) (element immr imms h) (w / 2 ^ h)))) f

pub product : (w immr imms h r l : ℕ) → r ≡ element immr imms h → l ≡ repeated (2 ^ h) 1 (w / 2 ^ h)
    → r * l ≡ repeated (2 ^ h) (element immr imms h) (w / 2 ^ h)
product w immr imms h r l a b = ap₂ (λ (x y : ℕ). x * y) a b ∙ repeated_is (2 ^ h) (element immr imms h) (w / 2 ^ h)

pub repeated_fits : (e v w : ℕ) → v < 2 ^ e → w ≤ 64 → repeated e v (w / e) < 2 ^ 64
repeated_fits e v w h f =
    lt_of_lt_of_le (repeated_below e v (w / e) h)
    (pow-le-pow_right {n = 2} (omega arith) {i = w / e * e} {j = 64} (omega (arith, div-mul-le_self w e)))

pub bit_small : (b : Bool) → bit b < 2
bit_small false = omega arith
bit_small true = omega arith

pub log_below : (b : Bool) (m : ℕ) → m < 64 → 31 - count_leading_zeros 32 (from_bool b * 64 + m) ≤ 5 + bit b
log_below false m h =
    let e : m ≡ from_bool false * 64 + m = omega arith in
    subst (λ (x : ℕ). 31 - count_leading_zeros 32 x ≤ 5) e (small_log m h)
log_below true m h = any_log (1 * 64 + m) (omega arith)

-- the lowest bits of elements at 32 bits are half of those at 64
low_half : ℕ → Bool
low_half h = h == 0 || (h == 6 || repeated (2 ^ h) 1 (64 / 2 ^ h) % 4294967296 == repeated (2 ^ h) 1 (32 / 2 ^ h))

low_halves : all_below 7 low_half ≡ true
unfolding low_half
low_halves = refl

pub lowest_half : (h : ℕ) → 1 ≤ h → h ≤ 5 → repeated (2 ^ h) 1 (64 / 2 ^ h) % 4294967296 ≡ repeated (2 ^ h) 1 (32 / 2 ^ h)
unfolding low_half
lowest_half h a b =
    let t : (h == 6 || repeated (2 ^ h) 1 (64 / 2 ^ h) % 4294967296 == repeated (2 ^ h) 1 (32 / 2 ^ h)) ≡ true =
    from_or h 0 _ (λ e. omega (arith, e)) (each_below 7 low_half h low_halves (omega arith)) in
    eqb-true _ _ (from_or h 6 _ (λ e. omega (arith, e)) t)
