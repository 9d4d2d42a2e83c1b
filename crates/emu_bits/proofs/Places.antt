-- Values that fit their places.
use Rattle.std.proofs.Common.{◌≡◌, ℕ, ◌+◌, ◌*◌, ◌/◌, ◌^◌, ◌<◌, ◌≤◌, arith, subst, inl, inr}
use Rattle.std.proofs.Math.Nat.{lt_of_lt_of_le, pow-le-pow_right, lt-mul-div-succ, div-eq_of_lt}
use Rattle.std.proofs.lemmas.Bool.Decides.{leb_tells}
use Rattle.std.proofs.lemmas.Nat.{shl_below}

pub put_fits : (v n lo : ℕ) → v < 2 ^ n → lo + n ≤ 32 → v * 2 ^ lo < 2 ^ 32
put_fits v n lo h f = lt_of_lt_of_le (shl_below v n lo h) (pow-le-pow_right {n = 2} (omega arith) {i = n + lo} {j = 32} (omega arith))

-- a number of 32 bits is below each power from 2^32 on
pub below_wide : (v n : ℕ) → v < 2 ^ 32 → 32 ≤ n → v < 2 ^ n
below_wide v n h f = lt_of_lt_of_le h (pow-le-pow_right {n = 2} (omega arith) {i = 32} {j = n} f)

pub some_power : (n : ℕ) → 0 < 2 ^ n
some_power n = pow-le-pow_right {n = 2} (omega arith) {i = 0} {j = n} (omega arith)

-- a number is below a power where its bits from there on are none
pub below_power : (v n : ℕ) → v / 2 ^ n ≡ 0 → v < 2 ^ n
below_power v n e =
    let h : v < 2 ^ n * (v / 2 ^ n + 1) = lt-mul-div-succ v (some_power n) in
    let k : v < 2 ^ n * (0 + 1) = subst (λ (q : ℕ). v < 2 ^ n * (q + 1)) e h in
    omega arith

pub from_power : (v n : ℕ) → (v / 2 ^ n ≡ 0 → ⊥) → 2 ^ n ≤ v
from_power v n h = elim (leb_tells (2 ^ n) v) [ inl k ↦ k.1 | inr k ↦ absurd (h (div-eq_of_lt k.1)) ]
