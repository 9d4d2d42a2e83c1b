-- The greater and the smaller of two signed numbers as a lane.
use Rattle.std.proofs.Common.{◌≡◌, ◌<◌, ◌-◌, ◌%◌, ◌^◌, ℕ, ℤ, true, false, cond, suc, inl, inr, ap, ◌∙◌, arith}
use Rattle.std.specs.Prelude.{int_lt, pos, negsuc, ◌-ℤ◌, nat_lt}
use Rattle.std.proofs.Math.Nat.{mod-eq_of_lt}
use Rattle.std.proofs.lemmas.Bool.{cases_lt, lt-ltb, le-ltb}
use Rattle.emu_bits.specs.Numbers.{unsigned}
use Rattle.std.specs.Int.{int_max, int_min}
use Rattle.std.proofs.lemmas.Int.{ints}
use Rattle.emu_bits.specs.Numbers.{signed, unsigned_int}

pub max_then : (x y : ℤ) → int_lt x y ≡ true → int_max x y ≡ y
max_then x y h = grind (arith, ints, h)

pub max_else : (x y : ℤ) → int_lt x y ≡ false → int_max x y ≡ x
max_else x y h = grind (arith, ints, h)

pub min_then : (x y : ℤ) → int_lt x y ≡ true → int_min x y ≡ x
min_then x y h = grind (arith, ints, h)

pub min_else : (x y : ℤ) → int_lt x y ≡ false → int_min x y ≡ y
min_else x y h = grind (arith, ints, h)

less_is : (n m : ℕ) → n < m → pos n -ℤ pos m ≡ negsuc (m - suc n)
less_is n m h = grind (arith, ints)

below : (n m : ℕ) → n < m → m - 1 - (m - suc n) % m ≡ n
below n m h =
    let b : m - suc n < m = omega arith in
    let e : (m - suc n) % m ≡ m - suc n = mod-eq_of_lt b in
    omega arith

-- a number of e bits read as signed and written again
pub signed_back : (e n : ℕ) → n < 2 ^ e → unsigned_int (signed n e) e ≡ n
signed_back e n h =
    let u : unsigned n e ≡ n = mod-eq_of_lt h in
    ap (λ x. unsigned_int (cond (nat_lt x (2 ^ (e - 1))) (pos x) (pos x -ℤ pos (2 ^ e))) e) u
    ∙ elim (cases_lt n (2 ^ (e - 1))) [
      | inl p ↦ (ap (λ c. unsigned_int (cond c (pos n) (pos n -ℤ pos (2 ^ e))) e) (lt-ltb n (2 ^ (e - 1)) p) ∙ mod-eq_of_lt h)
      | inr p ↦ (ap (λ c. unsigned_int (cond c (pos n) (pos n -ℤ pos (2 ^ e))) e) (le-ltb n (2 ^ (e - 1)) p) ∙ ap (λ z. unsigned_int z e) (less_is n (2 ^ e) h) ∙ below n (2 ^ e) h)
    ]
