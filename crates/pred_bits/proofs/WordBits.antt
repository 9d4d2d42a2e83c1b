-- Bits of what is made of words.
use Rattle.std.proofs.Common.{◌≡◌, ◌<◌, ◌+◌, ◌-◌, ◌%◌, ◌^◌, ℕ, zero, suc, Bool, true, false, not, ◌&&◌, ◌||◌, if◌then◌else◌, nat_eq, min, max, bit_and, bit_or, bit_xor, w64, refl, ap, ◌∙◌, arith}
use Rattle.std.specs.Int.{bit_at, bit_not}
use Rattle.std.proofs.lemmas.Nat.Bits.{bit_at_and, bit_at_or, bit_at_xor, bit_at_not, bit_at-lt}

-- the tests of digits below 2
min_test : (x y : ℕ) → x < 2 → y < 2 → nat_eq (min x y) 1 ≡ (nat_eq x 1 && nat_eq y 1)
min_test zero zero p q = refl
min_test zero (suc zero) p q = refl
min_test (suc zero) zero p q = refl
min_test (suc zero) (suc zero) p q = refl
min_test (suc (suc x)) y p q = absurd (omega arith)
min_test x (suc (suc y)) p q = absurd (omega arith)

max_test : (x y : ℕ) → x < 2 → y < 2 → nat_eq (max x y) 1 ≡ (nat_eq x 1 || nat_eq y 1)
max_test zero zero p q = refl
max_test zero (suc zero) p q = refl
max_test (suc zero) zero p q = refl
max_test (suc zero) (suc zero) p q = refl
max_test (suc (suc x)) y p q = absurd (omega arith)
max_test x (suc (suc y)) p q = absurd (omega arith)

sum_test : (x y : ℕ) → x < 2 → y < 2 → nat_eq ((x + y) % 2) 1 ≡ (if nat_eq x 1 then not (nat_eq y 1) else nat_eq y 1)
sum_test zero zero p q = refl
sum_test zero (suc zero) p q = refl
sum_test (suc zero) zero p q = refl
sum_test (suc zero) (suc zero) p q = refl
sum_test (suc (suc x)) y p q = absurd (omega arith)
sum_test x (suc (suc y)) p q = absurd (omega arith)

rest_test : (x : ℕ) → x < 2 → nat_eq (1 - x) 1 ≡ not (nat_eq x 1)
rest_test zero p = refl
rest_test (suc zero) p = refl
rest_test (suc (suc x)) p = absurd (omega arith)

pub and_bit : (a b i : ℕ) → nat_eq (bit_at (bit_and a b) i) 1 ≡ (nat_eq (bit_at a i) 1 && nat_eq (bit_at b i) 1)
and_bit a b i = ap (λ x. nat_eq x 1) (bit_at_and a b i) ∙ min_test (bit_at a i) (bit_at b i) (bit_at-lt a i) (bit_at-lt b i)

pub or_bit : (a b i : ℕ) → nat_eq (bit_at (bit_or a b) i) 1 ≡ (nat_eq (bit_at a i) 1 || nat_eq (bit_at b i) 1)
or_bit a b i = ap (λ x. nat_eq x 1) (bit_at_or a b i) ∙ max_test (bit_at a i) (bit_at b i) (bit_at-lt a i) (bit_at-lt b i)

pub xor_bit : (a b i : ℕ) → nat_eq (bit_at (bit_xor a b) i) 1 ≡ (if nat_eq (bit_at a i) 1 then not (nat_eq (bit_at b i) 1) else nat_eq (bit_at b i) 1)
xor_bit a b i = ap (λ x. nat_eq x 1) (bit_at_xor a b i) ∙ sum_test (bit_at a i) (bit_at b i) (bit_at-lt a i) (bit_at-lt b i)

pub not_bit : (a i : ℕ) → a < 2 ^ 64 → i < 64 → nat_eq (bit_at (bit_not w64 a) i) 1 ≡ not (nat_eq (bit_at a i) 1)
not_bit a i small within = ap (λ x. nat_eq x 1) (bit_at_not w64 a i small within) ∙ rest_test (bit_at a i) (bit_at-lt a i)

-- ---- truth values

pub neither : (g a b : Bool) → (g && (not a && not b)) ≡ (g && not (a || b))
neither g true b = refl
neither g false b = refl

pub not_both : (g a b : Bool) → (g && (not a || not b)) ≡ (g && not (a && b))
not_both g true b = refl
not_both g false b = refl

pub chosen : (g a b : Bool) → ((g && a) || (not g && b)) ≡ (if g then a else b)
chosen true true b = refl
chosen true false b = refl
chosen false a b = refl
