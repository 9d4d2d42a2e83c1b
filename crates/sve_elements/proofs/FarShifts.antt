-- Shifts by more than a register's bits.
use Rattle.std.proofs.Common.{◌≡◌, ℕ, ◌+◌, ◌-◌, ◌*◌, ◌/◌, ◌%◌, ◌^◌, ◌<◌, ◌≤◌, min, ap, sym, ◌∙◌, inl, inr, arith, ℤ, pos, negsuc, w64, FitsSigned}
use Rattle.std.proofs.Math.Nat.{lt_of_lt_of_le, pow-le-pow_right, div-eq_of_lt, mul-mod_left, mul_assoc}
use Rattle.std.proofs.lemmas.Bool.Decides.{leb_tells}
use Rattle.std.proofs.lemmas.Nat.{pow-add}
use Rattle.std.specs.Int.{int_shr}

-- nothing is left of k bits
none_left : (k a b : ℕ) → a < 2 ^ k → k ≤ b → a / 2 ^ b ≡ 0
none_left k a b h w = div-eq_of_lt (lt_of_lt_of_le h (pow-le-pow_right {n = 2} (omega arith) {i = k} {j = b} w))

pub word_left : (a b : ℕ) → a < 2 ^ 64 → 64 ≤ b → a / 2 ^ b ≡ 0
word_left a b h w = none_left 64 a b h w

-- nothing is left of the low e bits
pub none_low : (a b e : ℕ) → e ≤ b → a * 2 ^ b % 2 ^ e ≡ 0
none_low a b e h =
    let s : b ≡ (b - e) + e = omega arith in
    ap (λ (x : ℕ). a * 2 ^ x % 2 ^ e) s
    ∙ ap (λ (x : ℕ). a * x % 2 ^ e) (pow-add 2 (b - e) e)
    ∙ ap (λ (x : ℕ). x % 2 ^ e) (sym (mul_assoc a (2 ^ (b - e)) (2 ^ e)))
    ∙ mul-mod_left (a * 2 ^ (b - e)) (2 ^ e)

-- copies of the sign are left of 64 bits
signs_left : (z : ℤ) (b : ℕ) → FitsSigned w64 z → 63 ≤ b → int_shr z 63 ≡ int_shr z b
signs_left (pos n) b f w =
    let small : n < 2 ^ 63 = omega (arith, f.sfits) in
    ap pos (none_left 63 n 63 small (omega arith) ∙ sym (none_left 63 n b small w))
signs_left (negsuc n) b f w =
    let small : n < 2 ^ 63 = omega (arith, f.sfits) in
    ap negsuc (none_left 63 n 63 small (omega arith) ∙ sym (none_left 63 n b small w))

pub far : (z : ℤ) (b : ℕ) → FitsSigned w64 z → int_shr z (min b 63) ≡ int_shr z b
far z b f =
    elim (leb_tells 63 b) [
      | inl h ↦ let m : min b 63 ≡ 63 = omega (arith, h.1) in ap (λ (x : ℕ). int_shr z x) m ∙ signs_left z b f h.1
      | inr h ↦ let m : min b 63 ≡ b = omega (arith, h.1) in ap (λ (x : ℕ). int_shr z x) m
    ]
