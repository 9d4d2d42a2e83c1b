-- A difference modulo 2^e is a sum with a complement.
use Rattle.std.proofs.Common.{◌≡◌, ℕ, ◌+◌, ◌-◌, ◌*◌, ◌/◌, ◌%◌, ◌^◌, ◌<◌, ◌≤◌, ap, sym, ◌∙◌, inl, inr, arith, ℤ, pos, negsuc, ◌-ℤ◌}
use Rattle.std.proofs.Math.Nat.{mod-lt, mod-add-div', div-mul-le_self}
use Rattle.std.proofs.lemmas.Bool.Decides.{leb_tells}
use Rattle.std.proofs.lemmas.Int.{ints}
use Rattle.std.proofs.lemmas.Nat.{le-div, mod-mul-add}
use Rattle.emu_bits.proofs.Places.{some_power}
use Rattle.emu_bits.specs.Numbers.{unsigned_int}
use Rattle.emu_bits.specs.Operations.{complement}

-- the first is at least the second
above : (e a b : ℕ) → b ≤ a → (a + complement e (b % 2 ^ e) + 1) % 2 ^ e ≡ (a - b) % 2 ^ e
above e a b h =
    let m : 0 < 2 ^ e = some_power e in
    let r : b % 2 ^ e < 2 ^ e = mod-lt b m in
    let l : (a - b) % 2 ^ e < 2 ^ e = mod-lt (a - b) m in
    let is : a + complement e (b % 2 ^ e) + 1 ≡ ((a - b) / 2 ^ e + b / 2 ^ e + 1) * 2 ^ e + (a - b) % 2 ^ e
    = omega (arith, mod-add-div' b (2 ^ e), mod-add-div' (a - b) (2 ^ e), r) in
    ap (λ (x : ℕ). x % 2 ^ e) is ∙ mod-mul-add ((a - b) / 2 ^ e + b / 2 ^ e + 1) (2 ^ e) ((a - b) % 2 ^ e) l

-- the second is greater, by d + 1
below : (e a b d : ℕ) → b ≡ a + d + 1 → (a + complement e (b % 2 ^ e) + 1) % 2 ^ e ≡ 2 ^ e - 1 - d % 2 ^ e
below e a b d h =
    let m : 0 < 2 ^ e = some_power e in
    let r : b % 2 ^ e < 2 ^ e = mod-lt b m in
    let s : d % 2 ^ e < 2 ^ e = mod-lt d m in
    let q : ℕ = b / 2 ^ e - d / 2 ^ e in
    let less : d / 2 ^ e ≤ b / 2 ^ e = le-div (d / 2 ^ e) b (2 ^ e) m (omega (arith, div-mul-le_self d (2 ^ e))) in
    let all : b / 2 ^ e ≡ q + d / 2 ^ e = omega (arith, less) in
    let whole : b ≡ (q + d / 2 ^ e) * 2 ^ e + b % 2 ^ e = sym (mod-add-div' b (2 ^ e)) ∙ omega arith ∙ ap (λ (x : ℕ). x * 2 ^ e + b % 2 ^ e) all in
    let is : a + complement e (b % 2 ^ e) + 1 ≡ q * 2 ^ e + (2 ^ e - 1 - d % 2 ^ e)
    = omega (arith, whole, mod-add-div' d (2 ^ e), r, s) in
    ap (λ (x : ℕ). x % 2 ^ e) is ∙ mod-mul-add q (2 ^ e) (2 ^ e - 1 - d % 2 ^ e) (omega (arith, s))

pub difference_is : (e a b : ℕ) → (a + complement e (b % 2 ^ e) + 1) % 2 ^ e ≡ unsigned_int (pos a -ℤ pos b) e
difference_is e a b =
    elim (leb_tells b a) [
      | inl h ↦ let z : pos a -ℤ pos b ≡ pos (a - b) = omega (arith, ints, h.1) in above e a b h.1 ∙ ap (λ (x : ℤ). unsigned_int x e) (sym z)
      | inr h ↦ let z : pos a -ℤ pos b ≡ negsuc (b - a - 1) = omega (arith, ints, h.1) in below e a b (b - a - 1) (omega (arith, h.1)) ∙ ap (λ (x : ℤ). unsigned_int x e) (sym z)
    ]
