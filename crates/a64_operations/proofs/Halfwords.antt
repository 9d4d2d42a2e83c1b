-- 16 bits of a register from a place on, replaced.
use Rattle.std.proofs.Common.{◌≡◌, ℕ, ◌+◌, ◌-◌, ◌*◌, ◌/◌, ◌%◌, ◌^◌, ◌<◌, ◌≤◌, sym, ap, ◌∙◌, arith}
use Rattle.std.proofs.Math.Nat.{add_comm, div-add-mod, mul-le-mul_right}
use Rattle.std.proofs.Math.Pow.{shl_exact}
use Rattle.std.proofs.lemmas.Nat.{mod-pow-add, pow-add, div_below, mod_below, pow_pos}

-- 16 bits that are moved to a place within the register
pub placed : (v p : ℕ) → v < 2 ^ 16 → p ≤ 48 → v * 2 ^ p % 2 ^ 64 ≡ v * 2 ^ p
placed v p small within = shl_exact {a = v} 16 p 64 small (omega arith)

-- the bits below the place, the 16 bits, and the bits above
pub parts : (a p : ℕ) → a ≡ a % 2 ^ p + a / 2 ^ p % 2 ^ 16 * 2 ^ p + a / 2 ^ (p + 16) * 2 ^ (p + 16)
parts a p =
    let up : 2 ^ (16 + p) ≡ 2 ^ (p + 16) = ap (λ (n : ℕ). 2 ^ n) (add_comm 16 p) in
    let low : a % 2 ^ (16 + p) ≡ a / 2 ^ p % 2 ^ 16 * 2 ^ p + a % 2 ^ p = mod-pow-add a 16 p in
    let below : a % 2 ^ (p + 16) ≡ a / 2 ^ p % 2 ^ 16 * 2 ^ p + a % 2 ^ p = rw up at low in
    let whole : 2 ^ (p + 16) * (a / 2 ^ (p + 16)) + a % 2 ^ (p + 16) ≡ a = div-add-mod a (2 ^ (p + 16)) in
    omega arith

-- with others in their place the number fits
pub fits : (a v p : ℕ) → a < 2 ^ 64 → v < 2 ^ 16 → p ≤ 48
    → a % 2 ^ p + v * 2 ^ p + a / 2 ^ (p + 16) * 2 ^ (p + 16) < 2 ^ 64
fits a v p small few within =
    let above : ℕ = a / 2 ^ (p + 16) in
    let sixty_four : 48 - p + (p + 16) ≡ 64 = omega arith in
    let all : 2 ^ (48 - p) * 2 ^ (p + 16) ≡ 2 ^ 64 =
    sym (pow-add 2 (48 - p) (p + 16)) ∙ ap (λ (n : ℕ). 2 ^ n) sixty_four in
    let high : above < 2 ^ (48 - p) = div_below a (2 ^ (p + 16)) (2 ^ (48 - p)) (pow_pos (p + 16)) (rw all small) in
    let upper : (above + 1) * 2 ^ (p + 16) ≤ 2 ^ (48 - p) * 2 ^ (p + 16) = mul-le-mul_right (2 ^ (p + 16)) (omega arith) in
    let middle : (v + 1) * 2 ^ p ≤ 2 ^ 16 * 2 ^ p = mul-le-mul_right (2 ^ p) (omega arith) in
    let step : 2 ^ (p + 16) ≡ 2 ^ p * 2 ^ 16 = pow-add 2 p 16 in
    let lower : a % 2 ^ p < 2 ^ p = mod_below a (2 ^ p) (pow_pos p) in
    omega arith
