-- Shifts to places of a register.
use Rattle.std.proofs.Common.{◌≡◌, ℕ, ◌+◌, ◌*◌, ◌/◌, ◌%◌, ◌^◌, ◌<◌, ◌≤◌, arith}
use Rattle.std.proofs.Math.Nat.{mod-eq_of_lt, pow-le-pow_right, div-mul-le_self}
use Rattle.std.proofs.lemmas.Nat.{shl_below}

-- a field within 64 bits, shifted to its place at 128 bits
pub placed : (v place n : ℕ) → v < 2 ^ n → place + n ≤ 64 → v * 2 ^ place % 2 ^ 128 ≡ v * 2 ^ place
placed v place n small within =
    let below : v * 2 ^ place < 2 ^ (n + place) = shl_below v n place small in
    let power : 2 ^ (n + place) ≤ 2 ^ 64 = pow-le-pow_right {n = 2} (omega arith) {i = n + place} {j = 64} (omega arith) in
    mod-eq_of_lt (omega arith)

-- the bits of a register from a place on, at 128 bits
pub upper : (a k : ℕ) → a < 2 ^ 64 → a / 2 ^ k * 2 ^ k % 2 ^ 128 ≡ a / 2 ^ k * 2 ^ k
upper a k small =
    let below : a / 2 ^ k * 2 ^ k ≤ a = div-mul-le_self a (2 ^ k) in
    mod-eq_of_lt (omega arith)
