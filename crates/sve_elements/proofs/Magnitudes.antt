-- Magnitudes of products.
use Rattle.std.proofs.Common.{ℕ, ◌*◌, ◌^◌, ◌<◌, ◌≤◌, arith}
use Rattle.std.proofs.lemmas.Int.{unsigned_abs-mul}
use Rattle.std.proofs.lemmas.Nat.{mul-le}

pub ruleset magnitudes = (unsigned_abs-mul)

-- a product of two numbers of 16 bits and a sign
pub small_product : (x y : ℕ) → x < 2 ^ 16 → y < 2 ^ 16 → x * y ≤ 2 ^ 32
small_product x y h k = let l : x * y ≤ 2 ^ 16 * 2 ^ 16 = mul-le x y (2 ^ 16) (2 ^ 16) (omega arith) (omega arith) in omega (arith, l)
