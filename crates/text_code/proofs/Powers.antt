-- Powers, one at a time.
use Rattle.std.proofs.Common.{◌≡◌, ℕ, zero, suc, ◌-◌, ◌*◌, ◌^◌, ◌<◌, ◌≤◌, ap, ◌∙◌, arith}
use Rattle.std.proofs.Math.Nat.{pow-suc, pow-le-pow_right}

pub power : (b k : ℕ) → 0 < k → b ^ k ≡ b ^ (k - 1) * b
power b zero h = absurd (omega (arith, h))
power b (suc k) h = let e : k ≡ suc k - 1 = omega arith in pow-suc b k ∙ ap (λ (x : ℕ). b ^ x * b) e

pub bytes_small : (k : ℕ) → k ≤ 8 → 256 ^ k ≤ 2 ^ 64
bytes_small k h = pow-le-pow_right {n = 256} (omega arith) {i = k} {j = 8} h
