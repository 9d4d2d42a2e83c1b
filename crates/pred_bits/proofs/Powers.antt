-- The greatest power of two.
use Rattle.std.proofs.Common.{◌≡◌, ◌<◌, ◌≤◌, ◌+◌, ◌-◌, ◌*◌, ◌%◌, ◌^◌, ℕ, zero, suc, Some, nat_le, w32, sym, ap, subst, ◌∙◌, arith}
use Rattle.std.specs.Int.{leading_zeros}
use Rattle.std.proofs.Math.Pow.{pow-lt, pow_mono}
use Rattle.std.proofs.lemmas.Bool.{le-leb, lt-leb}
use Rattle.std.proofs.lemmas.Nat.{leading_top}
use Rattle.lane_model.proofs.Found.{last_is}
use Rattle.std.specs.Option.{option_map_or}
use Rattle.lane_model.specs.Pattern.{greatest_power}

below_power : (k : ℕ) → k < 2 ^ k
below_power zero = omega arith
below_power (suc k) =
    let h : k < 2 ^ k = below_power k in
    let more : 2 ^ k < 2 ^ suc k = pow-lt {i = k} {j = suc k} (omega arith) in
    omega arith

greatest_is : (n k : ℕ) → 2 ^ k ≤ n → n < 2 ^ (k + 1) → greatest_power n ≡ 2 ^ k
greatest_is n k most next =
    ap (λ place. option_map_or (λ j. 2 ^ j) place 0) (last_is n (λ j. nat_le (2 ^ j) n) (Some k) (record {
      within = let h : k < 2 ^ k = below_power k in omega arith;
      meets = le-leb (2 ^ k) n most;
      behind = λ j p q. let grows : 2 ^ (k + 1) ≤ 2 ^ j = pow_mono {i = k + 1} {j = j} (omega arith) in lt-leb (2 ^ j) n (omega arith);
    }))

-- the place of the highest bit is the power
pub top_power : (n : ℕ) → 1 ≤ n → n < 2 ^ 32 → (1 * 2 ^ (31 - leading_zeros w32 n) % 2 ^ 32 ≡ greatest_power n) × (1 * 2 ^ (31 - leading_zeros w32 n) % 2 ^ 32 ≤ n)
top_power n some small =
    let top = leading_top 32 n some small in
    let place : leading_zeros w32 n + suc top.0 ≡ 32 = top.1 in
    let same : top.0 ≡ 31 - leading_zeros w32 n = omega arith in
    let next : suc top.0 ≡ 31 - leading_zeros w32 n + 1 = omega arith in
    let least : 2 ^ (31 - leading_zeros w32 n) ≤ n = subst (λ k. 2 ^ k ≤ n) same top.2 in
    let most : n < 2 ^ (31 - leading_zeros w32 n + 1) = subst (λ k. n < 2 ^ k) next top.3 in
    let whole : 1 * 2 ^ (31 - leading_zeros w32 n) % 2 ^ 32 ≡ 2 ^ (31 - leading_zeros w32 n) = omega arith in
    (whole ∙ sym (greatest_is n (31 - leading_zeros w32 n) least most), omega arith)
