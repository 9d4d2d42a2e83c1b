-- Numbers stored in so many bits.
use Rattle.std.proofs.Common.{◌≡◌, ℕ, suc, ◌+◌, ◌-◌, ◌*◌, ◌%◌, ◌^◌, ◌<◌, ◌≤◌, ◌∙◌, Option, Some, None, pos, sym, ap, arith}
use Rattle.std.specs.Prelude.{negsuc}
use Rattle.std.proofs.Math.Nat.{mod-eq_of_lt, two-pow-succ}
use Rattle.std.proofs.Math.Pow.{pow_mono}
use Rattle.std.proofs.lemmas.Bool.{cond-true, lt-ltb}
use Rattle.listing_model.specs.Directives.{fits, modulo, stored_number}

-- a shifted 1 that isn't shifted out
pub shifted : (b : ℕ) → b ≤ 64 → 1 * 2 ^ b % 340282366920938463463374607431768211456 ≡ 2 ^ b
shifted b h =
    let small : 2 ^ b ≤ 2 ^ 64 = pow_mono {i = b} {j = 64} h in
    let below : 1 * 2 ^ b < 340282366920938463463374607431768211456 = omega arith in
    let one : 1 * 2 ^ b ≡ 2 ^ b = omega arith in
    mod-eq_of_lt below ∙ one

pub natural : (b n : ℕ) → n < 2 ^ b → ◌≡◌ {A = Option ℕ} (Some n) (stored_number b (pos n))
natural b n h = sym (cond-true (fits b (pos n)) (Some (modulo b (pos n))) None (lt-ltb n (2 ^ b) h) ∙ ap Some (mod-eq_of_lt h))

pub negative : (b k n half : ℕ) → b ≡ suc k → half ≡ 2 ^ k → k ≡ b - 1 → n < half → ◌≡◌ {A = Option ℕ} (Some (2 * half - 1 - n)) (stored_number b (negsuc n))
negative b k n half e q r h =
    let whole : 2 ^ b ≡ 2 ^ k + 2 ^ k = ap (λ (i : ℕ). 2 ^ i) e ∙ two-pow-succ k in
    let below : n < 2 ^ (b - 1) = omega (arith, ap (λ (i : ℕ). 2 ^ i) r) in
    let small : n % 2 ^ b ≡ n = mod-eq_of_lt (omega (arith, whole)) in
    let same : 2 * half - 1 - n ≡ 2 ^ b - 1 - n % 2 ^ b = omega (arith, whole, small) in
    ap Some same ∙ sym (cond-true (fits b (negsuc n)) (Some (modulo b (negsuc n))) None (lt-ltb n (2 ^ (b - 1)) below))
