-- Bytes and words of memory.
use Rattle.std.proofs.Common.{◌≡◌, ◌<◌, ℕ, ◌+◌, ◌*◌, ◌^◌, Option, Some, None, refl, sym, ap, ◌∙◌, arith}
use Rattle.std.specs.Prelude.{unwrap_or}
use Rattle.std.specs.Option.{option_map, option_map_or}
use Rattle.std.proofs.Math.Nat.{mod-eq_of_lt}
use Rattle.emu_model.specs.Access.{Memory, address, byte_at, value}

pub or_zero : {T : Type 0} (o : Option T) (f : T → ℕ) → unwrap_or (option_map f o) 0 ≡ option_map_or f o 0
or_zero None f = refl
or_zero (Some x) f = refl

sum_of : (x y z w p q r s : ℕ) → x ≡ p → y ≡ q → z ≡ r → w ≡ s → x + 256 * (y + 256 * (z + 256 * w)) ≡ p + 256 * (q + 256 * (r + 256 * (s + 256 * 0)))
sum_of x y z w p q r s a b c d = omega arith

-- the value of four bytes
pub four_bytes : (m : Memory) (a x y z w : ℕ) → a < 2 ^ 64 → x ≡ byte_at m a → y ≡ byte_at m (address (a + 1)) → z ≡ byte_at m (address (a + 2)) → w ≡ byte_at m (address (a + 3))
    → x + 256 * (y + 256 * (z + 256 * w)) ≡ value m a 4
unfolding value
four_bytes m a x y z w h p q r s =
    let here : a ≡ address a = sym (mod-eq_of_lt h) in
    let two : a + 2 ≡ (a + 1) + 1 = omega arith in
    let three : a + 3 ≡ ((a + 1) + 1) + 1 = omega arith in
    sum_of x y z w _ _ _ _ (p ∙ ap (λ (k : ℕ). byte_at m k) here) q (r ∙ ap (λ (k : ℕ). byte_at m (address k)) two) (s ∙ ap (λ (k : ℕ). byte_at m (address k)) three)
