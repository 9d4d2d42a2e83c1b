-- Bits taken one by one, the lowest first, are the bits in reverse order.
use Rattle.std.proofs.Common.{◌≡◌, ℕ, zero, suc, ◌+◌, ◌-◌, ◌*◌, ◌/◌, ◌%◌, ◌^◌, ◌<◌, refl, sym, ap, ap₂, ◌∙◌, arith}
use Rattle.std.proofs.Math.Nat.{pow-suc, add-mul, mul_assoc, mul_comm}
use Rattle.std.proofs.lemmas.Nat.{shr-shr}
use Rattle.std.proofs.lemmas.Nat.Bits.{bit_at_lowest}
use Rattle.std.specs.Int.{reverse_bits_onto}
use Rattle.emu_bits.specs.Operations.{number_of_bits, reversed_bits}

-- numbers with the same bits
same : (k : ℕ) (f g : ℕ → ℕ) → ((j : ℕ) → j < k → f j ≡ g j) → number_of_bits k f ≡ number_of_bits k g
unfolding number_of_bits
same zero f g h = refl
same (suc k) f g h =
    let below : number_of_bits k f ≡ number_of_bits k g = same k f g (λ j l. h j (omega arith)) in
    let top : f k ≡ g k = h k (omega arith) in
    cc

-- one place further down
next : (n k j : ℕ) → j < k → n / 2 ^ (suc k - 1 - j) % 2 ≡ n / 2 / 2 ^ (k - 1 - j) % 2
next n k j l =
    let e : suc k - 1 - j ≡ 1 + (k - 1 - j) = omega arith in
    ap (λ x. n / 2 ^ x % 2) e ∙ ap (λ x. x % 2) (sym (shr-shr n 1 (k - 1 - j)))

joined : (a b p r : ℕ) → (a * 2 + b) * p + r ≡ a * (p * 2) + (r + b * p)
joined a b p r =
    ap (λ x. x + r) (add-mul (a * 2) b p ∙ ap (λ x. x + b * p) (mul_assoc a 2 p ∙ ap (λ x. a * x) (mul_comm 2 p))) ∙ omega arith

onto : (k n a : ℕ) → reverse_bits_onto k n a ≡ a * 2 ^ k + reversed_bits k n
unfolding reverse_bits_onto number_of_bits
onto zero n a = omega arith
onto (suc k) n a =
    let before : reverse_bits_onto k (n / 2) (a * 2 + n % 2) ≡ (a * 2 + n % 2) * 2 ^ k + reversed_bits k (n / 2) = onto k (n / 2) (a * 2 + n % 2) in
    let rest : number_of_bits k (λ j. n / 2 ^ (suc k - 1 - j) % 2) ≡ reversed_bits k (n / 2) = same k (λ j. n / 2 ^ (suc k - 1 - j) % 2) (λ j. n / 2 / 2 ^ (k - 1 - j) % 2) (next n k) in
    let none : suc k - 1 - k ≡ 0 = omega arith in
    let top : n / 2 ^ (suc k - 1 - k) % 2 ≡ n % 2 = ap (λ x. n / 2 ^ x % 2) none ∙ bit_at_lowest n in
    before ∙ joined a (n % 2) (2 ^ k) (reversed_bits k (n / 2)) ∙ ap₂ (λ x y. a * x + y) (sym (pow-suc 2 k)) (ap₂ (λ x y. x + y * 2 ^ k) (sym rest) (sym top))

pub reversed : (k n : ℕ) → reverse_bits_onto k n 0 ≡ reversed_bits k n
reversed k n = onto k n 0 ∙ omega arith
