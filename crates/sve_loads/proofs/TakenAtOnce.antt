-- Which loads and stores are done at once.
use Rattle.std.proofs.Common.{◌≡◌, ◌≢◌, ◌*◌, ◌^◌, ℕ, sym, ap, ◌∙◌, arith}
use Rattle.std.specs.Int.{bit_at}
use Rattle.std.proofs.lemmas.Nat.Bits.{bit_at-pow_same, bit_at-pow_other}

-- lanes of another size than their elements
pub other_size : (s t : ℕ) → s ≢ t → 8 * 2 ^ s ≢ 8 * 2 ^ t
other_size s t other same =
    let powers : 2 ^ s ≡ 2 ^ t = omega (arith, same) in
    let bit : bit_at (2 ^ s) t ≡ 1 = ap (λ x. bit_at x t) powers ∙ bit_at-pow_same t in
    let none : bit_at (2 ^ s) t ≡ 0 = bit_at-pow_other s t (λ e. other (sym e)) in
    omega (arith, bit, none)
