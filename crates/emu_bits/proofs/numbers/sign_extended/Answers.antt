-- The low bits of the signed reading.
use Rattle.std.proofs.Common.{◌≡◌, ℕ, ℤ, ◌%◌, ◌^◌, ◌∙◌, ap, w64, FitsSigned, of_z}
use Rattle.std.proofs.lemmas.Int.{to_z-of_z}
use Rattle.emu_bits.specs.Numbers.{unsigned_int}
use Rattle.emu_bits.proofs.Signs.{narrowed}
use Rattle.emu_bits.proofs.numbers.sign_extended.Goals as goal

pub returns-clause-value : goal.returns-clause-value
returns-clause-value c =
    let z : ℤ = c.sext.result in
    let fits : FitsSigned w64 z = record { sfits = c.sext.type_inv } in
    let same : c.cast_unsigned.result ≡ of_z w64 z = c.cast_unsigned.ensures ∙ ap (λ (x : ℤ). of_z w64 x) (to_z-of_z w64 z fits) in
    c.low_bits.ensures.value
    ∙ ap (λ (n : ℕ). n % 2 ^ c.args.w) same
    ∙ narrowed z c.args.w c.requires.width fits
    ∙ ap (λ (x : ℤ). unsigned_int x c.args.w) c.sext.ensures
