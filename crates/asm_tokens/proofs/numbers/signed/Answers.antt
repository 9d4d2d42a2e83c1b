use Rattle.std.proofs.Common.{◌≡◌, ◌∙◌, ◌<◌, ◌^◌, ℕ, List, true, slice_range, arith, sym, ap}
use Rattle.std.proofs.lemmas.Int.{ints}
use Rattle.std.specs.Prelude.{pos}
use Rattle.asm_tokens.specs.Layout.{is_sign}
use Rattle.asm_tokens.specs.Numbers.{minus}
use Rattle.asm_tokens.proofs.Signs.{minus_is}
use Rattle.asm_tokens.proofs.numbers.signed.Goals as goal

pub returns-in_ok-value-clause-number : goal.returns-in_ok-value-clause-number
returns-in_ok-value-clause-number c =
    let from : ℕ = c.in_ok-token.token.from in
    let to : ℕ = c.in_ok-token.token.to in
    let mark : is_sign minus (slice_range c.args.text.now from to) ≡ true =
    ap (λ (xs : List ℕ). is_sign minus (slice_range xs from to)) (sym c.as_bytes.ensures.value) ∙ sym c.is_mark.ensures ∙ c.if-is_mark.true in
    let small : c.in_ok-value.value < 2 ^ 127 = c.in_ok-value.ensures.small in
    minus_is c.args.text.now c.args.at from to c.in_ok-value.to _ (pos c.in_ok-value.value) c.in_ok-token.ensures.token mark c.in_ok-value.ensures.number (omega (arith, ints))
