use Rattle.std.proofs.Common.{◌≡◌, ◌∙◌, ℕ, ◌-◌, ◌^◌, List, Some, slice_range, sym, ap, min, refl}
use Rattle.std.specs.Prelude.{option_map}
use Rattle.asm_tokens.specs.Numbers.{numeral}
use Rattle.asm_tokens.proofs.Signs.{plain_is}
use Rattle.asm_tokens.proofs.numbers.unsigned.Goals as goal

pub returns-clause-number : goal.returns-clause-number
returns-clause-number c =
    let from : ℕ = c.in_ok-token.token.from in
    let to : ℕ = c.in_ok-token.token.to in
    let v : ℕ = c.in_ok-value.value in
    let read : Some v ≡ option_map (λ n. min n (2 ^ 127 - 1)) (numeral (slice_range c.as_bytes.result.now from to)) = c.in_ok-value.ensures.number in
    plain_is c.args.text.now c.args.at from to v _ c.in_ok-token.ensures.token refl
    (sym (read ∙ ap (λ (xs : List ℕ). option_map (λ n. min n (2 ^ 127 - 1)) (numeral (slice_range xs from to))) c.as_bytes.ensures.value))
