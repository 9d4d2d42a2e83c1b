use Rattle.std.proofs.Common.{◌≡◌, ◌∙◌, ℕ, List, true, slice_range, sym, ap}
use Rattle.asm_tokens.specs.Layout.{is_sign, hash}
use Rattle.asm_tokens.proofs.Signs.{hash_found}
use Rattle.asm_tokens.proofs.numbers.number.Goals as goal

pub returns-then-is_mark-clause-number : goal.returns-then-is_mark-clause-number
returns-then-is_mark-clause-number c =
    let from : ℕ = c.in_ok-token.token.from in
    let to : ℕ = c.in_ok-token.token.to in
    let mark : is_sign hash (slice_range c.args.text.now from to) ≡ true =
    ap (λ (xs : List ℕ). is_sign hash (slice_range xs from to)) (sym c.as_bytes.ensures.value) ∙ sym c.is_mark.ensures ∙ c.if-is_mark.true in
    hash_found c.args.text.now c.args.at from to c.signed.result c.in_ok-token.ensures.token mark c.signed.ensures.number
