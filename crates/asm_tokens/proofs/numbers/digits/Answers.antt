use Rattle.std.proofs.Common.{◌≡◌, ◌<◌, ℕ, get_or, arith, ap, subst, sym, ◌∙◌}
use Rattle.std.specs.Char.{digit_value}
use Rattle.asm_tokens.proofs.Digits.{read_digit}
use Rattle.asm_tokens.proofs.numbers.digits.Goals as goal

pub loop-c-preserved : goal.loop-c-preserved
loop-c-preserved c =
    let byte : ℕ = get_or c.args.bytes.now c.loop-c.c-index 0 in
    let d : ℕ = c.in_ok-digit.digit in
    let same : d ≡ digit_value byte = c.in_ok-digit.ensures.value.1 ∙ ap digit_value c.from.ensures in
    let small : d < c.args.base = subst (λ (n : ℕ). n < c.args.base) (sym c.in_ok-digit.ensures.value.1) c.in_ok-digit.ensures.value.0 in
    read_digit c.args.base c.args.bytes.now c.loop-c.c-index c.loop-c.value c.min-value.result d c.loop-c-test.true (omega arith) c.loop-c.invariant same small (cc)
