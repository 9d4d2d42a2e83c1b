use Rattle.std.proofs.Common.{ℕ, List, ◌++◌, string_bytes, ap, ◌∙◌}
use Rattle.std.proofs.lemmas.Str.{encode_ascii}
use Rattle.emu_report.proofs.Digits.{digits_more}
use Rattle.debug_texts.proofs.numbers.push_digits.Goals as goal

pub digits-preserved : goal.digits-preserved
digits-preserved c =
    c.in_ok-push.ensures.bytes
    ∙ ap (λ (xs : List ℕ). string_bytes c.digits.text ++ xs) (encode_ascii c.hex_digit.result c.hex_digit.ensures.small)
    ∙ digits_more _ _ c.args.count c.args.v c.digits.k c.hex_digit.result c.digits.invariant c.hex_digit.ensures.value
