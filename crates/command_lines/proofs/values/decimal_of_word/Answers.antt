use Rattle.std.proofs.Common.{sym, ◌∙◌, ap}
use Rattle.command_model.specs.CommandLine.{is_decimal}
use Rattle.command_lines.proofs.Numerals.{too_great}
use Rattle.command_lines.proofs.values.decimal_of_word.Goals as goal

pub returns-in-Err : goal.returns-in-Err
returns-in-Err c =
    too_great c.args.word.now (ap is_decimal (sym c.as_bytes.ensures.value) ∙ sym c.is_decimal.ensures ∙ c.if-not-is_decimal.false) c.in-Err.ensures.value.0
