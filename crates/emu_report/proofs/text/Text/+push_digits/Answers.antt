use Rattle.std.proofs.Common.{arith}
use Rattle.std.proofs.lemmas.Grind.{common_steps}
use Rattle.std.proofs.lemmas.Fmt.{decimal_digit, decimal_step}
use Rattle.emu_report.proofs.Decimals.{length_one_digit, length_digits}
use Rattle.emu_report.proofs.text.Text.+push_digits.Goals as goal

pub push_digits-requires : goal.push_digits-requires
push_digits-requires t c = grind (arith, length_digits)

pub push-requires : goal.push-requires
push-requires t c = grind (arith, length_digits, length_one_digit, common_steps)

pub returns : goal.returns
returns t c = grind (arith, decimal_digit, decimal_step, common_steps)
