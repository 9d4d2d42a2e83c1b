use Rattle.std.proofs.Common.{◌∙◌, arith}
use Rattle.emu_report.proofs.Digits.{digits_more}
use Rattle.emu_report.proofs.text.Text.push_hex.Goals as goal

pub digits-preserved : goal.digits-preserved
digits-preserved c = record {
  text = c.push.ensures.items ∙ digits_more _ _ c.args.digits c.args.v c.digits.k c.hex_digit.result c.digits.invariant.text c.hex_digit.ensures;
  count = omega arith;
}
