use Rattle.std.proofs.Common.{◌∙◌, arith}
use Rattle.emu_report.proofs.Digits.{character_more}
use Rattle.emu_report.proofs.text.Text.push_words.Goals as goal

pub digits-preserved : goal.digits-preserved
digits-preserved c = record {
  text = c.push.ensures.items ∙ character_more _ _ _ c.digits.k c.hex_digit.result c.digits.invariant.text c.hex_digit.ensures;
  count = omega arith;
}
