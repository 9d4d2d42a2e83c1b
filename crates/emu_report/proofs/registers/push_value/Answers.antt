use Rattle.emu_report.specs.WordDigits.{word_digits}
use Rattle.emu_report.proofs.Lines.{value_appended}
use Rattle.emu_report.proofs.registers.push_value.Goals as goal

pub returns : goal.returns
returns c = value_appended _ _ _ _ (word_digits c.args.digits c.args.words.now) c.push.ensures.text c.push_words.ensures.text c.push-2.ensures.text
