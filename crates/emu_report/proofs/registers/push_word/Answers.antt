use Rattle.emu_run.specs.Text.{hex}
use Rattle.emu_report.proofs.Lines.{value_appended}
use Rattle.emu_report.proofs.registers.push_word.Goals as goal

pub returns-clause-text : goal.returns-clause-text
returns-clause-text c = value_appended _ _ _ _ (hex 16 c.args.v) c.push.ensures.text c.push_hex.ensures.text c.push-2.ensures.text
