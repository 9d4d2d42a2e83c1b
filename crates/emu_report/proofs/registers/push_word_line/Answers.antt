use Rattle.emu_run.specs.Text.{hex}
use Rattle.emu_report.proofs.Lines.{line_appended}
use Rattle.emu_report.proofs.registers.push_word_line.Goals as goal

pub returns-clause-text : goal.returns-clause-text
returns-clause-text c = line_appended _ _ _ _ (hex 16 c.args.v) c.push.ensures.text c.push_word.ensures.text
