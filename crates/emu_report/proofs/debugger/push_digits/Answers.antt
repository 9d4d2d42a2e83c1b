use Rattle.emu_run.specs.Text.{hex, space}
use Rattle.emu_report.proofs.Pieces.{appended_both}
use Rattle.emu_report.proofs.debugger.push_digits.Goals as goal

pub returns-clause-text : goal.returns-clause-text
returns-clause-text c = appended_both _ _ _ space (hex c.args.digits c.args.v) c.push.ensures.text c.push_hex.ensures.text
