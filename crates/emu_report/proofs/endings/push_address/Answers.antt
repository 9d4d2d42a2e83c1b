use Rattle.std.proofs.Common.{codes}
use Rattle.emu_run.specs.Text.{hex}
use Rattle.emu_report.proofs.Pieces.{appended_both}
use Rattle.emu_report.proofs.endings.push_address.Goals as goal

pub returns-clause-text : goal.returns-clause-text
returns-clause-text c = appended_both _ _ _ (codes "0x") (hex 16 c.args.address) c.push.ensures.text c.push_hex.ensures.text
