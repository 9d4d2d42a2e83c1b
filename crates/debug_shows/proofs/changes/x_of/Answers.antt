use Rattle.emu_report.proofs.Core.{x_read}
use Rattle.debug_shows.proofs.changes.x_of.Goals as goal

pub returns : goal.returns
returns c = x_read c.args.core.now c.args.k c.at.result c.x.result c.requires c.at.ensures c.x.ensures
