use Rattle.emu_report.proofs.Lines.{lines_appended}
use Rattle.debug_shows.specs.Changes.{x_change}
use Rattle.debug_shows.proofs.changes.push_xs.Goals as goal

pub registers-preserved : goal.registers-preserved
registers-preserved c = lines_appended _ _ _ (x_change c.args.old.now c.args.new.now) c.registers.k c.registers.invariant (let h = c.in_ok-push_x.ensures in h)
