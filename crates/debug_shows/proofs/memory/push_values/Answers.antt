use Rattle.emu_report.proofs.Lines.{lines_appended}
use Rattle.debug_shows.specs.Memory.{one_value}
use Rattle.debug_shows.proofs.memory.push_values.Goals as goal

pub values-preserved : goal.values-preserved
values-preserved c = lines_appended _ _ _ (one_value c.args.symbols.now c.args.mem.now.memory c.args.notation c.args.unit c.args.address) c.values.k c.values.invariant (let h = c.in_ok-push_one.ensures in h)
