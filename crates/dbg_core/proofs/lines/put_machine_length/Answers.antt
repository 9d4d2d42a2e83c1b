use Rattle.std.proofs.Common.{ap}
use Rattle.dbg_model.specs.Session.{length_line}
use Rattle.emu_report.proofs.Puts.{puts_equal}
use Rattle.dbg_core.proofs.lines.put_machine_length.Goals as goal

pub returns-clause-bytes : goal.returns-clause-bytes
returns-clause-bytes g c = puts_equal _ _ _ _ _ (ap length_line c.vec.ensures) c.put_length.ensures.bytes
