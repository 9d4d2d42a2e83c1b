use Rattle.std.proofs.Common.{ap}
use Rattle.emu_model.specs.State.{Vectors}
use Rattle.dbg_model.specs.Session.{lanes_line}
use Rattle.emu_report.proofs.Puts.{puts_equal}
use Rattle.dbg_core.proofs.lines.put_machine_lanes.Goals as goal

pub returns-clause-bytes : goal.returns-clause-bytes
returns-clause-bytes g c = puts_equal _ _ _ _ _ (ap (λ (v : Vectors). lanes_line v c.args.k c.args.size) c.vec.ensures) c.put_lanes.ensures.bytes
