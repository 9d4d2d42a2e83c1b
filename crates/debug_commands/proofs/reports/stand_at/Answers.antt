use Rattle.dbg_back.proofs.Streams.{dropped_fine}
use Rattle.debug_commands.proofs.reports.stand_at.Goals as goal

pub returns : goal.returns
returns c = λ start course w. c.go_to.ensures.does.walks start course w (dropped_fine c.go_to.result c.go_to.ensures.write_cause c.go_to.ensures.errors_cause)
