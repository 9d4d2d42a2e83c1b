use Rattle.tool_debug.proofs.Endings.{handed_on}
use Rattle.tool_debug.proofs.command.table_text.Goals as goal

pub returns-in_err-bytes : goal.returns-in_err-bytes
returns-in_err-bytes g c = handed_on _ c.from_residual.result c.from_residual.ensures.1 c.in_err-bytes.ensures
