-- The program's patterns are the table's, computed.
use Rattle.std.proofs.Common.{refl}
use Rattle.asm_a64.specs.Flow.{flow_lines}
use Rattle.asm_a64.specs.Opened.{texts_open}
use Rattle.asm_a64.proofs.flow_lines.Goals as goal

pub returns : goal.returns
unfolding texts_open flow_lines
returns c = refl
