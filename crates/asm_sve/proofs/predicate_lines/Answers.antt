-- The program's patterns are the table's, computed.
use Rattle.asm_sve.specs.Opened.{texts_open}
use Rattle.std.proofs.Common.{refl}
use Rattle.asm_sve.proofs.predicate_lines.Goals as goal

pub returns : goal.returns
unfolding texts_open
returns c = refl
