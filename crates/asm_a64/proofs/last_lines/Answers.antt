-- The program's patterns are the table's, computed.
use Rattle.std.proofs.Common.{refl}
use Rattle.asm_a64.specs.BitMoves.{last_lines}
use Rattle.asm_a64.specs.Aliases.{aliases}
use Rattle.asm_a64.specs.Opened.{texts_open}
use Rattle.asm_a64.proofs.last_lines.Goals as goal

pub returns : goal.returns
unfolding texts_open last_lines aliases
returns c = refl
