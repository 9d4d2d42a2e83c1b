use Rattle.asm_a64.proofs.FormLines.{texts_of_lines}
use Rattle.asm_a64.proofs.texts_of_lines.Goals as goal

pub returns : goal.returns
returns c = texts_of_lines
