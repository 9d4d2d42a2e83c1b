use Rattle.asm_sve.proofs.FormLines.{texts_of_lines}
use Rattle.asm_sve.proofs.texts_of_lines.Goals as goal

pub returns : goal.returns
returns c = texts_of_lines
