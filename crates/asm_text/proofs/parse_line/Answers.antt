use Rattle.asm_text.proofs.Statements.{line_answered}
use Rattle.asm_text.proofs.parse_line.Goals as goal

pub returns-clause-canonical : goal.returns-clause-canonical
returns-clause-canonical c = line_answered c.args.text.now c.read_line.result c.read_line.ensures.read
