use Rattle.asm_text.proofs.Statements.{statements_law, lines_law}
use Rattle.asm_text.proofs.Steps.{aimed_law}
use Rattle.asm_text.proofs.what_is_read_is_canonical.Goals as goal

pub returns-clause-statements : goal.returns-clause-statements
returns-clause-statements c = statements_law

pub returns-clause-lines : goal.returns-clause-lines
returns-clause-lines c = lines_law

pub returns-clause-aimed : goal.returns-clause-aimed
returns-clause-aimed c = aimed_law
