use Rattle.std.proofs.Common.{inr}
use Rattle.asm_a64.specs.Table.{a64_patterns}
use Rattle.asm_a64.proofs.StatementLines.{ends_in_label, read_from, refused_from}
use Rattle.asm_a64.proofs.statements.read_a64.Goals as goal

pub returns-in-Ok-clause-read : goal.returns-in-Ok-clause-read
unfolding a64_patterns
returns-in-Ok-clause-read c = read_from c.args.name.now c.args.rest.now c.in-Ok.found c.line_of.result c.in-Ok.ensures.read c.line_of.ensures.insn c.line_of.ensures.target

pub returns-in-Ok-clause-refused : goal.returns-in-Ok-clause-refused
returns-in-Ok-clause-refused c = refused_from c.args.name.now c.args.rest.now c.line_of.result c.line_of.ensures.memory

pub returns-in-Err-clause-refused : goal.returns-in-Err-clause-refused
unfolding a64_patterns
returns-in-Err-clause-refused c = inr (record { refusal = c.in-Err.refusal; refused = c.in-Err.ensures.read; fault = c.fault.ensures })

pub returns-in-Ok-clause-wanting : goal.returns-in-Ok-clause-wanting
unfolding a64_patterns
returns-in-Ok-clause-wanting c = λ e. ends_in_label c.args.name.now c.args.rest.now c.in-Ok.found c.in-Ok.ensures.read (c.line_of.ensures.wanting e)
