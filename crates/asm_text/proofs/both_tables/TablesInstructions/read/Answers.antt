use Rattle.std.proofs.Common.{Err, ap, ◌∙◌}
use Rattle.asm_tokens.specs.declared.fault.AsmFault.{AsmFault}
use Rattle.asm_text.proofs.Statements.{said_targeted, says_label}
use Rattle.asm_text.proofs.both_tables.TablesInstructions.read.Goals as goal

pub returns-in-Ok-clause-target : goal.returns-in-Ok-clause-target
returns-in-Ok-clause-target c = λ t. said_targeted c.args.name.now c.args.rest.now c.in-Ok.line c.in-Ok.ensures.read t

pub returns-in-Err-OutOfMemory-clause-wanting : goal.returns-in-Err-OutOfMemory-clause-wanting
returns-in-Err-OutOfMemory-clause-wanting c =
    λ e. says_label c.args.name.now c.args.rest.now
    (c.read_a64.ensures.wanting (c.in-Err-OutOfMemory.is ∙ ap (λ (f : AsmFault). Err f) c.in-Err-OutOfMemory.field-0-is))
