use Rattle.asm_sve.proofs.FoundLine.{found_read, found_refused}
use Rattle.asm_sve.proofs.statements.read_sve.Goals as goal

pub returns-in-Err-clause-refused : goal.returns-in-Err-clause-refused
returns-in-Err-clause-refused c = found_refused c.args.name.now c.args.rest.now c.in-Err.refusal c.fault.result c.in-Err.ensures.read c.fault.ensures

pub returns-in-Some-clause-read : goal.returns-in-Some-clause-read
returns-in-Some-clause-read c = found_read c.args.name.now c.args.rest.now c.in-Ok.found c.in-Some.insn c.in-Ok.ensures.read c.in-Some.ensures.form
