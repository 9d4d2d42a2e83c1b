use Rattle.std.proofs.Common.{rules}
use Rattle.a64_flow.proofs.elements.load_couple.Goals as goal

pub returns-clause-done : goal.returns-clause-done
returns-clause-done c = search rules

pub returns-in_err-first-clause-done : goal.returns-in_err-first-clause-done
returns-in_err-first-clause-done c = search rules

pub returns-in_err-second-clause-done : goal.returns-in_err-second-clause-done
returns-in_err-second-clause-done c = search rules
