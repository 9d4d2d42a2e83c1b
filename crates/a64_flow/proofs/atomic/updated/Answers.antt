use Rattle.std.proofs.Common.{rules}
use Rattle.a64_flow.proofs.atomic.updated.Goals as goal

pub returns-in-Ldadd : goal.returns-in-Ldadd
returns-in-Ldadd c = search rules

pub returns-in-Ldclr : goal.returns-in-Ldclr
returns-in-Ldclr c = search rules

pub returns-in-Ldeor : goal.returns-in-Ldeor
returns-in-Ldeor c = search rules

pub returns-in-Ldset : goal.returns-in-Ldset
returns-in-Ldset c = search rules

pub returns-in-Ldumax : goal.returns-in-Ldumax
returns-in-Ldumax c = search rules

pub returns-in-Ldumin : goal.returns-in-Ldumin
returns-in-Ldumin c = search rules

pub returns-in-Swp : goal.returns-in-Swp
returns-in-Swp c = search rules

pub returns-after-less_or_same : goal.returns-after-less_or_same
returns-after-less_or_same c = search rules

pub returns-after-less_or_same-2 : goal.returns-after-less_or_same-2
returns-after-less_or_same-2 c = search rules

pub overflow_sub-result : goal.overflow_sub-result
overflow_sub-result c = search rules

pub overflow_add-result : goal.overflow_add-result
overflow_add-result c = search rules
