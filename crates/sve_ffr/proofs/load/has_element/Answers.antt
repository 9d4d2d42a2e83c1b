use Rattle.std.proofs.Common.{nat_lt, ap, ◌∙◌}
use Rattle.sve_ffr.proofs.Loaded.{some_listed}
use Rattle.sve_ffr.proofs.load.has_element.Goals as goal

pub returns-clause-value : goal.returns-clause-value
returns-clause-value c = λ r. ap (nat_lt 0) c.len.ensures.value ∙ some_listed r c.args.list.now.bytes c.args.list.now.lanes.items
