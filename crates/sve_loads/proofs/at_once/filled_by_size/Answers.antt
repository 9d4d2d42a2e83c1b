use Rattle.std.proofs.Common.{sym, ◌∙◌}
use Rattle.sve_loads.proofs.TakenAtOnce.{other_size}
use Rattle.sve_loads.proofs.at_once.filled_by_size.Goals as goal

pub returns-clause-other : goal.returns-clause-other
returns-clause-other c = λ none. other_size c.args.size c.args.msz (λ e. c.if-get.false (c.get.ensures.value ∙ e ∙ sym c.get-2.ensures.value))
