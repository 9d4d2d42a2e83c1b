use Rattle.std.proofs.Common.{◌∙◌, sym, ap}
use Rattle.lane_permute.proofs.Written.{number_read}
use Rattle.lane_permute.proofs.by_number.number_of.Goals as goal

pub returns-clause-value : goal.returns-clause-value
returns-clause-value g c = c.to_u64.ensures.value ∙ ap g.T.Lane.number c.index-lanes-k.is ∙ sym (number_read g.T.Lane.number c.args.lanes.now c.args.k c.index-lanes-k.result c.requires)
