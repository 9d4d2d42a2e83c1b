use Rattle.std.proofs.Common.{arith}
use Rattle.pred_bits.proofs.Powers.{top_power}
use Rattle.pred_bits.proofs.patterns.greatest_power.Goals as goal

pub returns-clause-value : goal.returns-clause-value
returns-clause-value c = (top_power c.args.n c.requires (omega arith)).0

pub returns-clause-within : goal.returns-clause-within
returns-clause-within c = (top_power c.args.n c.requires (omega arith)).1
