use Rattle.std.proofs.Common.{refl}
use Rattle.pred_bits.proofs.AllActive.{below_tested}
use Rattle.pred_bits.proofs.lanes.flags_below.Goals as goal

pub returns : goal.returns
returns c = below_tested c.args.lanes c.args.count c.requires _ _ _ refl refl refl
