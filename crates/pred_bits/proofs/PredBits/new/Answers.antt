use Rattle.pred_bits.proofs.Views.{zeros_shown}
use Rattle.pred_bits.proofs.PredBits.new.Goals as goal

pub returns : goal.returns
returns c = zeros_shown c.args.lanes 4
