use Rattle.sve_gather.proofs.GatheredWords.{two_lanes}
use Rattle.sve_gather.proofs.gather.two_lanes.Goals as goal

pub returns : goal.returns
returns c = λ f i first second. two_lanes f i c.args.low c.args.high first second
