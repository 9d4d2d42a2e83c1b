use Rattle.sve_gather.proofs.GatheredWords.{one_lane}
use Rattle.sve_gather.proofs.gather.one_lane.Goals as goal

pub returns : goal.returns
returns c = λ f i is. one_lane f i c.args.lane c.ranges.lane.fits is
