use Rattle.lane_permute.proofs.FourWords.{seconds_bit}
use Rattle.lane_permute.proofs.four_words.second_fields.Goals as goal

pub returns : goal.returns
returns c s h = seconds_bit c.args.w c.args.skip s c.low_halves.result c.args.low c.args.high c.apart-first.result c.apart-second.result c.requires.field h c.apart-first.ensures c.apart-second.ensures (c.low_halves.ensures s h)
