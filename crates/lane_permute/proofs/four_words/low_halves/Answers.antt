use Rattle.lane_permute.proofs.FourWords.{halves_bit}
use Rattle.lane_permute.proofs.four_words.low_halves.Goals as goal

pub returns : goal.returns
returns c s h = halves_bit c.args.a c.args.b s h
