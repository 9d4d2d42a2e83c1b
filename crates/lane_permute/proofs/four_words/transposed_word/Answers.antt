use Rattle.lane_permute.proofs.FourWords.{trn_bit}
use Rattle.lane_permute.proofs.four_words.transposed_word.Goals as goal

pub returns : goal.returns
returns c s h = trn_bit c.args.w c.args.skip s c.even_fields-even.result c.args.a c.args.b c.requires.field h c.even_fields-even.ensures
