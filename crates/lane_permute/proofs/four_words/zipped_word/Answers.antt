use Rattle.std.proofs.Common.{arith}
use Rattle.lane_model.specs.WordBits.{bit_of}
use Rattle.lane_permute.proofs.FourWords.{zip_bit}
use Rattle.lane_permute.proofs.four_words.zipped_word.Goals as goal

pub returns : goal.returns
returns c s h =
    zip_bit c.args.w c.args.from s c.in_turn.result c.low_halves-pair.result c.bits_from-low.result c.bits_from-high.result (bit_of c.args.a.now) (bit_of c.args.b.now) c.requires h
    (λ s q. c.bits_from-low.ensures s (omega arith)) (λ s q. c.bits_from-high.ensures s (omega arith)) c.low_halves-pair.ensures c.in_turn.ensures
