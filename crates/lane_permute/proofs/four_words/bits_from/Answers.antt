use Rattle.std.proofs.Common.{arith}
use Rattle.lane_permute.proofs.FourWords.{bits_whole, bits_part}
use Rattle.lane_permute.proofs.four_words.bits_from.Goals as goal

pub returns-then-at-eq0 : goal.returns-then-at-eq0
returns-then-at-eq0 c s h = bits_whole c.args.words.now c.args.at s c.word-low.result c.word-low.ensures (omega arith) h

pub returns-else-at-eq0 : goal.returns-else-at-eq0
returns-else-at-eq0 c s h = bits_part c.args.words.now c.args.at s c.word-low.result c.word-high.result (omega arith) c.word-low.ensures c.word-high.ensures (omega arith) h
