use Rattle.std.proofs.Common.{arith}
use Rattle.lane_permute.proofs.FourWords.{first_some, first_all}
use Rattle.lane_permute.proofs.four_words.first_bits.Goals as goal

pub returns-then-n-lt64 : goal.returns-then-n-lt64
returns-then-n-lt64 c s h = first_some c.args.word c.args.n s (omega arith) h

pub returns-else-n-lt64 : goal.returns-else-n-lt64
returns-else-n-lt64 c s h = first_all c.args.word c.args.n s (omega arith) h
