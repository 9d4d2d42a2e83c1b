use Rattle.std.proofs.Common.{◌≡◌, arith}
use Rattle.lane_permute.proofs.FourWords.{even8, even4, even2, even1}
use Rattle.lane_permute.proofs.four_words.even_fields.Goals as goal

pub returns-in-8 : goal.returns-in-8
returns-in-8 c s h = rw c.in-8.is (even8 s h)

pub returns-in-4 : goal.returns-in-4
returns-in-4 c s h = rw c.in-4.is (even4 s h)

pub returns-in-2 : goal.returns-in-2
returns-in-2 c s h = rw c.in-2.is (even2 s h)

pub returns-in_default : goal.returns-in_default
returns-in_default c s h = let is : c.args.w ≡ 1 = omega arith in rw is (even1 s h)
