use Rattle.pred_bits.proofs.WordMasks.{byte_starts, half_starts, word_starts, double_starts}
use Rattle.pred_bits.proofs.pred_words.starts.Goals as goal

pub returns-in-B : goal.returns-in-B
returns-in-B c s h = rw c.in-B.is (byte_starts s h)

pub returns-in-H : goal.returns-in-H
returns-in-H c s h = rw c.in-H.is (half_starts s h)

pub returns-in-S : goal.returns-in-S
returns-in-S c s h = rw c.in-S.is (word_starts s h)

pub returns-in-D : goal.returns-in-D
returns-in-D c s h = rw c.in-D.is (double_starts s h)
