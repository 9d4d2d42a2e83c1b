use Rattle.std.proofs.Common.{◌≡◌, ◌≤◌, ◌*◌}
use Rattle.lane_model.specs.WordBits.{bit_of}
use Rattle.lane_model.specs.FirstLast.{count_where}
use Rattle.pred_bits.proofs.pred_words.count_bits.Given as goal

abbrev pub invariant-loop-i : goal.invariant-loop-i
invariant-loop-i l = record {
  is : l.n ≡ count_where (64 * l.i) (bit_of l.words);
  few : l.n ≤ 64 * l.i;
}
