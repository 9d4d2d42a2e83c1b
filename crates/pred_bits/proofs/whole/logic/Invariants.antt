use Rattle.std.proofs.Common.{◌≡◌, ◌<◌, ℕ, length}
use Rattle.lane_model.specs.Predicate.{logic_bit}
use Rattle.pred_bits.proofs.Made.{bit_in}
use Rattle.pred_bits.proofs.whole.logic.Given as goal

abbrev pub invariant-loop-i : goal.invariant-loop-i
invariant-loop-i l = record {
  count : length l.words ≡ 4;
  done : (j i : ℕ) → j < l.i → i < 64 → bit_in l.words j i ≡ logic_bit l.op (bit_in l.g-inside.words j i) (bit_in l.a-inside.words j i) (bit_in l.b-inside.words j i);
}
