use Rattle.std.proofs.Common.{◌≡◌, ◌<◌, ◌*◌, ℕ, false}
use Rattle.lane_model.specs.WordBits.{bit_of}
use Rattle.pred_bits.proofs.pred_words.first_alone.Given as goal

abbrev pub invariant-loop-i : goal.invariant-loop-i
invariant-loop-i l = (b : ℕ) → b < 64 * l.i → bit_of l.words b ≡ false
