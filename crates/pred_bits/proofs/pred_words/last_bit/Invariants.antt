use Rattle.std.proofs.Common.{◌≡◌, ◌<◌, ◌≤◌, ◌*◌, ℕ, false}
use Rattle.lane_model.specs.WordBits.{bit_of}
use Rattle.pred_bits.proofs.pred_words.last_bit.Given as goal

abbrev pub invariant-loop-i : goal.invariant-loop-i
invariant-loop-i l = (b : ℕ) → 64 * l.i ≤ b → b < 256 → bit_of l.words b ≡ false
