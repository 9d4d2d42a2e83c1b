use Rattle.std.proofs.Common.{◌≡◌, ◌<◌, ◌+◌, ◌*◌, ◌/◌, ◌%◌, ◌&&◌, ℕ, nat_eq, length}
use Rattle.emu_bits.specs.Flags.{size_of}
use Rattle.pred_bits.proofs.Made.{bit_in}
use Rattle.pred_bits.proofs.pred_words.starts_in_both.Given as goal

abbrev pub invariant-loop-i : goal.invariant-loop-i
invariant-loop-i l = record {
  count : length l.words ≡ 4;
  done : (j s : ℕ) → j < l.i → s < 64 → bit_in l.words j s ≡ (nat_eq ((64 * j + s) % (size_of l.fn.e / 8)) 0 && (bit_in l.g j s && bit_in l.a j s));
}
