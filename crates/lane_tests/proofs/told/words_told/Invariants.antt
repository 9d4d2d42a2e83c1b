use Rattle.std.proofs.Common.{◌≡◌, ◌<◌, ◌≤◌, ◌+◌, ◌*◌, ◌/◌, ◌^◌, ℕ, length, get_or}
use Rattle.lane_pack.specs.Bits.{is_set}
use Rattle.emu_model.specs.Lanes.{field_bit}
use Rattle.lane_tests.proofs.told.words_told.Given as goal

abbrev pub invariant-loop-i : goal.invariant-loop-i
invariant-loop-i g l = record {
  count : length l.parts ≡ 16;
  small : (k : ℕ) → get_or l.parts k 0 < 2 ^ 16;
  done : (k s : ℕ) → k < l.i → s < 16 → is_set (get_or l.parts k 0) s ≡ field_bit (g.T.Lane.BITS / 8) (g.L.Tells.answer l.lanes g.T.Lane.BITS l.vec) (16 * k + s);
  rest : (k : ℕ) → l.i ≤ k → get_or l.parts k 0 ≡ 0;
}
