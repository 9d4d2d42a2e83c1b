use Rattle.std.proofs.Common.{◌≡◌, ◌<◌, ◌%◌, ◌^◌, ℕ, false, length, map, get_or}
use Rattle.emu_bits.specs.Fields.{bit}
use Rattle.lane_tests.proofs.told.ones_where.Given as goal

abbrev pub invariant-loop-j : goal.invariant-loop-j
invariant-loop-j g l = record {
  count : length l.lanes ≡ length l.initial.lanes;
  done : (k : ℕ) → k < l.j → get_or (map g.T.Lane.number l.lanes) k 0 ≡ bit (get_or l.told k false) % 2 ^ g.T.Lane.BITS;
}
