use Rattle.std.proofs.Common.{◌≡◌, ◌<◌, ◌*◌, ◌/◌, ℕ, false, length, map, get_or}
use Rattle.sve_effects.specs.Lane.{extended_by}
use Rattle.lane_tests.proofs.told.each_wide.Given as goal

abbrev pub invariant-loop-j : goal.invariant-loop-j
invariant-loop-j g l = record {
  count : length l.told ≡ length l.initial.told;
  done : (k : ℕ) → k < l.j → get_or l.told k false ≡ g.F.LaneWiseTest2.entry l.op 64 (extended_by l.fn.signed 64 g.T.Lane.BITS (get_or (map g.T.Lane.number l.a) k 0)) (get_or l.fn.b (k * g.T.Lane.BITS / 64) 0);
}
