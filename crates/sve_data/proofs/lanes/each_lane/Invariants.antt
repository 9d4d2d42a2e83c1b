use Rattle.std.proofs.Common.{◌≡◌, ◌<◌, ◌+◌, ◌%◌, ◌^◌, ℕ, map, get_or, length}
use Rattle.sve_data.proofs.lanes.each_lane.Given as goal

abbrev pub invariant-loop-j : goal.invariant-loop-j
invariant-loop-j g l = record {
  count : length l.out ≡ length l.initial.out;
  lanes : (j : ℕ) → j < l.j → get_or (map g.T.Lane.number l.out) j 0 ≡ g.L.Gives.value l.lanes g.T.Lane.BITS l.vec (l.from + j) % 2 ^ g.T.Lane.BITS;
}
