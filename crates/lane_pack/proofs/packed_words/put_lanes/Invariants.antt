use Rattle.std.proofs.Common.{◌≡◌, ◌<◌, ◌+◌, ◌*◌, ◌/◌, ◌%◌, ◌^◌, ℕ, map, get_or, length}
use Rattle.lane_pack.proofs.packed_words.put_lanes.Given as goal

abbrev pub invariant-loop-j : goal.invariant-loop-j
invariant-loop-j g l = record {
  count : length l.out ≡ length l.initial.out;
  lanes : (j : ℕ) → j < l.j → get_or (map g.T.Lane.number l.out) (l.at + j) 0 ≡ l.word / 2 ^ (j * g.T.Lane.BITS) % 2 ^ g.T.Lane.BITS;
  before : (k : ℕ) → k < l.at → get_or (map g.T.Lane.number l.out) k 0 ≡ get_or (map g.T.Lane.number l.initial.out) k 0;
}
