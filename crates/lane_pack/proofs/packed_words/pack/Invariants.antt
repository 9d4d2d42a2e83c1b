use Rattle.std.proofs.Common.{◌≡◌, ◌<◌, ◌≤◌, ◌*◌, ◌/◌, ◌^◌, ℕ, map, get_or, length, take, drop}
use Rattle.std.specs.Simd.Lanes.{number_l}
use Rattle.lane_pack.proofs.packed_words.pack.Given as goal

abbrev pub invariant-loop-i : goal.invariant-loop-i
invariant-loop-i g l = record {
  count : length l.words ≡ 32;
  done : (k : ℕ) → k < l.i → get_or l.words k 0 ≡ number_l (2 ^ g.T.Lane.BITS) (map g.T.Lane.number (take (64 / g.T.Lane.BITS) (drop (k * (64 / g.T.Lane.BITS)) l.lanes)));
  rest : (k : ℕ) → l.i ≤ k → get_or l.words k 0 ≡ 0;
}
