use Rattle.std.proofs.Common.{◌≡◌, ◌<◌, ◌-◌, ◌*◌, ◌^◌, map, take, drop}
use Rattle.std.specs.Simd.Lanes.{number_l}
use Rattle.lane_pack.proofs.packed_words.word_of.Given as goal

abbrev pub invariant-loop-j : goal.invariant-loop-j
invariant-loop-j g l = record {
  is : l.so_far ≡ number_l (2 ^ g.T.Lane.BITS) (map g.T.Lane.number (drop l.j (take l.n (drop l.at l.lanes))));
  small : l.so_far < 2 ^ ((l.n - l.j) * g.T.Lane.BITS);
}
