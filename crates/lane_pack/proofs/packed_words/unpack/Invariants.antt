use Rattle.std.proofs.Common.{◌≡◌, ◌<◌, ◌*◌, ℕ, map, get_or, length}
use Rattle.lane_pack.specs.Bits.{lane_in}
use Rattle.lane_pack.proofs.packed_words.unpack.Given as goal

abbrev pub invariant-loop-i : goal.invariant-loop-i
invariant-loop-i g l = record {
  count : length l.out ≡ length l.initial.out;
  lanes : (k : ℕ) → k < l.i * l.count → get_or (map g.T.Lane.number l.out) k 0 ≡ lane_in g.T.Lane.BITS l.words k;
}
