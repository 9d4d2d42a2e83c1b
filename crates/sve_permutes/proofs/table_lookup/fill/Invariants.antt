use Rattle.std.proofs.Common.{◌≡◌, ◌<◌, ◌≤◌, ◌+◌, ◌*◌, ◌/◌, ℕ, get_or}
use Rattle.emu_model.specs.Lists.{each}
use Rattle.sve_effects.specs.LaneLoop.{lane_of}
use Rattle.sve_effects.specs.Permute.{taken, indexed_place}
use Rattle.vec_regs.specs.Packed.{packed}
use Rattle.sve_permutes.proofs.table_lookup.fill.Given as goal

abbrev pub invariant-loop-i : goal.invariant-loop-i
invariant-loop-i g l = record {
  done : (k : ℕ) → k < 2 * l.i
      → get_or l.words k 0 ≡ packed g.T.Lane.BITS (each (64 / g.T.Lane.BITS) (λ j. taken (lane_of g.T.Lane.BITS l.vec l.fn.zn) (lane_of g.T.Lane.BITS l.vec l.fn.zn) 0 0 (indexed_place (lane_of g.T.Lane.BITS l.vec l.zm (k * (64 / g.T.Lane.BITS) + j)) (l.vec.bits / g.T.Lane.BITS))));
  rest : (k : ℕ) → 2 * l.i ≤ k → get_or l.words k 0 ≡ 0;
}
