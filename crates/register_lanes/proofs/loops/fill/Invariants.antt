use Rattle.std.proofs.Common.{◌≡◌, ◌<◌, ◌≤◌, ◌+◌, ◌*◌, ◌/◌, ℕ, get_or}
use Rattle.emu_model.specs.Lists.{each}
use Rattle.vec_regs.specs.Packed.{packed}
use Rattle.register_lanes.proofs.loops.fill.Given as goal

abbrev pub invariant-loop-i : goal.invariant-loop-i
invariant-loop-i g l = record {
  done : (k : ℕ) → k < 2 * l.i → get_or l.words k 0 ≡ packed g.T.Lane.BITS (each (64 / g.T.Lane.BITS) (λ j. g.L.Gives.value l.lanes g.T.Lane.BITS l.vec (k * (64 / g.T.Lane.BITS) + j)));
  rest : (k : ℕ) → 2 * l.i ≤ k → get_or l.words k 0 ≡ 0;
}
