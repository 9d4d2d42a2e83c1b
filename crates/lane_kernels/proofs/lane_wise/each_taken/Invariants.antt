use Rattle.std.proofs.Common.{◌≡◌, ℕ, drop}
use Rattle.lane_kernels.specs.Chunks.{taken}
use Rattle.lane_kernels.proofs.lane_wise.each_taken.Given as goal

abbrev pub invariant-loop-k : goal.invariant-loop-k
invariant-loop-k g l =
    let f = λ (n : ℕ) (a : g.row.T.Denot). g.F.LaneWiseFold.step l.op g.T.Lane.BITS n (g.T.Lane.number a) in
    taken f l.so_far (drop l.k l.mask) (drop l.k l.a) ≡ taken f l.fn.start l.mask l.a
