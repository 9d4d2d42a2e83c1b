use Rattle.std.proofs.Common.{◌≡◌, ℕ, Bool, false, cond, get_or, sym, ap, ◌∙◌, arith}
use Rattle.lane_kernels.proofs.Zips.{taken_more}
use Rattle.lane_kernels.proofs.lane_wise.each_taken.Goals as goal
use Rattle.lane_kernels.proofs.lane_wise.each_taken.Goals.{then-mask-k, else-mask-k}

pub loop-k-preserved : goal.loop-k-preserved
loop-k-preserved g c =
    let f = λ (n : ℕ) (a : g.row.T.Denot). g.F.LaneWiseFold.step c.args.op.now g.T.Lane.BITS n (g.T.Lane.number a) in
    let s = c.loop-k.so_far in
    let x = c.index-a-k.result in
    let next : c.if-mask-k.so_far ≡ cond (get_or c.args.mask.now c.loop-k.k false) (f s x) s
    = elim c.if-mask-k.branch [
      | then-mask-k w ↦ w.so_far-is ∙ w.one-so_far.ensures ∙ ap (λ (b : Bool). cond b (f s x) s) (sym w.if-mask-k.true)
      | else-mask-k w ↦ w.so_far-is ∙ ap (λ (b : Bool). cond b (f s x) s) (sym w.if-mask-k.false)
    ] in
    taken_more f s c.if-mask-k.so_far c.loop-k.k _ c.args.mask.now c.args.a.now x (omega arith) (omega arith) c.index-a-k.is next c.loop-k.invariant
