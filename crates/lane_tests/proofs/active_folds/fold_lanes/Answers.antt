use Rattle.std.proofs.Common.{◌≡◌, ◌∙◌, ◌<◌, ◌+◌, ◌*◌, ℕ, Bool, length, refl, sym, ap, arith}
use Rattle.sve_effects.specs.LaneLoop.{folded, is_active, lane_of}
use Rattle.lane_tests.proofs.Reductions.{all_folded, none_folded}
use Rattle.lane_tests.proofs.active_folds.fold_lanes.Goals as goal

pub loop-i-init : goal.loop-i-init
loop-i-init g c =
    let e = g.T.Lane.BITS in
    let v = c.args.vec.now in
    let s = c.args.op.now in
    let size = g.met.T.Lane.width in
    let on : ℕ → Bool = is_active e v c.args.pg in
    let step : ℕ → ℕ → ℕ = g.F.LaneWiseFold.step s e in
    let start : ℕ = g.F.Reduction.start s e in
    let value : ℕ → ℕ = lane_of e v c.args.zn in
    let takes : ℕ → g.row.T.Denot → ℕ = λ n x. g.F.LaneWiseFold.step c.args.op.now e n (g.T.Lane.number x) in
    let law : (n : ℕ) (x : g.row.T.Denot) → takes n x ≡ step n (g.T.Lane.number x) = λ n x. refl in
    let z : 0 * g.row.W ≡ 0 = omega arith in
    c.start_of-so_far.ensures
    ∙ ap (g.F.Reduction.start s) c.BITS.ensures
    ∙ sym (ap (folded on step start value) z
    ∙ none_folded g.T.Lane.number takes step law on start value (g.met.F.Reduction.start_kept s e size) (λ n x. g.met.F.Reduction.step_kept s e n x size))

pub loop-i-preserved : goal.loop-i-preserved
loop-i-preserved g c =
    let e = g.T.Lane.BITS in
    let v = c.args.vec.now in
    let s = c.args.op.now in
    let i = c.loop-i.i in
    let w = g.row.W in
    let size = g.met.T.Lane.width in
    let on : ℕ → Bool = is_active e v c.args.pg in
    let step : ℕ → ℕ → ℕ = g.F.LaneWiseFold.step s e in
    let start : ℕ = g.F.Reduction.start s e in
    let value : ℕ → ℕ = lane_of e v c.args.zn in
    let takes : ℕ → g.row.T.Denot → ℕ = λ n x. g.F.LaneWiseFold.step c.args.op.now e n (g.T.Lane.number x) in
    let law : (n : ℕ) (x : g.row.T.Denot) → takes n x ≡ step n (g.T.Lane.number x) = λ n x. refl in
    let count : length c.active_or_start-lanes.result ≡ g.row.W = c.active_or_start-lanes.ensures.count in
    let next : c.loop-i.i * g.row.W + length c.active_or_start-lanes.result ≡ (c.loop-i.i + 1) * g.row.W = omega arith in
    c.chunk-so_far.ensures
    ∙ all_folded g.T.Lane.number takes step law on start value (g.met.F.Reduction.start_kept s e size) (λ n x. g.met.F.Reduction.step_kept s e n x size)
    (i * w) c.loop-i.so_far c.all_lanes-all.result c.active_or_start-lanes.result (c.all_lanes-all.ensures.count ∙ sym count)
    (λ j b. let d : j < g.row.W = omega arith in c.all_lanes-all.ensures.flags j d)
    c.loop-i.invariant
    (λ j b. let d : j < g.row.W = omega arith in c.active_or_start-lanes.ensures.lanes j d)
    ∙ ap (folded on step start value) next
