use Rattle.std.proofs.Common.{◌≡◌, ℕ, ℤ, pos, ◌+ℤ◌, ◌*ℤ◌, FitsSigned, to_z, of_z, rules, ap, ◌∙◌}
use Rattle.std.proofs.lemmas.Int.{to_z-of_z}
use Rattle.emu_bits.specs.Numbers.{unsigned_int}
use Rattle.sve_effects.specs.LaneLoop.{every_lane}
use Rattle.sve_effects.specs.VectorData.{index_start, index_step}
use Rattle.std.specs.Int.{w128}
use Rattle.sve_data.proofs.index.index.Goals as goal

pub returns : goal.returns
returns c =
    let start = index_start c.args.op c.args.core.now c.args.x in
    let step = index_step c.args.op c.args.core.now c.args.y in
    let fits_start : FitsSigned w128 c.index_start.result = search rules in
    let fits_step : FitsSigned w128 c.index_step.result = search rules in
    let x : to_z w128 (of_z w128 c.index_start.result) ≡ start = to_z-of_z w128 c.index_start.result fits_start ∙ c.index_start.ensures.value in
    let y : to_z w128 (of_z w128 c.index_step.result) ≡ step = to_z-of_z w128 c.index_step.result fits_step ∙ c.index_step.ensures.value in
    let row = λ (e : ℕ) (x y : ℤ). every_lane e (λ k. unsigned_int (x +ℤ pos k *ℤ y) e) c.args.zd c.args.vec.now in
    c.plain.ensures ∙ ap (λ (n : ℤ). row c.lane_bits.result n (to_z w128 (of_z w128 c.index_step.result))) x ∙ ap (λ (n : ℤ). row c.lane_bits.result start n) y ∙ ap (λ (e : ℕ). row e start step) c.lane_bits.ensures.value
