use Rattle.std.proofs.Common.{◌≡◌, ℕ, ◌/◌, ◌%◌, ap, ◌∙◌}
use Rattle.std.proofs.Math.Nat.{mod-eq_of_lt}
use Rattle.sve_effects.specs.LaneLoop.{every_lane, lane_of}
use Rattle.sve_effects.specs.VectorData.{indexed_lane}
use Rattle.sve_data.proofs.operations.plain_indexed.Goals as goal

pub returns : goal.returns
returns g c =
    let e = c.args.e in
    let v = c.args.vec.now in
    let i : c.args.i % (128 / c.args.e) ≡ c.args.i = mod-eq_of_lt c.requires.within in
    c.plain.ensures
    ∙ ap (λ (i : ℕ). every_lane e (λ k. g.F.LaneWise3.entry c.args.op e (lane_of e v c.args.zda k) (lane_of e v c.args.zn k) (lane_of e v c.args.zm (indexed_lane e i k))) c.args.zda v) i
