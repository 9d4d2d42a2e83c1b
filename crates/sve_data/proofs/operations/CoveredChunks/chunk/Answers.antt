use Rattle.std.proofs.Common.{◌∙◌, ◌+◌, ◌*◌, ◌/◌, ◌%◌, ◌^◌, ℕ, Bool, cond, map, get_or, inl, inr, ap}
use Rattle.std.proofs.lemmas.Bool.{cases_lt}
use Rattle.sve_effects.specs.LaneLoop.{lane_of}
use Rattle.sve_data.proofs.Places.{lower_set, upper_clear, bits_inside, covered_first, covered_second}
use Rattle.sve_data.proofs.operations.CoveredChunks.chunk.Goals as goal

pub returns : goal.returns
returns g c j b =
    let e = g.T.Lane.BITS in
    let v = c.args.vec.now in
    let s = c.args.self.now in
    let i = c.args.i in
    let w = g.row.W in
    let size = g.met.T.Lane.width in
    let whole = g.met.T.Quad.whole in
    let choice : Bool → ℕ = λ t. cond t (get_or (map g.T.Lane.number c.chunk-lower.result) j 0) (get_or (map g.T.Lane.number c.chunk-upper.result) j 0) in
    let made : ℕ → ℕ = λ n. g.F.LaneWise2.entry s.op e (lane_of e v s.zn (i * w + j)) n % 2 ^ e in
    c.merged.ensures j b ∙ elim (cases_lt (j * (g.T.Lane.BITS / 8)) 8) [
      | inl p ↦ (ap choice (lower_set (j * (e / 8)) p) ∙ c.chunk-lower.ensures j b ∙ ap made (c.lane-first.ensures.value ∙ ap (lane_of 64 v s.zm) (covered_first e w i j size whole p)))
      | inr p ↦ (ap choice (upper_clear (j * (e / 8)) p (bits_inside e w j size whole b)) ∙ c.chunk-upper.ensures j b ∙ ap made (c.lane-second.ensures.value ∙ ap (lane_of 64 v s.zm) (covered_second e w i j size whole p b)))
    ]
