use Rattle.std.proofs.Common.{◌∙◌, ◌<◌, ◌+◌, ◌*◌, ◌/◌, ◌%◌, ◌^◌, ℕ, List, map, get_or, ap, ap₂, arith}
use Rattle.emu_model.specs.Lanes.{read_z}
use Rattle.register_lanes.proofs.PairLanes.{zipped3, lane_read_small, inside_register}
use Rattle.register_lanes.proofs.sources.Map3Chunks.chunk.Goals as goal

pub returns : goal.returns
returns g c j b =
    let e = g.T.Lane.BITS in
    let v = c.args.vec.now in
    let s = c.args.self.now in
    let k = c.args.i * g.row.W + j in
    let size = g.met.T.Lane.width in
    let entry : ℕ → ℕ → ℕ → ℕ = g.F.LaneWise3.entry s.op e in
    let of : g.row.T.Denot → g.row.T.Denot → g.row.T.Denot → g.row.T.Denot = λ x y z. g.T.Lane.of_number (g.F.LaneWise3.entry s.op e (g.T.Lane.number x) (g.T.Lane.number y) (g.T.Lane.number z)) in
    let within : c.args.i * g.row.W + j < c.args.vec.now.bits / g.T.Lane.BITS = inside_register e g.row.W v.bits c.args.i j size g.met.T.Quad.whole c.requires.within b in
    let first = c.chunk-a.ensures j b ∙ lane_read_small e v.bits k (read_z v s.za) c.z_words-first.result.now size within c.z_words-first.ensures.words in
    let second = c.chunk-b.ensures j b ∙ lane_read_small e v.bits k (read_z v s.zn) c.z_words-second.result.now size within c.z_words-second.ensures.words in
    let third = c.chunk-c.ensures j b ∙ lane_read_small e v.bits k (read_z v s.zm) c.z_words-third.result.now size within c.z_words-third.ensures.words in
    ap (λ (xs : List g.row.T.Denot). get_or (map g.T.Lane.number xs) j 0) c.chunk-made.ensures
    ∙ zipped3 g.T.Lane.number of entry (2 ^ e) (λ x y z. g.met.T.Lane.of_number_is (entry (g.T.Lane.number x) (g.T.Lane.number y) (g.T.Lane.number z))) c.chunk-a.result c.chunk-b.result c.chunk-c.result j (omega arith) (omega arith) (omega arith)
    ∙ ap₂ (λ (f : ℕ → ℕ) (z : ℕ). f z % 2 ^ e) (ap₂ entry first second) third
