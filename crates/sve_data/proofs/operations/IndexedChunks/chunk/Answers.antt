use Rattle.std.proofs.Common.{◌∙◌, ◌<◌, ◌+◌, ◌*◌, ◌/◌, ◌%◌, ◌^◌, ℕ, List, map, get_or, sym, ap, ap₂, arith}
use Rattle.std.proofs.Math.Nat.{mod-eq_of_lt}
use Rattle.emu_model.specs.Lanes.{lane, read_z}
use Rattle.register_lanes.proofs.PairLanes.{zipped3, lane_read_small, inside_register}
use Rattle.sve_data.proofs.Places.{indexed_is}
use Rattle.sve_data.proofs.operations.IndexedChunks.chunk.Goals as goal

pub returns : goal.returns
returns g c j b =
    let e = g.T.Lane.BITS in
    let v = c.args.vec.now in
    let s = c.args.self.now in
    let w = g.row.W in
    let k = c.args.i * g.row.W + j in
    let size = g.met.T.Lane.width in
    let whole = g.met.T.Quad.whole in
    let entry : ℕ → ℕ → ℕ → ℕ = g.F.LaneWise3.entry s.op e in
    let of : g.row.T.Denot → g.row.T.Denot → g.row.T.Denot → g.row.T.Denot = λ x y z. g.T.Lane.of_number (g.F.LaneWise3.entry s.op e (g.T.Lane.number x) (g.T.Lane.number y) (g.T.Lane.number z)) in
    let within : c.args.i * g.row.W + j < c.args.vec.now.bits / g.T.Lane.BITS = inside_register e w v.bits c.args.i j size whole c.requires.within b in
    let first = c.chunk-a.ensures j b ∙ lane_read_small e v.bits k (read_z v s.za) c.z_words-first.result.now size within c.z_words-first.ensures.words in
    let second = c.chunk-b.ensures j b ∙ lane_read_small e v.bits k (read_z v s.zn) c.z_words-second.result.now size within c.z_words-second.ensures.words in
    let n = c.lane-n.result in
    let third =
    c.chunk-c.ensures j b
    ∙ ap (λ d. n % 2 ^ d) (sym c.BITS.ensures)
    ∙ mod-eq_of_lt c.lane-n.ensures.small
    ∙ c.lane-n.ensures.value
    ∙ ap (λ d. lane d (read_z v s.zm) (c.args.i * w + s.i % w)) c.BITS.ensures
    ∙ ap (lane e (read_z v s.zm)) (indexed_is e w c.args.i j s.i size whole b) in
    ap (λ (xs : List g.row.T.Denot). get_or (map g.T.Lane.number xs) j 0) c.chunk-made.ensures
    ∙ zipped3 g.T.Lane.number of entry (2 ^ e) (λ x y z. g.met.T.Lane.of_number_is (entry (g.T.Lane.number x) (g.T.Lane.number y) (g.T.Lane.number z))) c.chunk-a.result c.chunk-b.result c.chunk-c.result j (omega arith) (omega arith) (omega arith)
    ∙ ap₂ (λ (f : ℕ → ℕ) (z : ℕ). f z % 2 ^ e) (ap₂ entry first second) third
