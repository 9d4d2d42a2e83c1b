use Rattle.std.proofs.Common.{◌∙◌, ◌<◌, ◌+◌, ◌*◌, ◌/◌, ℕ, Bool, false, List, get_or, refl, ap, ap₂, arith}
use Rattle.emu_model.specs.Lanes.{read_z}
use Rattle.register_lanes.proofs.PairLanes.{lane_read_small, inside_register}
use Rattle.lane_tests.proofs.ToldBits.{tested}
use Rattle.lane_tests.proofs.told.ComparedNumberToldChunks.told.Goals as goal

pub returns : goal.returns
returns g c j b =
    let e = g.T.Lane.BITS in
    let v = c.args.vec.now in
    let s = c.args.self.now in
    let k = c.args.i * g.row.W + j in
    let size = g.met.T.Lane.width in
    let entry : ℕ → ℕ → Bool = g.F.LaneWiseTest2.entry s.op e in
    let of : g.row.T.Denot → g.row.T.Denot → Bool = λ x y. g.F.LaneWiseTest2.entry s.op e (g.T.Lane.number x) (g.T.Lane.number y) in
    let within : c.args.i * g.row.W + j < c.args.vec.now.bits / g.T.Lane.BITS = inside_register e g.row.W v.bits c.args.i j size g.met.T.Quad.whole c.requires.within b in
    let first = c.chunk-a.ensures j b ∙ lane_read_small e v.bits k (read_z v s.zn) c.z_words-first.result.now size within c.z_words-first.ensures.words in
    ap (λ (bs : List Bool). get_or bs j false) c.chunk.ensures
    ∙ tested g.T.Lane.number of entry (λ x y. refl) c.chunk-a.result c.chunk-b.result j (omega arith) (omega arith)
    ∙ ap₂ entry first (c.chunk-b.ensures j b)
