use Rattle.std.proofs.Common.{◌≡◌, ◌∙◌, ◌<◌, ◌+◌, ◌*◌, ◌/◌, ℕ, Bool, List, get_or, inr, refl, sym, ap, ap₂, arith}
use Rattle.sve_effects.specs.Lane.{extended_by}
use Rattle.emu_model.specs.Lanes.{lane, read_z}
use Rattle.register_lanes.proofs.PairLanes.{lane_read_small, inside_register}
use Rattle.lane_tests.proofs.ToldBits.{plain_number, covering}
use Rattle.lane_tests.proofs.told.ComparedWideToldChunks.told.Goals as goal

pub returns : goal.returns
returns g c j b =
    let e = g.T.Lane.BITS in
    let v = c.args.vec.now in
    let s = c.args.self.now in
    let k = c.args.i * g.row.W + j in
    let size = g.met.T.Lane.width in
    let entry : ℕ → ℕ → Bool = g.F.LaneWiseTest2.entry s.op 64 in
    let within : c.args.i * g.row.W + j < c.args.vec.now.bits / g.T.Lane.BITS = inside_register e g.row.W v.bits c.args.i j size g.met.T.Quad.whole c.requires.within b in
    let first = c.chunk-a.ensures j b ∙ lane_read_small e v.bits k (read_z v s.zn) c.z_words-first.result.now size within c.z_words-first.ensures.words in
    let place = covering e g.row.W c.args.i j size g.met.T.Quad.whole b in
    let q : ℕ = j * g.T.Lane.BITS / 64 in
    let inside : c.args.i * 2 + q < c.args.vec.now.bits / 64 = omega (arith, place.0) in
    let second : get_or c.chunk-b.result q 0 ≡ lane 64 (read_z v s.zm) (c.args.i * 2 + q)
    = ap (λ (xs : List ℕ). get_or xs q 0) (sym (plain_number c.chunk-b.result)) ∙ c.chunk-b.ensures q place.0 ∙ lane_read_small 64 v.bits (c.args.i * 2 + q) (read_z v s.zm) c.z_words-second.result.now (inr (inr (inr refl))) inside c.z_words-second.ensures.words in
    c.each_wide.ensures.told j (omega arith) ∙ ap₂ entry (ap (extended_by s.signed 64 e) first) (second ∙ ap (lane 64 (read_z v s.zm)) place.1)
