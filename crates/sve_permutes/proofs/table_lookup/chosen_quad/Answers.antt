use Rattle.std.proofs.Common.{◌∙◌, ◌<◌, ◌+◌, ◌*◌, ℕ, length, ap, arith}
use Rattle.register_lanes.proofs.PairLanes.{lane_read_small, inside_register}
use Rattle.lane_permute.specs.Slices.{number_at}
use Rattle.sve_effects.specs.Permute.{taken, indexed_place}
use Rattle.emu_model.specs.Lanes.{read_z}
use Rattle.sve_permutes.proofs.table_lookup.chosen_quad.Goals as goal

pub returns : goal.returns
returns g c j b =
    let e = g.T.Lane.BITS in
    let w = g.row.W in
    let v = c.args.vec.now in
    let i = c.args.i in
    let size = g.met.T.Lane.width in
    let t : ℕ → ℕ = number_at g.T.Lane.number c.args.lanes.now in
    let within : j < length c.chosen.new.out = omega arith in
    let inside = inside_register e w v.bits i j size g.met.T.Quad.whole c.requires.within b in
    c.chosen.ensures j within
    ∙ ap (λ x. taken t t 0 0 (indexed_place x (length c.args.lanes.now))) (c.chunk-at.ensures j b ∙ lane_read_small e v.bits (i * w + j) (read_z v c.args.zm) c.z_words-words.result.now size inside c.z_words-words.ensures.words)
