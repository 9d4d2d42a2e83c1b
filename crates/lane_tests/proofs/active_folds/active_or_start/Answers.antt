use Rattle.std.proofs.Common.{◌∙◌, ◌<◌, ◌+◌, ◌*◌, ◌/◌, ◌%◌, ◌^◌, ap}
use Rattle.std.proofs.Math.Nat.{mod-eq_of_lt}
use Rattle.emu_model.specs.Lanes.{read_z}
use Rattle.register_lanes.proofs.PairLanes.{lane_read_small, inside_register}
use Rattle.lane_tests.proofs.Reductions.{picked_as}
use Rattle.lane_tests.proofs.active_folds.active_or_start.Goals as goal

pub returns-clause-lanes : goal.returns-clause-lanes
returns-clause-lanes g c j b =
    let e = g.T.Lane.BITS in
    let v = c.args.vec.now in
    let k = c.args.i * g.row.W + j in
    let size = g.met.T.Lane.width in
    let within : c.args.i * g.row.W + j < c.args.vec.now.bits / g.T.Lane.BITS = inside_register e g.row.W v.bits c.args.i j size g.met.T.Quad.whole c.requires b in
    let new = c.chunk-new.ensures j b ∙ lane_read_small e v.bits k (read_z v c.args.zn) c.z_words-words.result.now size within c.z_words-words.ensures.words in
    let small : g.F.Reduction.start c.args.op.now g.T.Lane.BITS < 2 ^ g.T.Lane.BITS = g.met.F.Reduction.start_small c.args.op.now e size in
    let old = c.chunk-old.ensures j b ∙ ap (λ n. n % 2 ^ g.T.Lane.BITS) (c.start_of-start.ensures ∙ ap (g.F.Reduction.start c.args.op.now) c.BITS.ensures) ∙ mod-eq_of_lt small in
    c.merged.ensures j b
    ∙ picked_as _ _ _ _ _ _ (c.part_of.ensures g.T.Lane.BITS g.row.W j size g.met.T.Quad.whole b) new old
