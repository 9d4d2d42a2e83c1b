use Rattle.std.proofs.Common.{◌∙◌, ◌/◌}
use Rattle.vec_regs.proofs.Views.{zero_word}
use Rattle.register_lanes.proofs.RegisterWords.{register_is}
use Rattle.sve_effects.specs.LaneLoop.{lane_of}
use Rattle.sve_effects.specs.Permute.{taken, indexed_place}
use Rattle.sve_permutes.proofs.table_lookup.looked_up.Goals as goal

pub fill-requires-clause-zeros : goal.fill-requires-clause-zeros
fill-requires-clause-zeros g c k = zero_word 32 k

pub returns : goal.returns
returns g c =
    let e = g.T.Lane.BITS in
    let v = c.args.vec.now in
    c.set_z_words.ensures
    ∙ register_is e c.args.zd v (λ k. taken (lane_of e v c.args.zn) (lane_of e v c.args.zn) 0 0 (indexed_place (lane_of e v c.args.zm k) (v.bits / e))) c.fill.new.words g.met.T.Lane.width c.length-length.ensures.length c.fill.ensures.words
