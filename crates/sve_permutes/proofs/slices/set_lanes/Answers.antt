use Rattle.std.proofs.Common.{◌≤◌, ◌*◌, ◌/◌, ◌^◌, ◌∙◌, length, sym, subst}
use Rattle.register_lanes.proofs.RegisterWords.{register_is}
use Rattle.sve_permutes.proofs.LaneArrays.{lanes_fit, word_room, word_past, word_is, word_behind}
use Rattle.sve_permutes.proofs.slices.set_lanes.Goals as goal

pub pack-requires : goal.pack-requires
pack-requires g c = subst (λ n. n * g.T.Lane.BITS ≤ 2048) (sym c.requires) (lanes_fit g.T.Lane.BITS c.args.vec.now.bits g.met.T.Lane.width c.length-length.ensures.length)

pub set_z_words-requires : goal.set_z_words-requires
set_z_words-requires g c i h =
    let e = g.T.Lane.BITS in
    let past : length c.args.lanes.now ≤ i * (64 / e) = subst (λ n. n ≤ i * (64 / e)) (sym c.requires) (word_past e c.args.vec.now.bits i g.met.T.Lane.width c.length-length.ensures.length h) in
    c.pack.ensures i ∙ word_behind g.T.Lane.number (2 ^ e) (64 / e) (i * (64 / e)) c.args.lanes.now past

pub returns : goal.returns
returns g c f is =
    let e = g.T.Lane.BITS in
    let v = c.args.vec.now in
    c.set_z_words.ensures
    ∙ register_is e c.args.zd v f c.pack.new.words g.met.T.Lane.width c.length-length.ensures.length
    (λ i h. c.pack.ensures i ∙ word_is g.T.Lane.number e (64 / e) (v.bits / e) i f c.args.lanes.now c.requires (word_room e v.bits i g.met.T.Lane.width h) is)
