use Rattle.std.proofs.Common.{◌<◌, ◌≤◌, ◌/◌, ◌%◌, ◌^◌, ◌∙◌, map, length, inl, inr, sym, ap, subst, arith}
use Rattle.std.proofs.lemmas.Bool.{cases_lt}
use Rattle.std.proofs.lemmas.List.{length-map, get_or_past}
use Rattle.emu_model.specs.Lanes.{read_z}
use Rattle.sve_permutes.proofs.LaneArrays.{lane_in_is, lane_behind, lane_small, lanes_few, none_mod}
use Rattle.sve_permutes.proofs.slices.lanes_in.Goals as goal

pub returns-clause-lanes : goal.returns-clause-lanes
returns-clause-lanes g c k =
    let e = g.T.Lane.BITS in
    let f = g.T.Lane.number in
    let v = c.args.vec.now in
    let out = c.unpack.new.out in
    let size = g.met.T.Lane.width in
    let bytes = read_z v c.args.r in
    let l = c.length-length.ensures.length in
    elim (cases_lt k g.row.N) [
      | inl h ↦
          (let there : k < length c.unpack.new.out = omega arith in
          c.unpack.ensures.lanes k (subst (λ n. k < n) c.unpack.ensures.count there) ∙ lane_in_is e v.bits k bytes c.z_words.result.now size l c.z_words.ensures.words c.z_words.ensures.above)
      | inr h ↦
          (let past : length (map g.T.Lane.number c.unpack.new.out) ≤ k = omega (arith, length-map out f) in
          let few : v.bits / e ≤ g.row.N = lanes_few e g.row.N v.bits size l c.requires.whole in
          let behind : v.bits / e ≤ k = omega arith in
          get_or_past (map f out) k 0 past ∙ none_mod e ∙ ap (λ x. x % 2 ^ e) (sym (lane_behind e v.bits k bytes c.z_words.result.now size l c.z_words.ensures.words behind)))
    ]

pub returns-clause-above : goal.returns-clause-above
returns-clause-above g c k h = lane_behind g.T.Lane.BITS c.args.vec.now.bits k (read_z c.args.vec.now c.args.r) c.z_words.result.now g.met.T.Lane.width c.length-length.ensures.length c.z_words.ensures.words h

pub returns-clause-small : goal.returns-clause-small
returns-clause-small g c k = lane_small g.T.Lane.BITS c.args.vec.now.bits k (read_z c.args.vec.now c.args.r) c.z_words.result.now g.met.T.Lane.width c.length-length.ensures.length c.z_words.ensures.words

pub returns-clause-few : goal.returns-clause-few
returns-clause-few g c = lanes_few g.T.Lane.BITS g.row.N c.args.vec.now.bits g.met.T.Lane.width c.length-length.ensures.length c.requires.whole
