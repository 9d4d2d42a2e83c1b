use Rattle.std.proofs.Common.{◌≡◌, ◌<◌, ◌≤◌, ◌+◌, ◌-◌, ◌*◌, ◌/◌, ◌%◌, ◌^◌, ◌∙◌, ℕ, sym, ap, subst, arith}
use Rattle.sve_effects.specs.LaneLoop.{lane_of}
use Rattle.sve_permutes.proofs.ChunkPlaces.{quads_of_lanes, joined_low, joined_high, low_room, high_room, high_spot}
use Rattle.sve_permutes.proofs.chunks.joined_quad.Goals as goal

pub returns-then-at-quads : goal.returns-then-at-quads
returns-then-at-quads g c t b =
    let e = g.T.Lane.BITS in
    let w = g.row.W in
    let v = c.args.vec.now in
    let a : ℕ → ℕ = lane_of e v c.args.zn in
    let z : ℕ → ℕ = lane_of e v c.args.zm in
    let n = quads_of_lanes e w v.bits g.met.T.Lane.width g.met.T.Quad.whole c.length.ensures.length in
    let below : c.args.at < c.args.vec.now.bits / 128 = omega arith in
    let inside : c.args.at * g.row.W + t < c.args.vec.now.bits / g.T.Lane.BITS = subst (λ n. c.args.at * w + t < n) (sym n) (low_room c.args.at (v.bits / 128) w t below b) in
    c.chunk.ensures t b ∙ ap (λ x. x % 2 ^ e) (joined_low a z (v.bits / e) (c.args.at * w + t) inside)

pub returns-else-at-quads : goal.returns-else-at-quads
returns-else-at-quads g c t b =
    let e = g.T.Lane.BITS in
    let w = g.row.W in
    let v = c.args.vec.now in
    let a : ℕ → ℕ = lane_of e v c.args.zn in
    let z : ℕ → ℕ = lane_of e v c.args.zm in
    let q : ℕ = v.bits / 128 in
    let n = quads_of_lanes e w v.bits g.met.T.Lane.width g.met.T.Quad.whole c.length.ensures.length in
    let bits : c.bits-quads.result ≡ v.bits = c.bits-quads.ensures.value ∙ c.length.ensures.value in
    let above : c.args.vec.now.bits / 128 ≤ c.args.at = omega arith in
    let behind : c.args.vec.now.bits / g.T.Lane.BITS ≤ c.args.at * g.row.W + t = subst (λ n. n ≤ c.args.at * w + t) (sym n) (high_room c.args.at q w t above) in
    let spot : (c.args.at - c.args.vec.now.bits / 128) * g.row.W + t ≡ c.args.at * g.row.W + t - c.args.vec.now.bits / g.T.Lane.BITS
    = high_spot c.args.at q w t above ∙ ap (λ n. c.args.at * w + t - n) (sym n) in
    c.chunk-else-at-quads.ensures t b
    ∙ ap (λ q. z ((c.args.at - q / 128) * w + t) % 2 ^ e) bits
    ∙ ap (λ x. x % 2 ^ e) (joined_high a z (v.bits / e) (c.args.at * w + t) ((c.args.at - q) * w + t) behind spot)
