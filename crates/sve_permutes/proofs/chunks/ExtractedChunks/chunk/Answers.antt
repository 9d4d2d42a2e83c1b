use Rattle.std.proofs.Common.{◌≡◌, ◌<◌, ◌+◌, ◌*◌, ◌/◌, ◌%◌, ◌^◌, ◌∙◌, ℕ, nat_lt, if◌then◌else◌, sym, ap, subst, arith}
use Rattle.lane_permute.specs.Slices.{number_at}
use Rattle.sve_effects.specs.LaneLoop.{lane_of}
use Rattle.sve_effects.specs.Permute.{taken, concatenated}
use Rattle.sve_permutes.proofs.ChunkPlaces.{ext_chunk, quads_of_lanes, quad_below, some_lanes, some_product}
use Rattle.sve_permutes.proofs.chunks.ExtractedChunks.chunk.Goals as goal

pub start_of-start-requires : goal.start_of-start-requires
start_of-start-requires g c =
    let e = g.T.Lane.BITS in
    let v = c.args.vec.now in
    let n = quads_of_lanes e g.row.W v.bits g.met.T.Lane.width g.met.T.Quad.whole c.length.ensures.length in
    let some : 0 < c.args.vec.now.bits / 128 = omega arith in
    let lanes : 0 < c.args.vec.now.bits / g.T.Lane.BITS = subst (λ n. 0 < n) (sym n) (some_product (v.bits / 128) g.row.W some (some_lanes g.row.W e g.met.T.Quad.whole)) in
    subst (λ x. 0 < c.bits.result / x) (sym c.BITS.ensures) (subst (λ b. 0 < b / e) (sym (c.bits.ensures.value ∙ c.length.ensures.value)) lanes)

pub joined_quad-a-requires : goal.joined_quad-a-requires
joined_quad-a-requires g c =
    let e = g.T.Lane.BITS in
    let v = c.args.vec.now in
    let n = quads_of_lanes e g.row.W v.bits g.met.T.Lane.width g.met.T.Quad.whole c.length.ensures.length in
    let below = subst (λ m. c.start_of-start.result < m) (ap (λ x. c.bits.result / x) c.BITS.ensures ∙ ap (λ b. b / e) (c.bits.ensures.value ∙ c.length.ensures.value) ∙ n) c.start_of-start.ensures.within in
    let room : c.args.i + c.start_of-start.result / g.row.W + 1 < 2 * (c.args.vec.now.bits / 128) = quad_below g.row.W (v.bits / 128) c.args.i c.start_of-start.result (some_lanes g.row.W e g.met.T.Quad.whole) below c.requires.within in
    (omega arith, omega arith)

pub joined_quad-b-requires : goal.joined_quad-b-requires
joined_quad-b-requires g c =
    let e = g.T.Lane.BITS in
    let v = c.args.vec.now in
    let n = quads_of_lanes e g.row.W v.bits g.met.T.Lane.width g.met.T.Quad.whole c.length.ensures.length in
    let below = subst (λ m. c.start_of-start.result < m) (ap (λ x. c.bits.result / x) c.BITS.ensures ∙ ap (λ b. b / e) (c.bits.ensures.value ∙ c.length.ensures.value) ∙ n) c.start_of-start.ensures.within in
    let room : c.args.i + c.start_of-start.result / g.row.W + 1 < 2 * (c.args.vec.now.bits / 128) = quad_below g.row.W (v.bits / 128) c.args.i c.start_of-start.result (some_lanes g.row.W e g.met.T.Quad.whole) below c.requires.within in
    (omega arith, omega arith)

pub returns : goal.returns
returns g c j b =
    let e = g.T.Lane.BITS in
    let w = g.row.W in
    let f = g.T.Lane.number in
    let v = c.args.vec.now in
    let s = c.args.self.now in
    let x : ℕ → ℕ = number_at f c.joined_quad-a.result in
    let y : ℕ → ℕ = number_at f c.joined_quad-b.result in
    let n : c.start_of-start.result ≡ (if nat_lt s.from (v.bits / e) then s.from else 0) = c.start_of-start.ensures.value ∙ ap (λ x. if nat_lt s.from (c.bits.result / x) then s.from else 0) c.BITS.ensures ∙ ap (λ n. if nat_lt s.from (n / e) then s.from else 0) (c.bits.ensures.value ∙ c.length.ensures.value) in
    c.window.ensures j b
    ∙ ext_chunk (λ k. taken (lane_of e v s.zn) (lane_of e v s.zm) 0 0 (concatenated (v.bits / e) k)) x y (2 ^ e) w c.args.i c.start_of-start.result j c.joined_quad-a.ensures c.joined_quad-b.ensures b
    ∙ ap (λ u. taken (lane_of e v s.zn) (lane_of e v s.zm) 0 0 (concatenated (v.bits / e) (u + (c.args.i * w + j))) % 2 ^ e) n
