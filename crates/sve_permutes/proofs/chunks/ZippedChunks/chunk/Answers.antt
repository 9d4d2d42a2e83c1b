use Rattle.std.proofs.Common.{◌≡◌, ◌<◌, ◌+◌, ◌*◌, ◌/◌, ◌%◌, ◌^◌, ◌∙◌, ℕ, nat_eq, length, ap, arith}
use Rattle.emu_bits.specs.Fields.{bit}
use Rattle.lane_permute.specs.Slices.{number_at}
use Rattle.sve_effects.specs.LaneLoop.{lane_of}
use Rattle.sve_effects.specs.Permute.{taken, zip_place}
use Rattle.sve_permutes.proofs.ChunkPlaces.{even_quad, quads_of_lanes, odd_half, zip_chunk}
use Rattle.sve_permutes.proofs.chunks.ZippedChunks.chunk.Goals as goal

pub zip-requires-clause-even : goal.zip-requires-clause-even
zip-requires-clause-even g c = ap (λ n. n % 2) (omega arith) ∙ even_quad g.T.Lane.BITS g.row.W g.met.T.Lane.width g.met.T.Quad.whole

pub returns : goal.returns
returns g c j b =
    let e = g.T.Lane.BITS in
    let w = g.row.W in
    let f = g.T.Lane.number in
    let v = c.args.vec.now in
    let s = c.args.self.now in
    let x : ℕ → ℕ = number_at f c.chunk-a.result in
    let y : ℕ → ℕ = number_at f c.chunk-b.result in
    let h = c.half_of-half.result in
    let bits : c.bits.result ≡ v.bits = c.bits.ensures.value ∙ c.length.ensures.value in
    let size = g.met.T.Lane.width in
    let whole = g.met.T.Quad.whole in
    let count : length c.chunk-a.result ≡ g.row.W = omega arith in
    let within : j < length c.zip.new.out = omega arith in
    c.zip.ensures j within
    ∙ ap (λ n. taken x y 0 0 (zip_place (nat_eq (h % 2) 1) n j)) count
    ∙ zip_chunk (lane_of e v s.zn) (lane_of e v s.zm) x y (2 ^ e) (nat_eq (h % 2) 1) s.second w (v.bits / 128) c.args.i h j (v.bits / e) (even_quad e w size whole) (quads_of_lanes e w v.bits size whole c.length.ensures.length)
    (c.half_of-half.ensures.value ∙ ap (λ q. bit s.second * (q / 128) + c.args.i) bits) (odd_half h) c.chunk-a.ensures c.chunk-b.ensures b
