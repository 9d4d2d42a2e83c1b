use Rattle.std.proofs.Common.{◌≡◌, ◌<◌, ◌+◌, ◌-◌, ◌*◌, ◌/◌, ◌%◌, ◌^◌, ◌∙◌, ℕ, length, sym, ap, arith}
use Rattle.lane_permute.specs.Slices.{number_at}
use Rattle.sve_effects.specs.LaneLoop.{lane_of}
use Rattle.sve_permutes.proofs.ChunkPlaces.{quads_of_lanes, rev_spot}
use Rattle.sve_permutes.proofs.chunks.ReversedChunks.chunk.Goals as goal

pub returns : goal.returns
returns g c j b =
    let e = g.T.Lane.BITS in
    let w = g.row.W in
    let f = g.T.Lane.number in
    let v = c.args.vec.now in
    let s = c.args.self.now in
    let a : ℕ → ℕ = lane_of e v s.zn in
    let i = c.args.i in
    let bits : c.bits.result ≡ v.bits = c.bits.ensures.value ∙ c.length.ensures.value in
    let count : length c.chunk-a.result ≡ g.row.W = omega arith in
    let within : j < length c.rev.new.out = omega arith in
    let there : g.row.W - 1 - j < g.row.W = omega arith in
    c.rev.ensures j within
    ∙ ap (λ n. number_at f c.chunk-a.result (n - 1 - j)) count
    ∙ c.chunk-a.ensures (w - 1 - j) there
    ∙ ap (λ q. a ((q / 128 - 1 - i) * w + (w - 1 - j)) % 2 ^ e) bits
    ∙ ap (λ k. a k % 2 ^ e) (rev_spot (v.bits / 128) w i j c.requires.within b)
    ∙ ap (λ n. a (n - 1 - (i * w + j)) % 2 ^ e) (sym (quads_of_lanes e w v.bits g.met.T.Lane.width g.met.T.Quad.whole c.length.ensures.length))
