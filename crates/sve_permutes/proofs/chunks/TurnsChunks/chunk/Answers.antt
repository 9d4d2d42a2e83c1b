use Rattle.std.proofs.Common.{◌≡◌, ◌<◌, ◌%◌, ◌^◌, ◌∙◌, ℕ, false, length, ap, arith}
use Rattle.lane_permute.specs.Slices.{number_at}
use Rattle.sve_effects.specs.Permute.{taken, zip_place}
use Rattle.sve_permutes.proofs.ChunkPlaces.{even_quad, turn_chunk}
use Rattle.sve_permutes.proofs.chunks.TurnsChunks.chunk.Goals as goal

pub zip-requires-clause-even : goal.zip-requires-clause-even
zip-requires-clause-even g c = ap (λ n. n % 2) (omega arith) ∙ even_quad g.T.Lane.BITS g.row.W g.met.T.Lane.width g.met.T.Quad.whole

pub returns : goal.returns
returns g c j b =
    let e = g.T.Lane.BITS in
    let w = g.row.W in
    let f = g.T.Lane.number in
    let s = c.args.self.now in
    let x : ℕ → ℕ = number_at f c.chunk-a.result in
    let y : ℕ → ℕ = number_at f c.chunk-b.result in
    let count : length c.chunk-a.result ≡ g.row.W = omega arith in
    let within : j < length c.zip.new.out = omega arith in
    c.zip.ensures j within
    ∙ ap (λ n. taken x y 0 0 (zip_place false n j)) count
    ∙ turn_chunk x y x y (2 ^ e) s.low s.high w c.args.i j (even_quad e w g.met.T.Lane.width g.met.T.Quad.whole) c.chunk-a.ensures c.chunk-b.ensures b
