use Rattle.std.proofs.Common.{◌<◌, ◌%◌, ◌^◌, ◌∙◌, length, ap, arith}
use Rattle.lane_permute.specs.Slices.{number_at}
use Rattle.sve_effects.specs.LaneLoop.{lane_of}
use Rattle.sve_permutes.proofs.ChunkPlaces.{even_quad, trn_chunk}
use Rattle.sve_permutes.proofs.chunks.TransposedChunks.chunk.Goals as goal

pub trn-requires-clause-even : goal.trn-requires-clause-even
trn-requires-clause-even g c = ap (λ n. n % 2) (omega arith) ∙ even_quad g.T.Lane.BITS g.row.W g.met.T.Lane.width g.met.T.Quad.whole

pub returns : goal.returns
returns g c j b =
    let e = g.T.Lane.BITS in
    let w = g.row.W in
    let f = g.T.Lane.number in
    let v = c.args.vec.now in
    let s = c.args.self.now in
    let within : j < length c.trn.new.out = omega arith in
    c.trn.ensures j within
    ∙ trn_chunk (lane_of e v s.zn) (lane_of e v s.zm) (number_at f c.chunk-a.result) (number_at f c.chunk-b.result) (2 ^ e) s.second w c.args.i j (even_quad e w g.met.T.Lane.width g.met.T.Quad.whole) c.chunk-a.ensures c.chunk-b.ensures b
