use Rattle.std.proofs.Common.{◌<◌, ◌^◌, ◌∙◌, length, arith}
use Rattle.lane_permute.specs.Slices.{number_at}
use Rattle.sve_effects.specs.LaneLoop.{lane_of}
use Rattle.sve_permutes.proofs.ChunkPlaces.{insr_chunk}
use Rattle.sve_permutes.proofs.chunks.InsertedChunks.chunk.Goals as goal

pub returns : goal.returns
returns g c j b =
    let e = g.T.Lane.BITS in
    let w = g.row.W in
    let f = g.T.Lane.number in
    let v = c.args.vec.now in
    let s = c.args.self.now in
    let within : j < length c.insr.new.out = omega arith in
    c.insr.ensures j within
    ∙ insr_chunk (lane_of e v s.zn) (number_at f c.chunk-a.result) s.scalar (f c.lane_below-low.result) (2 ^ e) w c.args.i j c.chunk-a.ensures c.lane_below-low.ensures b
