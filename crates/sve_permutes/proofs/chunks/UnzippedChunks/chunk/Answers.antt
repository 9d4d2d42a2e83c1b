use Rattle.std.proofs.Common.{◌≡◌, ◌<◌, ◌/◌, ◌^◌, ◌∙◌, ℕ, length, ap, arith}
use Rattle.lane_permute.specs.Slices.{number_at}
use Rattle.sve_effects.specs.LaneLoop.{lane_of}
use Rattle.sve_effects.specs.Permute.{taken, concatenated, uzp_place}
use Rattle.sve_permutes.proofs.ChunkPlaces.{uzp_chunk}
use Rattle.sve_permutes.proofs.chunks.UnzippedChunks.chunk.Goals as goal

pub returns : goal.returns
returns g c j b =
    let e = g.T.Lane.BITS in
    let w = g.row.W in
    let f = g.T.Lane.number in
    let v = c.args.vec.now in
    let s = c.args.self.now in
    let x : ℕ → ℕ = number_at f c.joined_quad-a.result in
    let y : ℕ → ℕ = number_at f c.joined_quad-b.result in
    let count : length c.joined_quad-a.result ≡ g.row.W = omega arith in
    let within : j < length c.uzp.new.out = omega arith in
    c.uzp.ensures j within
    ∙ ap (λ n. taken x y 0 0 (uzp_place s.second n j)) count
    ∙ uzp_chunk (λ k. taken (lane_of e v s.zn) (lane_of e v s.zm) 0 0 (concatenated (v.bits / e) k)) x y (2 ^ e) s.second w c.args.i j c.joined_quad-a.ensures c.joined_quad-b.ensures b
