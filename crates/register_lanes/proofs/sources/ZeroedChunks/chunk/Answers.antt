use Rattle.std.proofs.Common.{◌∙◌, ◌^◌}
use Rattle.register_lanes.proofs.PairLanes.{picked}
use Rattle.register_lanes.proofs.sources.ZeroedChunks.chunk.Goals as goal

pub returns : goal.returns
returns g c j b =
    c.merged.ensures j b
    ∙ picked _ _ _ _ _ _ (2 ^ g.T.Lane.BITS) (c.part_of.ensures g.T.Lane.BITS g.row.W j g.met.T.Lane.width g.met.T.Quad.whole b) (c.chunk-new.ensures j b) (c.chunk-old.ensures j b)
