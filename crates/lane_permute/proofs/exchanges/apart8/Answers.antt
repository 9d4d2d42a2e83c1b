use Rattle.std.proofs.Common.{refl}
use Rattle.lane_permute.specs.Places as places
use Rattle.lane_permute.proofs.WordPlaces.{moved_twice}
use Rattle.lane_permute.proofs.exchanges.apart8.Goals as goal

pub returns : goal.returns
returns c = moved_twice c.args.x c.quarters-near.result c.quarters.result (places.by_quarters 8) (places.by_quarters 16) (places.apart 8) c.quarters-near.ensures c.quarters.ensures refl refl
