use Rattle.std.proofs.Common.{refl}
use Rattle.lane_permute.specs.Places as places
use Rattle.lane_permute.proofs.WordPlaces.{moved_twice}
use Rattle.lane_permute.proofs.exchanges.apart4.Goals as goal

pub returns : goal.returns
returns c = moved_twice c.args.x c.quarters-near.result c.apart8.result (places.by_quarters 4) (places.apart 8) (places.apart 4) c.quarters-near.ensures c.apart8.ensures refl refl
