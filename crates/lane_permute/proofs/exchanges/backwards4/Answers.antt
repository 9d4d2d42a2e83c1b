use Rattle.std.proofs.Common.{refl}
use Rattle.lane_permute.specs.Places as places
use Rattle.lane_permute.proofs.WordPlaces.{moved_twice}
use Rattle.lane_permute.proofs.exchanges.backwards4.Goals as goal

pub returns : goal.returns
returns c = moved_twice c.args.x c.backwards8-wide.result c.halves.result (places.backwards 8) (places.by_halves 4) (places.backwards 4) c.backwards8-wide.ensures c.halves.ensures refl refl
