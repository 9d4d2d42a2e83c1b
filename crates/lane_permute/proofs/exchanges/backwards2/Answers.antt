use Rattle.std.proofs.Common.{refl}
use Rattle.lane_permute.specs.Places as places
use Rattle.lane_permute.proofs.WordPlaces.{moved_twice}
use Rattle.lane_permute.proofs.exchanges.backwards2.Goals as goal

pub returns : goal.returns
returns c = moved_twice c.args.x c.backwards4-wide.result c.halves.result (places.backwards 4) (places.by_halves 2) (places.backwards 2) c.backwards4-wide.ensures c.halves.ensures refl refl
