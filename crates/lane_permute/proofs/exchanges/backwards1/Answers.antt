use Rattle.std.proofs.Common.{refl}
use Rattle.lane_permute.specs.Places as places
use Rattle.lane_permute.proofs.WordPlaces.{moved_twice}
use Rattle.lane_permute.proofs.exchanges.backwards1.Goals as goal

pub returns : goal.returns
returns c = moved_twice c.args.x c.backwards2-wide.result c.halves.result (places.backwards 2) (places.by_halves 1) (places.backwards 1) c.backwards2-wide.ensures c.halves.ensures refl refl
