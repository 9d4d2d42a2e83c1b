use Rattle.std.proofs.Common.{refl}
use Rattle.lane_permute.specs.Places as places
use Rattle.lane_permute.proofs.WordPlaces.{moved_twice}
use Rattle.lane_permute.proofs.exchanges.in_turn2.Goals as goal

pub returns : goal.returns
returns c = moved_twice c.args.x c.in_turn4-wide.result c.quarters.result (places.in_turn 4) (places.by_quarters 2) (places.in_turn 2) c.in_turn4-wide.ensures c.quarters.ensures refl refl
