use Rattle.std.proofs.Common.{refl}
use Rattle.lane_permute.specs.Places as places
use Rattle.lane_permute.proofs.WordPlaces.{moved_twice}
use Rattle.lane_permute.proofs.exchanges.in_turn1.Goals as goal

pub returns : goal.returns
returns c = moved_twice c.args.x c.in_turn2-wide.result c.quarters.result (places.in_turn 2) (places.by_quarters 1) (places.in_turn 1) c.in_turn2-wide.ensures c.quarters.ensures refl refl
