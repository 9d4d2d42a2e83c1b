use Rattle.std.proofs.Common.{refl}
use Rattle.lane_permute.specs.Places as places
use Rattle.lane_permute.proofs.WordPlaces.{moved_twice}
use Rattle.lane_permute.proofs.exchanges.in_turn8.Goals as goal

pub returns : goal.returns
returns c = moved_twice c.args.x c.quarters-far.result c.quarters.result (places.by_quarters 16) (places.by_quarters 8) (places.in_turn 8) c.quarters-far.ensures c.quarters.ensures refl refl
