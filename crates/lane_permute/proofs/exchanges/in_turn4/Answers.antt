use Rattle.std.proofs.Common.{refl}
use Rattle.lane_permute.specs.Places as places
use Rattle.lane_permute.proofs.WordPlaces.{moved_twice}
use Rattle.lane_permute.proofs.exchanges.in_turn4.Goals as goal

pub returns : goal.returns
returns c = moved_twice c.args.x c.in_turn8-wide.result c.quarters.result (places.in_turn 8) (places.by_quarters 4) (places.in_turn 4) c.in_turn8-wide.ensures c.quarters.ensures refl refl
