use Rattle.std.proofs.Common.{refl}
use Rattle.lane_permute.specs.Places as places
use Rattle.lane_permute.proofs.WordPlaces.{moved_twice}
use Rattle.lane_permute.proofs.exchanges.backwards8.Goals as goal

pub returns : goal.returns
returns c =
    moved_twice c.args.x c.halves-mid.result c.halves.result (λ s. places.by_halves 32 (places.by_halves 16 s)) (places.by_halves 8) (places.backwards 8)
    (moved_twice c.args.x c.halves-far.result c.halves-mid.result (places.by_halves 32) (places.by_halves 16) (λ s. places.by_halves 32 (places.by_halves 16 s)) c.halves-far.ensures c.halves-mid.ensures refl refl) c.halves.ensures refl refl
