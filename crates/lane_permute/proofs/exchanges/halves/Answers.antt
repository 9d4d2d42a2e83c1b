use Rattle.std.proofs.Common.{◌≡◌, refl, arith}
use Rattle.lane_permute.specs.Places.{by_halves}
use Rattle.lane_permute.proofs.WordPlaces.{comes_by}
use Rattle.lane_permute.proofs.exchanges.halves.Goals as goal

pub returns-in-32 : goal.returns-in-32
returns-in-32 c = rw c.in-32.is (comes_by c.exchanged.result c.args.x 0 4294967295 32 (by_halves 32) c.exchanged.ensures refl)

pub returns-in-16 : goal.returns-in-16
returns-in-16 c = rw c.in-16.is (comes_by c.exchanged-in-16.result c.args.x 0 281470681808895 16 (by_halves 16) c.exchanged-in-16.ensures refl)

pub returns-in-8 : goal.returns-in-8
returns-in-8 c = rw c.in-8.is (comes_by c.exchanged-in-8.result c.args.x 0 71777214294589695 8 (by_halves 8) c.exchanged-in-8.ensures refl)

pub returns-in-4 : goal.returns-in-4
returns-in-4 c = rw c.in-4.is (comes_by c.exchanged-in-4.result c.args.x 0 1085102592571150095 4 (by_halves 4) c.exchanged-in-4.ensures refl)

pub returns-in-2 : goal.returns-in-2
returns-in-2 c = rw c.in-2.is (comes_by c.exchanged-in-2.result c.args.x 0 3689348814741910323 2 (by_halves 2) c.exchanged-in-2.ensures refl)

pub returns-in_default : goal.returns-in_default
returns-in_default c =
    let is : c.args.by ≡ 1 = omega arith in
    rw is (comes_by c.exchanged-in_default.result c.args.x 0 6148914691236517205 1 (by_halves 1) c.exchanged-in_default.ensures refl)
