use Rattle.std.proofs.Common.{◌≡◌, refl, arith}
use Rattle.lane_permute.specs.Places.{by_quarters}
use Rattle.lane_permute.proofs.WordPlaces.{comes_by}
use Rattle.lane_permute.proofs.exchanges.quarters.Goals as goal

pub returns-in-16 : goal.returns-in-16
returns-in-16 c = rw c.in-16.is (comes_by c.exchanged.result c.args.x 18446462598732906495 4294901760 16 (by_quarters 16) c.exchanged.ensures refl)

pub returns-in-8 : goal.returns-in-8
returns-in-8 c = rw c.in-8.is (comes_by c.exchanged-in-8.result c.args.x 18374687579166474495 280375465148160 8 (by_quarters 8) c.exchanged-in-8.ensures refl)

pub returns-in-4 : goal.returns-in-4
returns-in-4 c = rw c.in-4.is (comes_by c.exchanged-in-4.result c.args.x 17298308644996116495 67555025218437360 4 (by_quarters 4) c.exchanged-in-4.ensures refl)

pub returns-in-2 : goal.returns-in-2
returns-in-2 c = rw c.in-2.is (comes_by c.exchanged-in-2.result c.args.x 14106333703424951235 868082074056920076 2 (by_quarters 2) c.exchanged-in-2.ensures refl)

pub returns-in_default : goal.returns-in_default
returns-in_default c =
    let is : c.args.by ≡ 1 = omega arith in
    rw is (comes_by c.exchanged-in_default.result c.args.x 11068046444225730969 2459565876494606882 1 (by_quarters 1) c.exchanged-in_default.ensures refl)
