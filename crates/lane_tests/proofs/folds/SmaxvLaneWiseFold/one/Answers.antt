use Rattle.std.proofs.Common.{◌%◌, ◌^◌, ap, ◌∙◌}
use Rattle.std.specs.Int.{int_max}
use Rattle.emu_bits.specs.Numbers.{signed, unsigned_int}
use Rattle.lane_tests.specs.Kept.{smax_of_lane}
use Rattle.lane_tests.proofs.folds.SmaxvLaneWiseFold.one.Goals as goal

pub returns : goal.returns
returns g c =
    let e = g.T.Lane.BITS in
    let a = g.T.Lane.number c.args.a in
    c.to_u64.ensures.value
    ∙ c.one.ensures
    ∙ ap (λ x. unsigned_int (int_max (signed x g.T.Lane.BITS) (signed (g.T.Lane.number c.args.a) g.T.Lane.BITS)) g.T.Lane.BITS % 2 ^ g.T.Lane.BITS) c.from_u64.ensures
    ∙ smax_of_lane e c.args.so_far a
