use Rattle.std.proofs.Common.{◌%◌, ◌^◌, ap, ◌∙◌}
use Rattle.std.specs.Int.{int_min}
use Rattle.emu_bits.specs.Numbers.{signed, unsigned_int}
use Rattle.lane_ops.proofs.Readings.{read_again}
use Rattle.lane_ops.proofs.sums.SminLaneWise2.with_number.Goals as goal

pub returns : goal.returns
returns g c =
    let e = g.T.Lane.BITS in
    let a = g.T.Lane.number c.args.a in
    c.one.ensures
    ∙ ap (λ x. unsigned_int (int_min (signed a e) (signed x e)) e % 2 ^ e) c.from_u64.ensures
    ∙ ap (λ z. unsigned_int (int_min (signed a e) z) e % 2 ^ e) (read_again e c.args.n)
