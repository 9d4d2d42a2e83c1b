use Rattle.std.proofs.Common.{◌%◌, ◌^◌, ap, ◌∙◌, ◌-ℤ◌}
use Rattle.std.specs.Prelude.{unsigned_abs}
use Rattle.emu_bits.specs.Numbers.{signed}
use Rattle.lane_ops.proofs.Readings.{some_bits, from_zero}
use Rattle.lane_ops.proofs.single.AbsLaneWise1.one.Goals as goal

pub returns : goal.returns
returns g c =
    let e = g.T.Lane.BITS in
    let n = g.T.Lane.number c.args.a in
    c.one.ensures
    ∙ ap (λ x. unsigned_abs (signed n e -ℤ signed x e) % 2 ^ e % 2 ^ e) c.from_u64.ensures
    ∙ ap (λ x. x % 2 ^ e % 2 ^ e) (from_zero e n (some_bits e g.met.T.Lane.width))
