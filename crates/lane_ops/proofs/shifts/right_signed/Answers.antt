use Rattle.std.proofs.Common.{◌≡◌, ◌-◌, ◌%◌, ◌^◌, min, ap, ◌∙◌, arith}
use Rattle.emu_bits.specs.Operations.{asr}
use Rattle.lane_ops.proofs.Readings.{some_bits, signed_far}
use Rattle.lane_ops.proofs.shifts.right_signed.Goals as goal

pub returns : goal.returns
returns g c =
    let e = g.T.Lane.BITS in
    let x = c.to_u64.result in
    let some = some_bits e g.met.T.Lane.width in
    let most : c.from-most.result ≡ g.T.Lane.BITS - 1 = omega arith in
    c.from_u64.ensures
    ∙ ap (λ v. v % 2 ^ e) (c.shifted_signed.ensures
    ∙ ap (λ b. asr b x c.min.result) c.BITS-2.ensures
    ∙ ap (asr e x) (c.min.ensures ∙ ap (min c.args.n) most)
    ∙ signed_far e x c.args.n some c.to_u64.ensures.below
    ∙ ap (λ v. asr e v c.args.n) c.to_u64.ensures.value)
