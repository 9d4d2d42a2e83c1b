use Rattle.std.proofs.Common.{◌<◌, ◌+◌, length, ap, ◌∙◌, arith}
use Rattle.lane_permute.specs.Slices.{number_at}
use Rattle.lane_permute.proofs.Written.{written_more}
use Rattle.lane_permute.proofs.by_number.widen.Goals as goal
use Rattle.lane_model.specs.Extended.{extended_by}

pub loop-k-preserved : goal.loop-k-preserved
loop-k-preserved g c =
    let within : c.loop-k.k < length c.loop-k.out = omega arith in
    written_more g.T.Lane.number (λ i. extended_by c.args.signed g.T.Lane.BITS g.H.Lane.BITS (number_at g.H.Lane.number c.args.a.now (c.first_of_half-first.result + i))) c.loop-k.out c.loop-k.k c.wide.result within c.loop-k.invariant
    (c.wide.ensures ∙ ap (extended_by c.args.signed g.T.Lane.BITS g.H.Lane.BITS) c.number_of.ensures.value)
