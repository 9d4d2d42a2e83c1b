use Rattle.std.proofs.Common.{◌<◌, ℕ, length, ap, ◌∙◌, arith}
use Rattle.lane_model.specs.Permute.{taken, indexed_place}
use Rattle.lane_permute.specs.Slices.{number_at}
use Rattle.lane_permute.proofs.Written.{written_more}
use Rattle.lane_permute.proofs.by_number.chosen.Goals as goal

pub loop-k-preserved : goal.loop-k-preserved
loop-k-preserved g c =
    let f = g.T.Lane.number in
    let a : ℕ → ℕ = number_at f c.args.a.now in
    let n = length c.args.a.now in
    let within : c.loop-k.k < length c.loop-k.out = omega arith in
    written_more f (λ i. taken a a 0 0 (indexed_place (number_at f c.args.at.now i) n)) c.loop-k.out c.loop-k.k c.indexed.result within c.loop-k.invariant
    (c.indexed.ensures ∙ ap (λ i. taken a a 0 0 (indexed_place i n)) c.number_of.ensures.value)
