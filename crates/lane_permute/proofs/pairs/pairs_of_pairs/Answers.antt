use Rattle.std.proofs.Common.{◌<◌, ◌+◌, ◌*◌, ◌/◌, ◌∙◌, ℕ, length, sym, arith}
use Rattle.lane_model.specs.Permute.{taken, by_parity}
use Rattle.lane_permute.specs.Slices.{number_at}
use Rattle.lane_permute.proofs.Turns.{turn_first, turn_second}
use Rattle.lane_permute.proofs.Written.{pair_more, read_at}
use Rattle.lane_permute.proofs.pairs.pairs_of_pairs.Goals as goal

pub loop-j-preserved : goal.loop-j-preserved
loop-j-preserved g c =
    let f = g.T.Lane.number in
    let a : ℕ → ℕ = number_at f c.args.a.now in
    let b : ℕ → ℕ = number_at f c.args.b.now in
    let s = c.args.odd in
    let j = c.loop-j.j in
    let room : 2 * c.loop-j.j + 1 < length c.loop-j.out = omega arith in
    let there : 2 * c.loop-j.j + c.args.odd < length c.args.a.now = omega arith in
    let there_too : 2 * c.loop-j.j + c.args.odd < length c.args.b.now = omega arith in
    pair_more f (λ i. taken a b 0 0 (by_parity i (2 * (i / 2) + s))) c.loop-j.out j c.index-a-j.result c.index-b-j.result room c.loop-j.invariant
    (read_at f c.args.a.now (2 * j + s) c.index-a-j.result there c.index-a-j.is ∙ sym (turn_first a b 0 j (2 * (2 * j / 2) + s) (2 * j + s) (omega arith)))
    (read_at f c.args.b.now (2 * j + s) c.index-b-j.result there_too c.index-b-j.is ∙ sym (turn_second a b 0 j (2 * ((2 * j + 1) / 2) + s) (2 * j + s) (omega arith)))
