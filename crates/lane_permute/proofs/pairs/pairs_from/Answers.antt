use Rattle.std.proofs.Common.{◌<◌, ◌+◌, ◌*◌, ◌/◌, ◌∙◌, ℕ, length, sym, arith}
use Rattle.lane_model.specs.Permute.{taken, by_parity}
use Rattle.lane_permute.specs.Slices.{number_at}
use Rattle.lane_permute.proofs.Turns.{turn_first, turn_second}
use Rattle.lane_permute.proofs.Written.{pair_more, read_at}
use Rattle.lane_permute.proofs.pairs.pairs_from.Goals as goal

pub loop-j-preserved : goal.loop-j-preserved
loop-j-preserved g c =
    let f = g.T.Lane.number in
    let a : ℕ → ℕ = number_at f c.args.a.now in
    let b : ℕ → ℕ = number_at f c.args.b.now in
    let s = c.args.start in
    let j = c.loop-j.j in
    let room : 2 * c.loop-j.j + 1 < length c.loop-j.out = omega arith in
    let there : c.args.start + c.loop-j.j < length c.args.a.now = omega arith in
    let there_too : c.args.start + c.loop-j.j < length c.args.b.now = omega arith in
    pair_more f (λ i. taken a b 0 0 (by_parity i (s + i / 2))) c.loop-j.out j c.index-a-start.result c.index-b-start.result room c.loop-j.invariant
    (read_at f c.args.a.now (s + j) c.index-a-start.result there c.index-a-start.is ∙ sym (turn_first a b 0 j (s + 2 * j / 2) (s + j) (omega arith)))
    (read_at f c.args.b.now (s + j) c.index-b-start.result there_too c.index-b-start.is ∙ sym (turn_second a b 0 j (s + (2 * j + 1) / 2) (s + j) (omega arith)))
