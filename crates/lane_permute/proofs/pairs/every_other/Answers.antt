use Rattle.std.proofs.Common.{◌<◌, ◌≤◌, ◌+◌, ◌-◌, ◌*◌, ◌∙◌, ℕ, length, sym, arith}
use Rattle.lane_model.specs.Permute.{taken, concatenated}
use Rattle.lane_permute.specs.Slices.{number_at}
use Rattle.lane_permute.proofs.Turns.{joined_first, joined_second}
use Rattle.lane_permute.proofs.Written.{written_more, read_at}
use Rattle.lane_permute.proofs.pairs.every_other.Goals as goal

pub loop-k-preserved : goal.loop-k-preserved
loop-k-preserved g c =
    let f = g.T.Lane.number in
    let a : ℕ → ℕ = number_at f c.args.a.now in
    let b : ℕ → ℕ = number_at f c.args.b.now in
    let n = length c.args.out.now in
    let s = c.args.odd in
    let k = c.loop-k.k in
    let within : c.loop-k.k < length c.loop-k.out = omega arith in
    let there : 2 * c.loop-k.k + c.args.odd < length c.args.a.now = omega arith in
    let inside : 2 * c.loop-k.k + c.args.odd < length c.args.out.now = omega arith in
    written_more f (λ i. taken a b 0 0 (concatenated n (2 * i + s))) c.loop-k.out k c.index-a-k.result within c.loop-k.invariant
    (read_at f c.args.a.now (2 * k + s) c.index-a-k.result there c.index-a-k.is ∙ sym (joined_first a b 0 n (2 * k + s) (2 * k + s) inside (omega arith)))

pub loop-k-2-preserved : goal.loop-k-2-preserved
loop-k-2-preserved g c =
    let f = g.T.Lane.number in
    let a : ℕ → ℕ = number_at f c.args.a.now in
    let b : ℕ → ℕ = number_at f c.args.b.now in
    let n = length c.args.out.now in
    let s = c.args.odd in
    let k = c.loop-k-2.k in
    let within : c.loop-k-2.k < length c.loop-k-2.out = omega arith in
    let there : c.loop-k-2.k - (length c.args.out.now - c.loop-k-2.k - c.args.odd) < length c.args.b.now = omega arith in
    let behind : length c.args.out.now ≤ 2 * c.loop-k-2.k + c.args.odd = omega arith in
    written_more f (λ i. taken a b 0 0 (concatenated n (2 * i + s))) c.loop-k-2.out k c.index-b-k.result within c.loop-k-2.invariant
    (read_at f c.args.b.now (k - (n - k - s)) c.index-b-k.result there c.index-b-k.is ∙ sym (joined_second a b 0 n (2 * k + s) (k - (n - k - s)) behind (omega arith)))
