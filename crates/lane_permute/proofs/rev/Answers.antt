use Rattle.std.proofs.Common.{◌<◌, ◌-◌, length, arith}
use Rattle.lane_permute.specs.Slices.{number_at}
use Rattle.lane_permute.proofs.Written.{written_more, read_at}
use Rattle.lane_permute.proofs.rev.Goals as goal

pub loop-k-preserved : goal.loop-k-preserved
loop-k-preserved g c =
    let f = g.T.Lane.number in
    let n = length c.args.out.now in
    let k = c.loop-k.k in
    let within : c.loop-k.k < length c.loop-k.out = omega arith in
    let there : length c.args.out.now - 1 - c.loop-k.k < length c.args.a.now = omega arith in
    written_more f (λ i. number_at f c.args.a.now (n - 1 - i)) c.loop-k.out k c.index-a-n.result within c.loop-k.invariant (read_at f c.args.a.now (n - 1 - k) c.index-a-n.result there c.index-a-n.is)
