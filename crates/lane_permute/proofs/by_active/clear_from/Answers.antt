use Rattle.std.proofs.Common.{◌≢◌, ◌<◌, length, ◌∙◌, arith}
use Rattle.lane_permute.proofs.Written.{number_other, written_from}
use Rattle.lane_permute.proofs.by_active.clear_from.Goals as goal

pub loop-k-preserved : goal.loop-k-preserved
loop-k-preserved g c =
    let within : c.loop-k.k < length c.loop-k.out = omega arith in
    record {
      below = λ i h. let ne : i ≢ c.loop-k.k = omega arith in number_other g.T.Lane.number c.loop-k.out c.loop-k.k i c.zero-zero.result ne ∙ c.loop-k.invariant.below i h;
      clear = written_from g.T.Lane.number (λ i. 0) c.loop-k.out c.args.from c.loop-k.k c.zero-zero.result within c.loop-k.invariant.clear c.zero-zero.ensures;
    }
