use Rattle.std.proofs.Common.{◌<◌, ◌∙◌, length, arith}
use Rattle.std.proofs.lemmas.List.{length-set}
use Rattle.vec_regs.proofs.Low.{kept_more, kept_rest, kept_all}
use Rattle.vec_regs.proofs.lower.keep_low.Goals as goal

pub loop-r-preserved : goal.loop-r-preserved
loop-r-preserved c =
    let within : c.loop-r.r < length c.loop-r.z = omega arith in
    record {
      count = length-set c.loop-r.z c.loop-r.r c.low_words.result ∙ c.loop-r.invariant.count;
      done = kept_more c.args.z.now c.loop-r.z c.loop-r.r c.low_words.result within c.low_words.ensures c.loop-r.invariant.done c.loop-r.invariant.rest;
      rest = kept_rest c.args.z.now c.loop-r.z c.loop-r.r c.low_words.result c.loop-r.invariant.rest;
    }

pub returns : goal.returns
returns c = kept_all c.args.z.now c.loop-r.z c.loop-r.invariant.count (omega arith) (λ k b. let h : k < c.loop-r.r = omega arith in c.loop-r.invariant.done k h)
