use Rattle.std.proofs.Common.{◌≡◌, ◌<◌, ◌∙◌, [], length, sym, arith}
use Rattle.std.proofs.lemmas.List.{ext_get_or, length-set}
use Rattle.vec_regs.proofs.Low.{kept_rest, same_more}
use Rattle.vec_regs.proofs.lower.copy_registers.Goals as goal

pub loop-r-preserved : goal.loop-r-preserved
loop-r-preserved c =
    let within : c.loop-r.r < length c.loop-r.to = omega arith in
    record {
      count = length-set c.loop-r.to c.loop-r.r c.copy_words.new.to ∙ c.loop-r.invariant.count;
      done = same_more c.args.from.now c.loop-r.to c.loop-r.r c.copy_words.new.to within c.copy_words.ensures c.loop-r.invariant.done;
      rest = kept_rest c.args.to.now c.loop-r.to c.loop-r.r c.copy_words.new.to c.loop-r.invariant.rest;
    }

pub returns : goal.returns
returns c =
    let count = c.loop-r.invariant.count in
    let long : length c.args.from.now ≡ 32 = omega arith in
    ext_get_or [] c.loop-r.to c.args.from.now (count ∙ sym long) (λ k b. let h : k < c.loop-r.r = omega (arith, b, count) in c.loop-r.invariant.done k h)
