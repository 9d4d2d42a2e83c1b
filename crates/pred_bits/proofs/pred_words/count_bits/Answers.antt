use Rattle.std.proofs.Common.{◌≡◌, ◌≤◌, ◌<◌, ◌*◌, ◌^◌, get_or, ap, ◌∙◌, arith}
use Rattle.std.specs.Int.RustNames.{count_ones}
use Rattle.lane_model.specs.WordBits.{bit_of}
use Rattle.lane_model.specs.FirstLast.{count_where}
use Rattle.pred_bits.proofs.Counted.{word_counted, word_few, counts_more}
use Rattle.pred_bits.proofs.pred_words.count_bits.Goals as goal

pub overflow_add-n : goal.overflow_add-n
overflow_add-n c =
    let small : get_or c.args.words.now c.loop-i.i 0 < 2 ^ 64 = omega arith in
    let few : count_ones (get_or c.args.words.now c.loop-i.i 0) ≤ 64 = word_few (get_or c.args.words.now c.loop-i.i 0) small in
    omega arith

pub loop-i-preserved : goal.loop-i-preserved
loop-i-preserved c =
    let small : get_or c.args.words.now c.loop-i.i 0 < 2 ^ 64 = omega arith in
    let few : count_ones (get_or c.args.words.now c.loop-i.i 0) ≤ 64 = word_few (get_or c.args.words.now c.loop-i.i 0) small in
    record {
      is = counts_more c.loop-i.i (bit_of c.args.words.now) c.loop-i.n (count_ones (get_or c.args.words.now c.loop-i.i 0)) c.loop-i.invariant.is (word_counted c.args.words.now c.loop-i.i small);
      few = omega arith;
    }

pub returns-clause-value : goal.returns-clause-value
returns-clause-value c =
    let all : 64 * c.loop-i.i ≡ 256 = omega arith in
    c.loop-i.invariant.is ∙ ap (λ n. count_where n (bit_of c.args.words.now)) all
