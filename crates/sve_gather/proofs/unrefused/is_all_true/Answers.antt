use Rattle.std.proofs.Common.{◌≡◌, ◌≤◌, ◌<◌, ◌*◌, ◌/◌, ◌∙◌, arith}
use Rattle.sve_gather.proofs.Ffr.{one_word, one_byte, all_bits}
use Rattle.sve_gather.proofs.unrefused.is_all_true.Goals as goal

pub loop-w-init : goal.loop-w-init
loop-w-init c = λ i h. absurd (omega arith)

pub loop-w-preserved : goal.loop-w-preserved
loop-w-preserved c = one_word c.ffr_words-words.result.now c.loop-w.w c.if-words-w.false c.loop-w.invariant

pub loop-i-init : goal.loop-i-init
loop-i-init c = λ i h. c.loop-w.invariant i (omega (arith, c.loop-w-test.false))

pub loop-i-preserved : goal.loop-i-preserved
loop-i-preserved c = one_byte c.ffr_words-words.result.now c.loop-i.i c.if-words-i-ne255.false c.loop-i.invariant

pub returns : goal.returns
returns c = λ is j h.
    let bits : c.bits-bytes.result ≡ c.args.vec.now.bits = c.bits-bytes.ensures.value ∙ c.length.ensures.value in
    let start : 8 * (c.bits-bytes.result / 64 / 8) ≤ c.bits-bytes.result / 64 = omega arith in
    let most : c.loop-i.i ≤ c.bits-bytes.result / 64 = c.loop-i.auto.i-end start in
    let room : 8 * c.loop-i.i ≤ c.args.vec.now.bits / 8 = omega (arith, bits, most) in
    let within : j < 8 * c.loop-i.i = omega (arith, bits, h, c.loop-i-test.false, c.length.ensures.length.multiple) in
    all_bits c.ffr_words-words.result.now c.args.vec.now.ffr (c.args.vec.now.bits / 8) c.loop-i.i c.ffr_words-words.ensures.words room c.loop-i.invariant j within
