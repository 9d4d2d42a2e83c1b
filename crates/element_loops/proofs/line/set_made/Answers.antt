use Rattle.std.proofs.Common.{◌≡◌, ◌<◌, ◌*◌, ◌/◌, List, ℕ, ap, subst, ◌∙◌, arith}
use Rattle.emu_model.specs.Lanes.{with_z}
use Rattle.active_lanes.proofs.Kept.{all_words}
use Rattle.element_loops.proofs.Lines.{lanes_written}
use Rattle.element_loops.proofs.line.set_made.Goals as goal

pub put_words-requires-clause-room : goal.put_words-requires-clause-room
put_words-requires-clause-room c = λ k b.
    let words : c.bits-count.result / 64 ≡ c.args.vec.now.bits / 64 = ap (λ n. n / 64) (c.bits-count.ensures.value ∙ c.length.ensures.value) in
    let all : c.bits-count.result / 64 * (64 / c.args.plan.now.bits) ≡ c.args.vec.now.bits / c.args.plan.now.bits
    = ap (λ n. n * (64 / c.args.plan.now.bits)) words ∙ all_words c.args.plan.now.bits c.args.vec.now.bits c.requires.plan.size c.length.ensures.length in
    c.requires.room k (subst (λ n. k < n) all b)

pub returns : goal.returns
returns c = λ f given.
    let words : c.bits-count.result / 64 ≡ c.args.vec.now.bits / 64 = ap (λ n. n / 64) (c.bits-count.ensures.value ∙ c.length.ensures.value) in
    c.set_words.ensures
    ∙ ap (λ (bs : List ℕ). with_z c.args.vec.now c.args.zd bs)
    (lanes_written c.args.pg c.args.whole c.args.plan.now c.args.vec.now c.requires.plan.size c.length.ensures.length c.args.bytes.now c.put_words.new.words c.keep_active.new.words c.args.at c.args.step f
    (λ i b. c.put_words.ensures.bytes i (omega (arith, b, words, c.length.ensures.length.multiple))) (λ i b. c.keep_active.ensures.bytes i (omega (arith, b, words, c.length.ensures.length.multiple))) given)
