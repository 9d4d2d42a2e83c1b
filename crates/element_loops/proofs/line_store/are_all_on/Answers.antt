use Rattle.std.proofs.Common.{◌≡◌, ◌<◌, ◌*◌, ◌/◌, sym, ap, subst, ◌∙◌, arith}
use Rattle.std.proofs.lemmas.Bool.{eqb-true}
use Rattle.active_lanes.proofs.Kept.{all_words}
use Rattle.element_loops.proofs.RunNotes.{front_on}
use Rattle.element_loops.proofs.line_store.are_all_on.Goals as goal

pub returns : goal.returns
returns c = λ is k b.
    let all : c.args.line.now.whole ≡ c.args.vec.now.bits / 64 = eqb-true c.args.line.now.whole _ is ∙ ap (λ n. n / 64) (c.bits.ensures.value ∙ c.length.ensures.value) in
    let front : c.args.line.now.whole * (64 / c.args.plan.now.bits) ≡ c.args.vec.now.bits / c.args.plan.now.bits
    = ap (λ n. n * (64 / c.args.plan.now.bits)) all ∙ all_words c.args.plan.now.bits c.args.vec.now.bits c.requires.plan.size c.length.ensures.length in
    let within : k < c.args.vec.now.bits / c.args.plan.now.bits = omega (arith, b, c.requires.plan.lanes) in
    front_on c.args.line.now.base c.args.line.now.pg c.args.line.now.whole c.args.plan.now c.args.vec.now c.requires.line k (subst (λ n. k < n) (sym front) within) b
