use Rattle.std.proofs.Common.{◌≡◌, ◌+◌, ◌*◌, ◌/◌, ap, sym, subst, ◌∙◌, arith}
use Rattle.sve_effects.specs.VectorElements.{Layout, elements_below}
use Rattle.guest_mem.specs.ReachLaws.{AreLoaded}
use Rattle.element_loops.specs.Layouts.{layout_of}
use Rattle.element_loops.proofs.Loads.{loads_begin}
use Rattle.sve_gather.proofs.GatheredWords.{lanes_are, all_lanes}
use Rattle.sve_gather.proofs.in_page.pair_in_page.Goals as goal

pub returns-clause-loaded : goal.returns-clause-loaded
returns-clause-loaded g c = λ done m is.
    let l : Layout = layout_of c.args.plan.now c.args.vec.now in
    let none : 0 ≡ 0 * (64 / c.args.plan.now.bits) = omega arith in
    let first : AreLoaded m (elements_below l (0 * (64 / c.args.plan.now.bits))) c.args.log.now.items
    = subst (λ k. AreLoaded m (elements_below l k) c.args.log.now.items) none (loads_begin l m c.args.log.now.items c.requires.empty) in
    let two : 2 ≡ c.args.vec.now.bits / 64 = omega (arith, c.requires.short) in
    let all : 2 * (64 / c.args.plan.now.bits) ≡ c.args.plan.now.lanes
    = ap (λ i. i * (64 / c.args.plan.now.bits)) two ∙ all_lanes c.args.plan.now.bits c.args.vec.now.bits c.requires.gather.size c.length-length.ensures.length ∙ sym (lanes_are c.args.plan.now c.args.vec.now c.requires.plan c.requires.gather) in
    subst (λ k. AreLoaded m (elements_below l k) c.word_in_page-2.new.log.items) all (c.in-Some-word_in_page.ensures.loaded m is (c.in-Some.ensures.loaded m is first))
