use Rattle.std.proofs.Common.{◌≡◌, ◌<◌, ◌≤◌, ◌+◌, ◌*◌, ◌/◌, [], length, ap, sym, subst, ◌∙◌, arith}
use Rattle.emu_model.specs.Access.{Memory}
use Rattle.sve_effects.specs.VectorElements.{Layout, elements_below}
use Rattle.guest_mem.specs.ReachLaws.{AreLoaded}
use Rattle.element_loops.specs.Layouts.{layout_of}
use Rattle.element_loops.proofs.Loads.{loads_begin}
use Rattle.sve_gather.specs.Gathers.{AreWords}
use Rattle.sve_gather.proofs.GatheredWords.{lanes_are, all_lanes, more_words}
use Rattle.sve_gather.proofs.in_page.words_in_page.Goals as goal

pub loop-i-init : goal.loop-i-init
loop-i-init g c =
    let none : 0 ≡ 0 * (64 / c.args.plan.now.bits) = omega arith in
    let few : length c.args.log.now.items ≡ 0 = ap length c.requires.empty in
    record {
      loaded = λ m is. subst (λ k. AreLoaded m (elements_below (layout_of c.args.plan.now c.args.vec.now) k) c.args.log.now.items) none (loads_begin (layout_of c.args.plan.now c.args.vec.now) m c.args.log.now.items c.requires.empty);
      words = λ m is. c.requires.zero m;
      room = omega (arith, few);
    }

pub loop-i-preserved : goal.loop-i-preserved
loop-i-preserved g c =
    let within : c.loop-i.i < length c.loop-i.words = omega (arith, c.loop-i-test.true, c.bits-i-end.ensures.value, c.length.ensures.value, c.length.ensures.length.most) in
    record {
      loaded = λ m is. c.in-Some.ensures.loaded m is (c.loop-i.invariant.loaded m is);
      words = λ m is. more_words c.args.plan.now c.args.vec.now m c.loop-i.i c.in-Some.word c.loop-i.words within (c.in-Some.ensures.word m is) (c.loop-i.invariant.words m is);
      room = c.in-Some.ensures.room;
    }

pub returns-clause-loaded : goal.returns-clause-loaded
returns-clause-loaded g c = λ done m is.
    let l : Layout = layout_of c.args.plan.now c.args.vec.now in
    let end : c.loop-i.i ≡ c.args.vec.now.bits / 64 = omega (arith, c.loop-i-test.false, c.loop-i.auto.i-end, c.bits-i-end.ensures.value, c.length.ensures.value) in
    let all : c.loop-i.i * (64 / c.args.plan.now.bits) ≡ c.args.plan.now.lanes
    = ap (λ i. i * (64 / c.args.plan.now.bits)) end ∙ all_lanes c.args.plan.now.bits c.args.vec.now.bits c.requires.gather.size c.length.ensures.length ∙ sym (lanes_are c.args.plan.now c.args.vec.now c.requires.plan c.requires.gather) in
    subst (λ k. AreLoaded m (elements_below l k) c.loop-i.log.items) all (c.loop-i.invariant.loaded m is)

pub returns-clause-words : goal.returns-clause-words
returns-clause-words g c = λ done m is.
    let end : c.loop-i.i ≡ c.args.vec.now.bits / 64 = omega (arith, c.loop-i-test.false, c.loop-i.auto.i-end, c.bits-i-end.ensures.value, c.length.ensures.value) in
    subst (λ i. AreWords c.args.plan.now c.args.vec.now m i c.loop-i.words) end (c.loop-i.invariant.words m is)
