use Rattle.std.proofs.Common.{◌≡◌, ◌<◌, ◌+◌, ◌*◌, ◌/◌, length, refl, ap, sym, subst, ◌∙◌, arith}
use Rattle.emu_model.specs.Marks.{MarkedMemory}
use Rattle.sve_effects.specs.VectorElements.{Layout, elements_below}
use Rattle.guest_mem.specs.ReachLaws.{AreLoaded}
use Rattle.element_loops.specs.Layouts.{layout_of}
use Rattle.element_loops.proofs.Loads.{loads_begin}
use Rattle.sve_gather.specs.Gathers.{AreWords, lane_value, word_of_lanes}
use Rattle.sve_gather.proofs.GatheredWords.{lanes_are, all_lanes, more_words}
use Rattle.sve_gather.proofs.gather.load_words.Goals as goal

pub loop-i-init : goal.loop-i-init
loop-i-init g c =
    let none : 0 ≡ 0 * (64 / c.args.plan.now.bits) = omega arith in
    record {
      loaded = subst (λ k. AreLoaded c.args.mem.now.memory (elements_below (layout_of c.args.plan.now c.args.vec.now) k) c.args.log.now.items) none (loads_begin (layout_of c.args.plan.now c.args.vec.now) c.args.mem.now.memory c.args.log.now.items c.requires.empty);
      words = c.requires.zero;
      memory = refl;
    }

pub loop-i-preserved : goal.loop-i-preserved
loop-i-preserved g c =
    let within : c.loop-i.i < length c.loop-i.words = omega (arith, c.loop-i.invariant.words.long, c.loop-i-test.true, c.bits-i-end.ensures.value, c.length.ensures.value, c.length.ensures.length.most) in
    let l : Layout = layout_of c.args.plan.now c.args.vec.now in
    record {
      loaded = subst (λ (m : MarkedMemory). AreLoaded m.memory (elements_below l ((c.loop-i.i + 1) * (64 / c.args.plan.now.bits))) c.load_word.new.log.items) c.loop-i.invariant.memory c.in_ok-words.ensures.loaded;
      words = more_words c.args.plan.now c.args.vec.now c.args.mem.now.memory c.loop-i.i c.in_ok-words.field-0 c.loop-i.words within
          (c.in_ok-words.ensures.word ∙ ap (λ (m : MarkedMemory). word_of_lanes c.args.plan.now.bits (lane_value c.args.plan.now c.args.vec.now m.memory) c.loop-i.i) c.loop-i.invariant.memory) c.loop-i.invariant.words;
      memory = c.load_word.ensures.memory ∙ c.loop-i.invariant.memory;
    }

pub returns-clause-loaded : goal.returns-clause-loaded
returns-clause-loaded g c =
    let l : Layout = layout_of c.args.plan.now c.args.vec.now in
    let end : c.loop-i.i ≡ c.args.vec.now.bits / 64 = omega (arith, c.loop-i-test.false, c.loop-i.auto.i-end, c.bits-i-end.ensures.value, c.length.ensures.value) in
    let all : c.loop-i.i * (64 / c.args.plan.now.bits) ≡ c.args.plan.now.lanes
    = ap (λ i. i * (64 / c.args.plan.now.bits)) end ∙ all_lanes c.args.plan.now.bits c.args.vec.now.bits c.requires.gather.size c.length.ensures.length ∙ sym (lanes_are c.args.plan.now c.args.vec.now c.requires.plan c.requires.gather) in
    subst (λ k. AreLoaded c.args.mem.now.memory (elements_below l k) c.loop-i.log.items) all c.loop-i.invariant.loaded

pub returns-clause-words : goal.returns-clause-words
returns-clause-words g c =
    let end : c.loop-i.i ≡ c.args.vec.now.bits / 64 = omega (arith, c.loop-i-test.false, c.loop-i.auto.i-end, c.bits-i-end.ensures.value, c.length.ensures.value) in
    subst (λ i. AreWords c.args.plan.now c.args.vec.now c.args.mem.now.memory i c.loop-i.words) end c.loop-i.invariant.words
