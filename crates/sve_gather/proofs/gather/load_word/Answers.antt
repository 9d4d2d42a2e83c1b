use Rattle.std.proofs.Common.{◌+◌, ◌*◌, ℕ, ap, sym, subst, ◌∙◌}
use Rattle.emu_model.specs.Marks.{MarkedMemory}
use Rattle.sve_effects.specs.VectorElements.{elements_below}
use Rattle.guest_mem.specs.ReachLaws.{AreLoaded}
use Rattle.element_loops.specs.Layouts.{layout_of}
use Rattle.sve_gather.specs.Gathers.{lane_value, word_of_lanes}
use Rattle.sve_gather.proofs.GatheredWords.{lanes_are, wide_within, wide_place, narrow, next_place}
use Rattle.sve_gather.proofs.gather.load_word.Goals as goal

-- lanes of 64 bits

pub load_lane-requires-clause-within : goal.load_lane-requires-clause-within
load_lane-requires-clause-within g c =
    wide_within c.args.plan.now c.args.vec.now c.args.i (lanes_are c.args.plan.now c.args.vec.now c.requires.plan c.requires.gather) (sym c.requires.bits ∙ c.if-this-eq64.true) c.requires.within

pub load_lane-requires-clause-loaded : goal.load_lane-requires-clause-loaded
load_lane-requires-clause-loaded g c =
    subst (λ k. AreLoaded c.args.mem.now.memory (elements_below (layout_of c.args.plan.now c.args.vec.now) k) c.args.log.now.items) (wide_place c.args.plan.now.bits c.args.i (sym c.requires.bits ∙ c.if-this-eq64.true)) c.requires.loaded

pub returns-then-this-eq64-clause-loaded : goal.returns-then-this-eq64-clause-loaded
returns-then-this-eq64-clause-loaded g c =
    subst (λ k. AreLoaded c.args.mem.now.memory (elements_below (layout_of c.args.plan.now c.args.vec.now) k) c.load_lane.new.log.items) (sym (wide_place c.args.plan.now.bits (c.args.i + 1) (sym c.requires.bits ∙ c.if-this-eq64.true))) c.in_ok-word.ensures.loaded

pub returns-then-this-eq64-clause-word : goal.returns-then-this-eq64-clause-word
returns-then-this-eq64-clause-word g c =
    let f : ℕ → ℕ = lane_value c.args.plan.now c.args.vec.now c.args.mem.now.memory in
    c.one_lane.ensures f c.args.i c.in_ok-word.ensures.value ∙ ap (λ e. word_of_lanes e f c.args.i) (sym (sym c.requires.bits ∙ c.if-this-eq64.true))

-- lanes of 32 bits

pub returns-clause-loaded : goal.returns-clause-loaded
returns-clause-loaded g c =
    let here : AreLoaded c.args.mem.now.memory (elements_below (layout_of c.args.plan.now c.args.vec.now) (2 * c.args.i + 1 + 1)) c.load_lane-3.new.log.items
    = subst (λ (m : MarkedMemory). AreLoaded m.memory (elements_below (layout_of c.args.plan.now c.args.vec.now) (2 * c.args.i + 1 + 1)) c.load_lane-3.new.log.items) c.load_lane-2.ensures.memory c.in_ok-high.ensures.loaded in
    subst (λ k. AreLoaded c.args.mem.now.memory (elements_below (layout_of c.args.plan.now c.args.vec.now) k) c.load_lane-3.new.log.items)
    (sym (next_place c.args.plan.now.bits c.args.i (narrow c.args.plan.now.bits c.requires.gather.size (λ s. c.if-this-eq64.false (c.requires.bits ∙ s))))) here

pub returns-clause-word : goal.returns-clause-word
returns-clause-word g c =
    let f : ℕ → ℕ = lane_value c.args.plan.now c.args.vec.now c.args.mem.now.memory in
    c.two_lanes.ensures f c.args.i c.in_ok-low.ensures.value
    (c.in_ok-high.ensures.value ∙ ap (λ (m : MarkedMemory). lane_value c.args.plan.now c.args.vec.now m.memory (2 * c.args.i + 1)) c.load_lane-2.ensures.memory)
    ∙ ap (λ e. word_of_lanes e f c.args.i) (sym (narrow c.args.plan.now.bits c.requires.gather.size (λ s. c.if-this-eq64.false (c.requires.bits ∙ s))))
