use Rattle.std.proofs.Common.{ℕ, ap, sym, ◌∙◌}
use Rattle.sve_gather.specs.Gathers.{lane_value, word_of_lanes}
use Rattle.sve_gather.proofs.GatheredWords.{narrow}
use Rattle.sve_gather.proofs.in_page.word_in_page.Goals as goal

pub returns-in-Some-clause-word : goal.returns-in-Some-clause-word
returns-in-Some-clause-word g c = λ m is.
    let f : ℕ → ℕ = lane_value c.args.plan.now c.args.vec.now m in
    c.one_lane.ensures f c.args.i (c.in-Some.ensures.value m is) ∙ ap (λ e. word_of_lanes e f c.args.i) (sym (sym c.requires.bits ∙ c.if-this-eq64.true))

pub returns-clause-word : goal.returns-clause-word
returns-clause-word g c = λ m is.
    let f : ℕ → ℕ = lane_value c.args.plan.now c.args.vec.now m in
    c.two_lanes.ensures f c.args.i (c.in-Some-lane_in_page.ensures.value m is) (c.in-Some-lane_in_page-2.ensures.value m is)
    ∙ ap (λ e. word_of_lanes e f c.args.i) (sym (narrow c.args.plan.now.bits c.requires.gather.size (λ s. c.if-this-eq64.false (c.requires.bits ∙ s))))
