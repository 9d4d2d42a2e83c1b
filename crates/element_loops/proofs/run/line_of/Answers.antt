use Rattle.std.proofs.Common.{◌≡◌, ◌<◌, ◌≤◌, ◌*◌, ◌/◌, sym, ap, subst, ◌∙◌, arith}
use Rattle.element_loops.specs.declared.plan.OnLanes.{OnLanes}
use Rattle.element_loops.specs.declared.plan.Target.{Target}
use Rattle.element_loops.specs.Layouts.{IsTarget, is_on_of}
use Rattle.active_lanes.proofs.Kept.{all_words, front_few, front_kept, kept_front}
use Rattle.element_loops.proofs.run.line_of.Goals as goal

pub returns-then-is_all-clause-line : goal.returns-then-is_all-clause-line
returns-then-is_all-clause-line c =
    let words : c.bits-words.result / 64 ≡ c.args.vec.now.bits / 64 = ap (λ n. n / 64) (c.bits-words.ensures.value ∙ c.length.ensures.value) in
    let front : c.bits-words.result / 64 * (64 / c.args.plan.now.bits) ≡ c.args.vec.now.bits / c.args.plan.now.bits
    = ap (λ n. n * (64 / c.args.plan.now.bits)) words ∙ all_words c.args.plan.now.bits c.args.vec.now.bits c.requires.size c.length.ensures.length in
    record {
      placed = c.in_ok-base.ensures;
      on = λ k h.
          let within : k < c.args.vec.now.bits / c.args.plan.now.bits = omega (arith, h, c.requires.lanes) in
          ap (λ (o : OnLanes). is_on_of o c.args.plan.now.bits c.args.vec.now k) (c.is_all.ensures c.if-is_all.true)
          ∙ sym (kept_front (c.bits-words.result / 64) c.at.result c.args.plan.now.bits c.args.vec.now k (subst (λ n. k < n) (sym front) within));
      few = omega (arith, words);
    }

pub returns-then-is_all-clause-front : goal.returns-then-is_all-clause-front
returns-then-is_all-clause-front c = record {
  few = omega arith;
  on = λ k h. ap (λ (o : OnLanes). is_on_of o c.args.plan.now.bits c.args.vec.now k) (c.is_all.ensures c.if-is_all.true);
}

pub returns-clause-line : goal.returns-clause-line
returns-clause-line c = record {
  placed = c.in_ok-base.ensures;
  on = λ k h.
      ap (λ (o : OnLanes). is_on_of o c.args.plan.now.bits c.args.vec.now k) c.in_ok-pg.ensures
      ∙ front_kept c.args.plan.now.bits c.in_ok-pg.pg c.front_lanes-front.result c.words_of_lanes-whole.result c.args.vec.now c.requires.size c.words_of_lanes-whole.ensures c.front_lanes-front.ensures.on k;
  few = subst (λ n. n ≤ c.args.vec.now.bits / 64) (sym c.words_of_lanes-whole.ensures) (front_few c.args.plan.now.bits c.args.vec.now.bits c.front_lanes-front.result c.requires.size c.front_lanes-front.ensures.few);
}

pub returns-clause-front : goal.returns-clause-front
returns-clause-front c =
    let lanes : c.args.plan.now.lanes ≡ c.args.vec.now.bits / c.args.plan.now.bits = subst (λ (t : Target). IsTarget t c.args.plan.now c.args.vec.now) (c.is_registers.ensures c.if-not-is_registers.false) c.requires.target in
    record {
      few = omega (arith, lanes, c.front_lanes-front.ensures.few);
      on = λ k h. ap (λ (o : OnLanes). is_on_of o c.args.plan.now.bits c.args.vec.now k) c.in_ok-pg.ensures ∙ c.front_lanes-front.ensures.on k h;
    }
