use Rattle.std.proofs.Common.{◌≡◌, ◌<◌, ◌*◌, ◌/◌, sym, ap, subst, ◌∙◌, arith}
use Rattle.element_loops.specs.declared.plan.OnLanes.{OnLanes}
use Rattle.element_loops.specs.declared.plan.Target.{Target}
use Rattle.element_loops.specs.Layouts.{IsPredicate, IsTarget, is_on_of}
use Rattle.active_lanes.proofs.Kept.{kept_front}
use Rattle.element_loops.proofs.predicates.line_of_bytes.Goals as goal

pub returns : goal.returns
returns c =
    let is : IsPredicate c.args.pt c.args.plan.now c.args.vec.now = subst (λ (t : Target). IsTarget t c.args.plan.now c.args.vec.now) c.requires.target c.requires.plan.target in
    let words : c.bits-whole.result / 64 ≡ c.args.vec.now.bits / 64 = ap (λ n. n / 64) (c.bits-whole.ensures.value ∙ c.length.ensures.value) in
    record {
      placed = c.in_ok-base.ensures;
      on = λ k h.
          let front : k < c.bits-whole.result / 64 * (64 / 8) = omega (arith, h, words, is.lanes) in
          ap (λ (o : OnLanes). is_on_of o c.args.plan.now.bits c.args.vec.now k) is.on
          ∙ sym (kept_front (c.bits-whole.result / 64) c.args.pt c.args.plan.now.bits c.args.vec.now k (subst (λ e. k < c.bits-whole.result / 64 * (64 / e)) (sym is.bits) front));
      few = omega (arith, words);
    }
