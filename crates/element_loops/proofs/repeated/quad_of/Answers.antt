use Rattle.std.proofs.Common.{ap, ◌∙◌, arith}
use Rattle.element_loops.specs.declared.plan.OnLanes.{OnLanes}
use Rattle.element_loops.specs.Layouts.{is_on_of}
use Rattle.active_lanes.proofs.Kept.{active_kept}
use Rattle.element_loops.proofs.repeated.quad_of.Goals as goal

pub returns-clause-line : goal.returns-clause-line
returns-clause-line c = record {
  placed = c.in_ok-base.ensures;
  on = λ k h.
      ap (λ (o : OnLanes). is_on_of o c.args.plan.now.bits c.args.vec.now k) c.in_ok-pg.ensures
      ∙ active_kept 0 c.in_ok-pg.pg c.args.plan.now.bits c.args.vec.now c.requires.size (λ j lo hi. absurd (omega arith)) k;
  few = omega arith;
}

pub returns-clause-front : goal.returns-clause-front
returns-clause-front c = record {
  few = omega (arith, c.min-front.ensures);
  on = λ k h.
      ap (λ (o : OnLanes). is_on_of o c.args.plan.now.bits c.args.vec.now k) c.in_ok-pg.ensures
      ∙ c.front_lanes.ensures.on k (omega (arith, h, c.min-front.ensures));
}
