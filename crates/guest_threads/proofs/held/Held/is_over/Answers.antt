use Rattle.std.proofs.Common.{ℕ, ap, inl, inr, sym, ◌∙◌, arith}
use Rattle.std.proofs.lemmas.Bool.{not-false, not-true}
use Rattle.guest_contexts.proofs.Begins.{turn_is}
use Rattle.guest_threads.proofs.Picked.{standing_of}
use Rattle.guest_threads.proofs.held.Held.is_over.Goals as goal

pub returns-then-used-steps : goal.returns-then-used-steps
returns-then-used-steps c =
    let steps = ap (λ (t : ℕ × ℕ). t.1) (turn_is c.args.turns.now c.args.turn c.requires.turn) in
    let most = c.requires.most in
    record {
      over = λ _. inl (omega (arith, c.if-used-steps.true, most, steps));
      on = λ h. cc;
      ready = λ h. cc;
    }

pub returns-clause-over : goal.returns-clause-over
returns-clause-over c = λ h. inr (sym c.is_ready.ensures.ready ∙ not-true c.is_ready.result h)

pub returns-clause-on : goal.returns-clause-on
returns-clause-on c = λ h.
    let steps = ap (λ (t : ℕ × ℕ). t.1) (turn_is c.args.turns.now c.args.turn c.requires.turn) in
    omega (arith, c.if-used-steps.false, steps)

pub returns-clause-ready : goal.returns-clause-ready
returns-clause-ready c = λ h. record {
  within = c.is_ready.ensures.within;
  ready = standing_of _ (sym c.is_ready.ensures.ready ∙ not-false c.is_ready.result h);
}
