use Rattle.std.proofs.Common.{◌≡◌, ◌≤◌, ◌+◌, ◌/◌, ◌%◌, ℕ, List, refl, ap, sym, subst, ◌∙◌, arith}
use Rattle.emu_model.specs.State.{Vectors}
use Rattle.element_loops.specs.declared.plan.Target.{Target}
use Rattle.element_loops.specs.Layouts.{IsTarget}
use Rattle.element_loops.specs.Runs.{lane_in}
use Rattle.element_loops.specs.Values.{with_taken}
use Rattle.element_loops.proofs.Lines.{same_lane}
use Rattle.element_loops.proofs.Turns.{none_taken, taken_more}
use Rattle.element_loops.proofs.line.set_registers.Goals as goal

pub loop-j-init : goal.loop-j-init
loop-j-init c = record { bits = refl; predicates = refl; taken = λ f given. none_taken c.args.plan.now.bits f c.args.plan.now.register c.args.vec.now }

pub set_register-requires-clause-plan : goal.set_register-requires-clause-plan
set_register-requires-clause-plan c =
    let lanes : c.args.plan.now.lanes ≡ c.args.vec.now.bits / c.args.plan.now.bits = subst (λ (t : Target). IsTarget t c.args.plan.now c.args.vec.now) c.requires.target c.requires.plan.target in
    let now : c.args.plan.now.lanes ≡ c.loop-j.vec.bits / c.args.plan.now.bits = lanes ∙ ap (λ n. n / c.args.plan.now.bits) (sym c.loop-j.invariant.bits) in
    record {
      size = c.requires.plan.size;
      some = c.requires.plan.some;
      most = c.requires.plan.most;
      lanes = omega (arith, now);
      registers = c.requires.plan.registers;
      few = c.requires.plan.few;
      target = subst (λ (t : Target). IsTarget t c.args.plan.now c.loop-j.vec) (sym c.requires.target) now;
    }

pub set_register-requires-clause-lanes : goal.set_register-requires-clause-lanes
set_register-requires-clause-lanes c =
    let lanes : c.args.plan.now.lanes ≡ c.args.vec.now.bits / c.args.plan.now.bits = subst (λ (t : Target). IsTarget t c.args.plan.now c.args.vec.now) c.requires.target c.requires.plan.target in
    lanes ∙ ap (λ n. n / c.args.plan.now.bits) (sym c.loop-j.invariant.bits)

pub set_register-requires-clause-few : goal.set_register-requires-clause-few
set_register-requires-clause-few c = subst (λ n. c.args.line.now.whole ≤ n / 64) (sym c.loop-j.invariant.bits) c.requires.few

pub loop-j-preserved : goal.loop-j-preserved
loop-j-preserved c =
    let j : ℕ = c.loop-j.j in
    let bs : List ℕ = c.args.bytes.now in
    let g : ℕ → ℕ = lane_in bs c.args.plan.now c.args.line.now.pg c.args.line.now.whole c.loop-j.vec j in
    record {
      bits = ap (λ (v : Vectors). v.bits) (c.set_register.ensures g (λ k b. refl)) ∙ c.loop-j.invariant.bits;
      predicates = ap (λ (v : Vectors). v.p) (c.set_register.ensures g (λ k b. refl)) ∙ c.loop-j.invariant.predicates;
      taken = λ f given.
          taken_more c.args.plan.now.bits f c.args.plan.now.register j ((c.args.plan.now.register + j) % 32) c.args.vec.now c.loop-j.vec c.set_register.new.vec
          (c.loop-j.invariant.taken f given) refl
          (c.set_register.ensures (f j) (λ k b. given j k c.loop-j-test.true b ∙ same_lane bs c.args.plan.now c.args.line.now.pg c.args.line.now.whole c.args.vec.now c.loop-j.vec j k (sym c.loop-j.invariant.predicates)));
    }

pub returns : goal.returns
returns c = λ f given.
    let end : c.loop-j.j ≡ c.args.plan.now.registers = omega (arith, c.loop-j-test.false, c.loop-j.auto.j-end) in
    c.loop-j.invariant.taken f given ∙ ap (λ n. with_taken c.args.plan.now.bits f c.args.plan.now.register n c.args.vec.now) end
