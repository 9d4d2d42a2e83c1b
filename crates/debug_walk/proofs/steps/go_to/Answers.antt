use Rattle.std.proofs.Common.{◌≡◌, ◌≤◌, ◌<◌, ℕ, ◌-◌, Bool, true, false, nat_le, if◌then◌else◌, sym, ap, ◌∙◌, arith}
use Rattle.std.proofs.lemmas.Bool.Decides.{nat_tests}
use Rattle.emu_model.specs.State.{Parts, State}
use Rattle.dbg_model.specs.Session.{Course, back_to, walked}
use Rattle.dbg_back.specs.Ends.{is_fault}
use Rattle.dbg_back.proofs.Doing.{does_as}
use Rattle.debug_walk.specs.Walks.{at_step, back_at}
use Rattle.debug_walk.proofs.steps.go_to.Goals as goal

-- back where no more steps than counted are asked for
backs : (start : State) (target : ℕ) (c : Course) → target ≤ c.state.parts.steps → back_at start target c ≡ at_step start target c
backs start target c within =
    let is : nat_le target c.state.parts.steps ≡ true = grind (arith, nat_tests, within) in
    sym (ap (λ (b : Bool). if b then back_at start target c else walked c (target - c.state.parts.steps)) is)

-- and else on
goes : (start : State) (target : ℕ) (c : Course) → c.state.parts.steps < target → walked c (target - c.state.parts.steps) ≡ at_step start target c
goes start target c beyond =
    let is : nat_le target c.state.parts.steps ≡ false = grind (arith, nat_tests, beyond) in
    sym (ap (λ (b : Bool). if b then back_at start target c else walked c (target - c.state.parts.steps)) is)

pub returns-then-target-steps-clause-does : goal.returns-then-target-steps-clause-does
returns-then-target-steps-clause-does g c =
    let target = c.args.target in
    let hp = g.O.Sink.held c.args.output.now in
    let ep = g.E.Sink.held c.args.errors.now in
    does_as c.args.input.now c.args.machine.now c.turn_back.new.machine c.args.trail.now c.turn_back.new.trail hp hp ep ep (λ start. back_to start (c.steps-steps.result - target)) (λ start. at_step start target) false
    (λ start course w.
    let same : c.steps-steps.result ≡ course.state.parts.steps = c.steps-steps.ensures ∙ ap (λ (p : Parts). p.steps) w.here.parts in
    let within = c.if-target-steps.true in
    ap (λ (n : ℕ). back_to start (n - target) course) same ∙ backs start target course (omega (arith, within, same)))
    (c.turn_back.ensures.does hp ep)

pub returns : goal.returns
returns g c =
    let target = c.args.target in
    record {
      does = does_as c.args.input.now c.args.machine.now c.move_to.new.machine c.args.trail.now c.move_to.new.trail
          (g.O.Sink.held c.args.output.now) (g.O.Sink.held c.move_to.new.output) (g.E.Sink.held c.args.errors.now) (g.E.Sink.held c.move_to.new.errors)
          (λ start course. walked course (target - course.state.parts.steps)) (λ start. at_step start target) (is_fault c.move_to.result)
          (λ start course w.
          let same : c.steps-steps.result ≡ course.state.parts.steps = c.steps-steps.ensures ∙ ap (λ (p : Parts). p.steps) w.here.parts in
          let beyond = c.if-target-steps.false in
          goes start target course (omega (arith, beyond, same)))
          c.move_to.ensures.does;
      write_cause = c.move_to.ensures.write_cause;
      errors_cause = c.move_to.ensures.errors_cause;
    }
