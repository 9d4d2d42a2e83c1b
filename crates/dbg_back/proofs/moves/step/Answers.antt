use Rattle.std.proofs.Common.{◌≡◌, ℕ, ◌+◌, ◌-◌, min, true, sym, ap, ◌∙◌, arith}
use Rattle.emu_model.specs.State.{Parts, State}
use Rattle.dbg_model.specs.Session.{stepped_text, Course, walked, printed, steps_taken}
use Rattle.dbg_back.specs.declared.ends.BackEnd.TheVariants.{Done, WriteFault, ErrorsFault}
use Rattle.dbg_back.specs.Ends.{end_of_put, is_fault}
use Rattle.dbg_back.proofs.Courses.{appends_put}
use Rattle.dbg_back.proofs.Doing.{does_as, does_cut, does_put, does_then, does_when}
use Rattle.dbg_back.proofs.Streams.{not_done, put_errs, put_write}
use Rattle.dbg_back.proofs.moves.step.Goals as goal

abbrev to_target : ℕ → State → Course → Course
to_target target start c = walked c (target - c.state.parts.steps)

abbrev with_line : ℕ → ℕ → State → Course → Course
with_line count target start c = printed (stepped_text count) (to_target target start c)

taken_as : (s n target budget : ℕ) (start : State) (c : Course) → s ≡ c.state.parts.steps → target ≡ min (s + n) budget → with_line (s + n) target start c ≡ steps_taken n budget c
taken_as s n target budget start c same is =
    ap (λ (t : ℕ). with_line (s + n) t start c) is ∙ ap (λ (x : ℕ). with_line (x + n) (min (x + n) budget) start c) same

pub returns-in-Done : goal.returns-in-Done
returns-in-Done g c =
    let input = c.args.input.now in
    let m = c.args.machine.now in
    let n = c.move_to.new.machine in
    let t = c.args.trail.now in
    let v = c.move_to.new.trail in
    let line = c.put_stepped.result in
    let is = c.end_of_put.ensures in
    let s = c.steps-steps.result in
    let target = c.min-target.result in
    let steps = c.steps-steps.ensures in
    let sum = c.saturating_add.ensures in
    let least = c.min-target.ensures in
    let at : target ≡ min (s + c.args.n) c.args.budget = omega (arith, sum, least) in
    record {
      does = does_as input m n t v (g.O.Sink.held c.args.output.now) (g.O.Sink.held c.put_stepped.new.sink) (g.E.Sink.held c.args.errors.now) (g.E.Sink.held c.move_to.new.errors)
          (with_line (s + c.args.n) target) (λ start. steps_taken c.args.n c.args.budget) (is_fault c.end_of_put.result)
          (λ start course w. taken_as s c.args.n target c.args.budget start course (steps ∙ ap (λ (p : Parts). p.steps) w.here.parts) at)
          (does_when input m n t v (g.O.Sink.held c.args.output.now) (g.O.Sink.held c.put_stepped.new.sink) (g.E.Sink.held c.args.errors.now) (g.E.Sink.held c.move_to.new.errors) (with_line (s + c.args.n) target) (is_fault (end_of_put line)) (is_fault c.end_of_put.result) (ap is_fault (sym is))
          (does_then input m n n t v v (g.O.Sink.held c.args.output.now) (g.O.Sink.held c.move_to.new.output) (g.O.Sink.held c.put_stepped.new.sink) (g.E.Sink.held c.args.errors.now) (g.E.Sink.held c.move_to.new.errors) (g.E.Sink.held c.move_to.new.errors)
          (to_target target) (λ start. printed (stepped_text (s + c.args.n))) (is_fault (end_of_put line)) c.in-Done.ensures.does
          (does_put input n v (g.O.Sink.held c.move_to.new.output) (g.O.Sink.held c.put_stepped.new.sink) (g.E.Sink.held c.move_to.new.errors) (stepped_text (s + c.args.n)) line c.put_stepped.ensures.bytes)));
      write_cause = put_write line c.end_of_put.result is _ _ _ (c.in-Done.ensures.write_cause.kept (λ (h : Done ≡ WriteFault). cc)) c.put_stepped.ensures.cause;
      errors_cause = put_errs line c.end_of_put.result is _ _ (c.in-Done.ensures.errors_cause.kept (λ (h : Done ≡ ErrorsFault). cc));
    }

pub returns-in_default-clause-does : goal.returns-in_default-clause-does
returns-in_default-clause-does g c =
    let input = c.args.input.now in
    let m = c.args.machine.now in
    let n = c.move_to.new.machine in
    let t = c.args.trail.now in
    let v = c.move_to.new.trail in
    let broken = not_done c.move_to.result c.in_default.not-Done in
    let s = c.steps-steps.result in
    let target = c.min-target.result in
    let steps = c.steps-steps.ensures in
    let sum = c.saturating_add.ensures in
    let least = c.min-target.ensures in
    let at : target ≡ min (s + c.args.n) c.args.budget = omega (arith, sum, least) in
    does_as input m n t v (g.O.Sink.held c.args.output.now) (g.O.Sink.held c.move_to.new.output) (g.E.Sink.held c.args.errors.now) (g.E.Sink.held c.move_to.new.errors)
    (with_line (s + c.args.n) target) (λ start. steps_taken c.args.n c.args.budget) (is_fault c.move_to.result)
    (λ start course w. taken_as s c.args.n target c.args.budget start course (steps ∙ ap (λ (p : Parts). p.steps) w.here.parts) at)
    (does_when input m n t v (g.O.Sink.held c.args.output.now) (g.O.Sink.held c.move_to.new.output) (g.E.Sink.held c.args.errors.now) (g.E.Sink.held c.move_to.new.errors) (with_line (s + c.args.n) target) true (is_fault c.move_to.result) (sym broken)
    (does_cut input m n t v (g.O.Sink.held c.args.output.now) (g.O.Sink.held c.move_to.new.output) (g.E.Sink.held c.args.errors.now) (g.E.Sink.held c.move_to.new.errors) (to_target target) (with_line (s + c.args.n) target)
    (λ start course w. appends_put (stepped_text (s + c.args.n)) (to_target target start course))
    (does_when input m n t v (g.O.Sink.held c.args.output.now) (g.O.Sink.held c.move_to.new.output) (g.E.Sink.held c.args.errors.now) (g.E.Sink.held c.move_to.new.errors) (to_target target) (is_fault c.move_to.result) true broken c.move_to.ensures.does)))
