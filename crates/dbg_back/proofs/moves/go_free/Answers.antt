use Rattle.std.proofs.Common.{◌≡◌, true, sym, ap, ◌-◌}
use Rattle.emu_model.specs.State.{State}
use Rattle.dbg_model.specs.Session.{Course, ended_line, walked, printed}
use Rattle.dbg_back.specs.Ends.{end_of_put, is_fault}
use Rattle.dbg_back.proofs.Courses.{appends_put}
use Rattle.dbg_back.proofs.Doing.{does_cut, does_put, does_then, does_when}
use Rattle.dbg_back.proofs.Streams.{not_done, put_errs, put_write}
use Rattle.dbg_back.specs.declared.ends.BackEnd.TheVariants.{Done, WriteFault, ErrorsFault}
use Rattle.dbg_back.proofs.moves.go_free.Goals as goal

pub returns-in-Done : goal.returns-in-Done
returns-in-Done g c =
    let input = c.args.input.now in
    let m = c.args.machine.now in
    let n = c.move_to.new.machine in
    let t = c.args.trail.now in
    let v = c.move_to.new.trail in
    let line = c.put_ending.result in
    let is = c.end_of_put.ensures in
    let steps : State → Course → Course = λ start course. walked course (c.args.budget - course.state.parts.steps) in
    record {
      does = does_when input m n t v (g.O.Sink.held c.args.output.now) (g.O.Sink.held c.put_ending.new.sink) (g.E.Sink.held c.args.errors.now) (g.E.Sink.held c.move_to.new.errors) (λ start course. printed ended_line (steps start course)) (is_fault (end_of_put line)) (is_fault c.end_of_put.result) (ap is_fault (sym is))
          (does_then input m n n t v v (g.O.Sink.held c.args.output.now) (g.O.Sink.held c.move_to.new.output) (g.O.Sink.held c.put_ending.new.sink) (g.E.Sink.held c.args.errors.now) (g.E.Sink.held c.move_to.new.errors) (g.E.Sink.held c.move_to.new.errors)
          steps (λ start. printed ended_line) (is_fault (end_of_put line)) c.in-Done.ensures.does
          (does_put input n v (g.O.Sink.held c.move_to.new.output) (g.O.Sink.held c.put_ending.new.sink) (g.E.Sink.held c.move_to.new.errors) ended_line line c.put_ending.ensures.bytes));
      write_cause = put_write line c.end_of_put.result is _ _ _ (c.in-Done.ensures.write_cause.kept (λ (h : Done ≡ WriteFault). cc)) c.put_ending.ensures.cause;
      errors_cause = put_errs line c.end_of_put.result is _ _ (c.in-Done.ensures.errors_cause.kept (λ (h : Done ≡ ErrorsFault). cc));
    }

pub returns-in_default-clause-does : goal.returns-in_default-clause-does
returns-in_default-clause-does g c =
    let input = c.args.input.now in
    let m = c.args.machine.now in
    let n = c.move_to.new.machine in
    let t = c.args.trail.now in
    let v = c.move_to.new.trail in
    let broken = not_done c.move_to.result c.in_default.not-Done in
    let steps : State → Course → Course = λ start course. walked course (c.args.budget - course.state.parts.steps) in
    does_when input m n t v (g.O.Sink.held c.args.output.now) (g.O.Sink.held c.move_to.new.output) (g.E.Sink.held c.args.errors.now) (g.E.Sink.held c.move_to.new.errors) (λ start course. printed ended_line (steps start course)) true (is_fault c.move_to.result) (sym broken)
    (does_cut input m n t v (g.O.Sink.held c.args.output.now) (g.O.Sink.held c.move_to.new.output) (g.E.Sink.held c.args.errors.now) (g.E.Sink.held c.move_to.new.errors) steps (λ start course. printed ended_line (steps start course))
    (λ start course w. appends_put ended_line (steps start course))
    (does_when input m n t v (g.O.Sink.held c.args.output.now) (g.O.Sink.held c.move_to.new.output) (g.E.Sink.held c.args.errors.now) (g.E.Sink.held c.move_to.new.errors) steps (is_fault c.move_to.result) true broken c.move_to.ensures.does))
