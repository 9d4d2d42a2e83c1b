use Rattle.std.proofs.Common.{refl, sym, ap}
use Rattle.dbg_model.specs.declared.script.Command.{Command}
use Rattle.dbg_model.specs.Session.{obeyed, printed}
use Rattle.dbg_core.specs.Stops.{shown_behind}
use Rattle.dbg_back.specs.Ends.{end_of_put, is_fault}
use Rattle.dbg_back.proofs.Doing.{does_as, does_put, does_when}
use Rattle.dbg_back.proofs.Lines.{shows}
use Rattle.dbg_back.proofs.Streams.{put_errs, put_write}
use Rattle.dbg_back.proofs.session.obey.Goals as goal

pub returns-in_default : goal.returns-in_default
returns-in_default g c =
    let m = c.args.machine.now in
    let t = c.args.trail.now in
    let command = c.args.command.now in
    let line = c.show.result in
    let is = c.end_of_put.ensures in
    record {
      does = does_when c.args.input.now m m t t _ _ _ _ (λ start. obeyed start command c.args.points.now c.args.budget) (is_fault (end_of_put line)) (is_fault c.end_of_put.result) (ap is_fault (sym is))
          (does_as c.args.input.now m m t t _ _ _ _ (λ start. printed (shown_behind command)) (λ start. obeyed start command c.args.points.now c.args.budget) (is_fault (end_of_put line))
          (λ start course w. shows command c.args.points.now c.args.budget c.in_default.not-Step c.in_default.not-Go c.in_default.not-Back start course)
          (does_put c.args.input.now m t (g.O.Sink.held c.args.output.now) (g.O.Sink.held c.show.new.output) (g.E.Sink.held c.args.errors.now) (shown_behind command) line c.show.ensures.bytes));
      write_cause = put_write line c.end_of_put.result is _ _ _ refl c.show.ensures.cause;
      errors_cause = put_errs line c.end_of_put.result is _ _ refl;
    }

pub returns-in-Step-clause-does : goal.returns-in-Step-clause-does
returns-in-Step-clause-does g c =
    does_as c.args.input.now c.args.machine.now c.step.new.machine c.args.trail.now c.step.new.trail (g.O.Sink.held c.args.output.now) (g.O.Sink.held c.step.new.output) (g.E.Sink.held c.args.errors.now) (g.E.Sink.held c.step.new.errors)
    _ (λ start. obeyed start c.args.command.now c.args.points.now c.args.budget) (is_fault c.step.result)
    (λ start course w. sym (ap (λ (x : Command). obeyed start x c.args.points.now c.args.budget course) c.in-Step.is)) c.step.ensures.does

pub returns-in-Go-clause-does : goal.returns-in-Go-clause-does
returns-in-Go-clause-does g c =
    does_as c.args.input.now c.args.machine.now c.go.new.machine c.args.trail.now c.go.new.trail (g.O.Sink.held c.args.output.now) (g.O.Sink.held c.go.new.output) (g.E.Sink.held c.args.errors.now) (g.E.Sink.held c.go.new.errors)
    _ (λ start. obeyed start c.args.command.now c.args.points.now c.args.budget) (is_fault c.go.result)
    (λ start course w. sym (ap (λ (x : Command). obeyed start x c.args.points.now c.args.budget course) c.in-Go.is)) c.go.ensures.does

pub returns-in-Back-clause-does : goal.returns-in-Back-clause-does
returns-in-Back-clause-does g c =
    does_as c.args.input.now c.args.machine.now c.go_back.new.machine c.args.trail.now c.go_back.new.trail (g.O.Sink.held c.args.output.now) (g.O.Sink.held c.go_back.new.output) (g.E.Sink.held c.args.errors.now) (g.E.Sink.held c.args.errors.now)
    _ (λ start. obeyed start c.args.command.now c.args.points.now c.args.budget) (is_fault c.go_back.result)
    (λ start course w. sym (ap (λ (x : Command). obeyed start x c.args.points.now c.args.budget course) c.in-Back.is)) (c.go_back.ensures.does (g.E.Sink.held c.args.errors.now))
