use Rattle.std.proofs.Common.{◌-◌, false, is_err, sym, ◌∙◌}
use Rattle.dbg_model.specs.Session.{walked}
use Rattle.dbg_back.specs.Ends.{is_fault}
use Rattle.dbg_back.proofs.Doing.{does_when}
use Rattle.debug_moves.proofs.Staying.{none_failed, some_failed, stays_by}
use Rattle.debug_moves.proofs.session.Session.run_free.Goals as goal

pub returns : goal.returns
returns g c =
    let fine = none_failed c.done.result _ c.done.ensures c.in_ok-done.was in
    record {
      does = does_when c.args.self.now.input.now c.args.machine.now c.move_to.new.machine c.args.trail.now c.move_to.new.trail (g.O.Sink.held c.args.output.now) (g.O.Sink.held c.move_to.new.output) (g.E.Sink.held c.args.errors.now) (g.E.Sink.held c.move_to.new.errors)
          (λ start course. walked course (c.args.limit - course.state.parts.steps)) (is_fault c.move_to.result) false fine c.move_to.ensures.does;
      reached = c.unmet.ensures.unmet;
      stays = stays_by fine c.move_to.ensures.does;
      met = c.unmet.ensures.met;
    }

pub returns-in_err-done-clause-does : goal.returns-in_err-done-clause-does
returns-in_err-done-clause-does g c =
    does_when c.args.self.now.input.now c.args.machine.now c.move_to.new.machine c.args.trail.now c.move_to.new.trail (g.O.Sink.held c.args.output.now) (g.O.Sink.held c.move_to.new.output) (g.E.Sink.held c.args.errors.now) (g.E.Sink.held c.move_to.new.errors)
    (λ start course. walked course (c.args.limit - course.state.parts.steps)) (is_fault c.move_to.result) (is_err c.from_residual.result)
    (some_failed c.done.result _ c.done.ensures c.in_err-done.was ∙ sym c.from_residual.ensures.0) c.move_to.ensures.does
