use Rattle.std.proofs.Common.{◌≡◌, Bool, ◌-◌, sym, ap, subst, ◌∙◌}
use Rattle.std.specs.Bool.{OnTrue}
use Rattle.dbg_model.specs.Session.{Points, no_points, ended_line, go, walked, printed}
use Rattle.dbg_back.specs.Ends.{is_fault}
use Rattle.dbg_back.proofs.Courses.{go_without}
use Rattle.dbg_back.proofs.Doing.{does_as}
use Rattle.dbg_back.proofs.moves.go.Goals as goal

pub returns-then-is_empty-clause-does : goal.returns-then-is_empty-clause-does
returns-then-is_empty-clause-does g c =
    let none : c.args.points.now ≡ no_points = subst (λ (b : Bool). OnTrue b (c.args.points.now ≡ no_points)) c.if-is_empty.true c.is_empty.ensures.none in
    does_as c.args.input.now c.args.machine.now c.go_free.new.machine c.args.trail.now c.go_free.new.trail (g.O.Sink.held c.args.output.now) (g.O.Sink.held c.go_free.new.output) (g.E.Sink.held c.args.errors.now) (g.E.Sink.held c.go_free.new.errors)
    (λ start course. printed ended_line (walked course (c.args.budget - course.state.parts.steps))) (λ start course. go c.args.points.now course (c.args.budget - course.state.parts.steps)) (is_fault c.go_free.result)
    (λ start course w. sym (ap (λ (p : Points). go p course (c.args.budget - course.state.parts.steps)) none ∙ go_without (c.args.budget - course.state.parts.steps) course))
    c.go_free.ensures.does
