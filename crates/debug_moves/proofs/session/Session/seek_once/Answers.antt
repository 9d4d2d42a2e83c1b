use Rattle.std.proofs.Common.{◌≡◌, ◌-◌, List, Some, None, false, is_err, refl, sym, ap, ◌∙◌, arith}
use Rattle.emu_model.specs.declared.access.Access.{Access}
use Rattle.emu_model.specs.State.{Parts}
use Rattle.dbg_model.specs.Session.{Course}
use Rattle.dbg_back.specs.Ends.{is_fault}
use Rattle.dbg_back.proofs.Doing.{does_when}
use Rattle.debug_walk.specs.Walks.{made_before_sought}
use Rattle.debug_points.specs.Points.{Points, goal_meets}
use Rattle.debug_moves.specs.declared.session.Reached.{Reached}
use Rattle.debug_moves.specs.Sessions.{Met, met_first, next_met, seek_until, stop_or, unmet}
use Rattle.debug_moves.proofs.Reaching.{stop_as}
use Rattle.debug_moves.proofs.Staying.{none_failed, some_failed, stays_by}
use Rattle.debug_moves.proofs.Stops.{met_counts, met_left, met_on, unmet_on}
use Rattle.debug_moves.proofs.session.Session.seek_once.Goals as goal

pub returns-then-found : goal.returns-then-found
returns-then-found g c =
    let aim = c.args.aim.now in
    let until = c.args.limit in
    let points : Points = c.args.self.now.points in
    let budget = c.args.self.now.budget in
    let input = c.args.self.now.input.now in
    let n = c.forward-found.new.machine in
    let fine = none_failed c.done.result _ c.done.ensures c.in_ok-done.was in
    let met = sym c.if-found.true in
    record {
      does = does_when input c.args.machine.now n c.args.trail.now c.forward-found.new.trail (g.O.Sink.held c.args.output.now) (g.O.Sink.held c.forward-found.new.output) (g.E.Sink.held c.args.errors.now) (g.E.Sink.held c.forward-found.new.errors)
          (λ start. next_met aim until points) (is_fault c.forward-found.result.end) false fine c.forward-found.ensures.does;
      on = λ start course w.
          let there = c.forward-found.ensures.does.walks start course w fine in
          let is_met = met ∙ c.forward-found.ensures.met fine start course w in
          let d : Course = next_met aim until points course in
          let made : List Access = made_before_sought (goal_meets points.items aim) course (until - course.state.parts.steps) in
          let same : met_first points n.parts n.accesses ≡ met_first points d.state.parts made =
          ap (λ (p : Parts). met_first points p n.accesses) there.here.parts ∙ ap (λ (a : List Access). met_first points d.state.parts a) (c.forward-found.ensures.accesses c.if-found.true start course w) in
          let there_met : Met = met_first points d.state.parts made in
          met_on aim budget until points course is_met
          ∙ stop_as there_met.reached c.stop.result there_met.points c.stop.new.self.points d (λ left. seek_until aim budget until left d) (λ left. seek_until aim budget until left d)
          (c.stop.ensures.stops ∙ ap (λ (x : Met). x.reached) same) (c.stop.ensures.points ∙ ap (λ (x : Met). x.points) same) refl;
      further = λ _.
          let can = c.requires.walks in
          let there = c.forward-found.ensures.does.walks can.start can.course can.walk fine in
          let is_met = met ∙ c.forward-found.ensures.met fine can.start can.course can.walk in
          let counts = met_counts aim budget until points can.course is_met in
          let below = met_left aim budget until points can.course is_met in
          let from = ap (λ (p : Parts). p.steps) can.walk.here.parts in
          let to = ap (λ (p : Parts). p.steps) there.here.parts in
          omega (arith, counts, below, from, to);
      budget = c.stop.ensures.budget;
      stays = stays_by fine c.forward-found.ensures.does;
      input = c.stop.ensures.input;
      met = c.stop.ensures.met;
    }

pub returns-else-found : goal.returns-else-found
returns-else-found g c =
    let aim = c.args.aim.now in
    let until = c.args.limit in
    let points : Points = c.args.self.now.points in
    let budget = c.args.self.now.budget in
    let input = c.args.self.now.input.now in
    let n = c.forward-found.new.machine in
    let fine = none_failed c.done.result _ c.done.ensures c.in_ok-done.was in
    record {
      does = does_when input c.args.machine.now n c.args.trail.now c.forward-found.new.trail (g.O.Sink.held c.args.output.now) (g.O.Sink.held c.forward-found.new.output) (g.E.Sink.held c.args.errors.now) (g.E.Sink.held c.forward-found.new.errors)
          (λ start. next_met aim until points) (is_fault c.forward-found.result.end) false fine c.forward-found.ensures.does;
      on = λ start course w.
          let there = c.forward-found.ensures.does.walks start course w fine in
          let d : Course = next_met aim until points course in
          unmet_on aim budget until points course (sym c.if-found.false ∙ c.forward-found.ensures.met fine start course w)
          ∙ ap (λ (r : Reached). stop_or (Some r) points d (λ left. seek_until aim budget until left d)) (sym (c.unmet.ensures.unmet ∙ ap (unmet budget) there.here.parts));
      further = λ (none : Some c.unmet.result ≡ None). cc;
      budget = refl;
      stays = stays_by fine c.forward-found.ensures.does;
      input = refl;
      met = c.unmet.ensures.met;
    }

pub returns-in_err-done-clause-does : goal.returns-in_err-done-clause-does
returns-in_err-done-clause-does g c =
    does_when c.args.self.now.input.now c.args.machine.now c.forward-found.new.machine c.args.trail.now c.forward-found.new.trail (g.O.Sink.held c.args.output.now) (g.O.Sink.held c.forward-found.new.output) (g.E.Sink.held c.args.errors.now) (g.E.Sink.held c.forward-found.new.errors)
    (λ start. next_met c.args.aim.now c.args.limit c.args.self.now.points) (is_fault c.forward-found.result.end) (is_err c.from_residual.result)
    (some_failed c.done.result _ c.done.ensures c.in_err-done.was ∙ sym c.from_residual.ensures.0) c.forward-found.ensures.does
