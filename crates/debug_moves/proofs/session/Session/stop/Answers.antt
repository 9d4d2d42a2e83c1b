use Rattle.std.proofs.Common.{◌≡◌, ℕ, List, Some, true, false, slice_get, sym, ap, ◌∙◌, refl}
use Rattle.emu_model.specs.declared.access.Access.{Access}
use Rattle.emu_model.specs.State.{Parts}
use Rattle.debug_points.specs.declared.points.Point.{Point}
use Rattle.debug_points.specs.Points.{Points, first_met}
use Rattle.debug_moves.specs.Sessions.{Met}
use Rattle.debug_moves.proofs.Reaching.{is_met, met_aim, points_are, reached_is}
use Rattle.debug_moves.proofs.session.Session.stop.Goals as goal

pub returns-in-None : goal.returns-in-None
returns-in-None c =
    let aim = met_aim c.args.self.now.points c.args.machine.now.parts c.args.machine.now.accesses (sym c.first_met.ensures.first ∙ c.in-None.is) in
    record {
      input = refl;
      slice = refl;
      budget = refl;
      stops = ap (λ (x : Met). x.reached) (sym aim);
      points = ap (λ (x : Met). x.points) (sym aim);
      met = tt;
    }

pub returns-then-stops : goal.returns-then-stops
returns-then-stops c =
    let points : Points = c.args.self.now.points in
    let m : Parts = c.args.machine.now.parts in
    let made : List Access = c.args.machine.now.accesses in
    let place : ℕ = c.in-Some.place in
    let p : Point = c.point_at-point.result in
    let first : first_met points.items m made ≡ Some place = sym c.first_met.ensures.first ∙ c.in-Some.is in
    let at : slice_get points.items place ≡ Some p = ap (λ (xs : List Point). slice_get xs place) (sym c.items.ensures) ∙ c.point_at-point.ensures in
    record {
      input = refl;
      slice = refl;
      budget = refl;
      stops = reached_is points m made place p first at true (sym c.if-stops.true ∙ c.stops.ensures.stops p at);
      points = points_are points m made place p first at c.stops.new.self (c.stops.ensures.behind p at);
      met = is_met points m made place p first at;
    }

pub returns-else-stops : goal.returns-else-stops
returns-else-stops c =
    let points : Points = c.args.self.now.points in
    let m : Parts = c.args.machine.now.parts in
    let made : List Access = c.args.machine.now.accesses in
    let place : ℕ = c.in-Some.place in
    let p : Point = c.point_at-point.result in
    let first : first_met points.items m made ≡ Some place = sym c.first_met.ensures.first ∙ c.in-Some.is in
    let at : slice_get points.items place ≡ Some p = ap (λ (xs : List Point). slice_get xs place) (sym c.items.ensures) ∙ c.point_at-point.ensures in
    record {
      input = refl;
      slice = refl;
      budget = refl;
      stops = reached_is points m made place p first at false (sym c.if-stops.false ∙ c.stops.ensures.stops p at);
      points = points_are points m made place p first at c.stops.new.self (c.stops.ensures.behind p at);
      met = tt;
    }
