use Rattle.std.proofs.Common.{◌≡◌, ℕ, ◌-◌, Bool, List, [], Option, IfSome, IfOk, Result, Ok, Err, is_err, true, false, refl, sym, ap, subst, ◌∙◌, arith}
use Rattle.std.specs.Bool.{OnTrue}
use Rattle.std.specs.Result.{OnOk}
use Rattle.emu_model.specs.State.{Parts, State}
use Rattle.emu_machine.specs.Machines.{MachineState}
use Rattle.dbg_model.specs.Session.{Course, walked}
use Rattle.dbg_back.specs.declared.trail.Trail.{Trail}
use Rattle.dbg_back.specs.Walks.{Does, IsWalk}
use Rattle.dbg_back.proofs.Doing.{does_as, does_when}
use Rattle.debug_points.specs.declared.aims.Aim.{Aim}
use Rattle.debug_points.specs.declared.aims.Aim.TheVariants as aims
use Rattle.debug_points.specs.Points.{Points}
use Rattle.debug_moves.specs.declared.ends.Broken.{Broken}
use Rattle.debug_moves.specs.declared.session.Reached.{Reached}
use Rattle.debug_moves.specs.Sessions.{MeetsStop, Moved, limit, moved_on, moved_unmet, next_met, seek_until, unmet}
use Rattle.debug_moves.proofs.Seeks.{Sought, cut_does, does_in, ends_does, ends_points, ends_reached, on_as, seeks_pass, seeks_start}
use Rattle.debug_moves.proofs.Staying.{stays_in, stays_same, stays_then, still_on, walks_in}
use Rattle.debug_moves.proofs.Stops.{appends_next, seek_free}
use Rattle.debug_moves.proofs.session.Session.seek.Goals as goal

-- ---- up to the limit of a command

module _ (aim : Aim) (slice budget until : ℕ) (points : Points) (input : List ℕ) (m : MachineState) (t : Trail) (is : until ≡ limit m.parts.steps slice budget) where
  limit_is : (start : State) (c : Course) → IsWalk start input c m t → seek_until aim budget until points c ≡ moved_on aim slice budget points c
  limit_is start c w = ap (λ (k : ℕ). seek_until aim budget k points c) (is ∙ ap (λ (p : Parts). limit p.steps slice budget) w.here.parts)

  -- where nothing is sought
  module _ (free : aim ≡ aims.Stops) (none : points.items ≡ []) where
    free_is : (start : State) (c : Course) → IsWalk start input c m t → moved_on aim slice budget points c ≡ moved_unmet budget points (walked c (until - c.state.parts.steps))
    free_is start c w =
        sym (limit_is start c w) ∙ ap (λ (a : Aim). seek_until a budget until points c) free ∙ seek_free budget points none (until - c.state.parts.steps) c

    module _ (n : MachineState) (v : Trail) (hp hq ep eq : Option (List ℕ)) where
      free_points : (r : Result Reached Broken) → OnOk r ((start : State) (c : Course) → IsWalk start input c m t → points ≡ (moved_on aim slice budget points c).points)
      free_points (Ok x) = λ start c w. ap (λ (y : Moved). y.points) (sym (free_is start c w))
      free_points (Err e) = tt

      free_reached : (r : Result Reached Broken) → Does (λ start c. walked c (until - c.state.parts.steps)) input m n t v hp hq ep eq (is_err r) → IfOk r (λ x. x ≡ unmet budget n.parts)
          → IfOk r (λ x. (start : State) (c : Course) → IsWalk start input c m t → x ≡ (moved_on aim slice budget points c).reached)
      free_reached (Ok x) d is_unmet = λ start c w. is_unmet ∙ ap (unmet budget) (d.walks start c w refl).here.parts ∙ ap (λ (y : Moved). y.reached) (sym (free_is start c w))
      free_reached (Err e) d is_unmet = tt

pub returns-then-is_free : goal.returns-then-is_free
returns-then-is_free g c =
    let aim = c.args.aim in
    let slice = c.args.self.now.slice in
    let budget = c.args.self.now.budget in
    let until = c.limit-limit.result in
    let points : Points = c.args.self.now.points in
    let input = c.args.self.now.input.now in
    let m = c.args.machine.now in
    let t = c.args.trail.now in
    let n = c.run_free.new.machine in
    let v = c.run_free.new.trail in
    let hp = g.O.Sink.held c.args.output.now in
    let hq = g.O.Sink.held c.run_free.new.output in
    let ep = g.E.Sink.held c.args.errors.now in
    let eq = g.E.Sink.held c.run_free.new.errors in
    let free = subst (λ (b : Bool). OnTrue b (aim ≡ aims.Stops)) c.if-is_free.true c.is_free.ensures.aim in
    let none = subst (λ (b : Bool). OnTrue b (points.items ≡ [])) c.if-is_free.true c.is_free.ensures.none in
    record {
      does = does_as input m n t v hp hq ep eq (λ start k. walked k (until - k.state.parts.steps)) (λ start k. (moved_on aim slice budget points k).course) (is_err c.run_free.result)
          (λ start k w. ap (λ (y : Moved). y.course) (sym (free_is aim slice budget until points input m t c.limit-limit.ensures free none start k w))) c.run_free.ensures.does;
      points = free_points aim slice budget until points input m t c.limit-limit.ensures free none n v hp hq ep eq c.run_free.result;
      reached = free_reached aim slice budget until points input m t c.limit-limit.ensures free none n v hp hq ep eq c.run_free.result c.run_free.ensures.does c.run_free.ensures.reached;
      stays = c.run_free.ensures.stays;
      input = refl;
      met = c.run_free.ensures.met;
    }

pub seek-init : goal.seek-init
seek-init g c = record {
  seeks = seeks_start (λ start. seek_until c.args.aim c.args.self.now.budget c.limit-limit.result) c.args.self.now.input.now c.args.self.now.points c.args.machine.now c.args.trail.now (g.O.Sink.held c.args.output.now) (g.E.Sink.held c.args.errors.now);
  budget = refl;
  stays = stays_same;
  input = refl;
}

pub seek_once-requires : goal.seek_once-requires
seek_once-requires g c = record { walks = walks_in (sym c.seek.invariant.input) (still_on c.seek.invariant.stays c.requires.walks) }

pub seek-preserved : goal.seek-preserved
seek-preserved g c =
    let aim = c.args.aim in
    let budget = c.args.self.now.budget in
    let until = c.limit-limit.result in
    let seek : ℕ → State → Sought = λ b start. seek_until aim b until in
    let input = c.args.self.now.input.now in
    let other = c.seek.self.input.now in
    let points : Points = c.seek.self.points in
    let left : Points = c.seek_once.new.self.points in
    let n = c.seek.machine in
    let v = c.seek.trail in
    let u = c.seek_once.new.machine in
    let w = c.seek_once.new.trail in
    let hq = g.O.Sink.held c.seek.output in
    let hu = g.O.Sink.held c.seek_once.new.output in
    let eq = g.E.Sink.held c.seek.errors in
    let eu = g.E.Sink.held c.seek_once.new.errors in
    let next : State → Course → Course = λ start. next_met aim until points in
    record {
      seeks = seeks_pass (seek budget) input c.args.self.now.points points left c.args.machine.now n u c.args.trail.now v w (g.O.Sink.held c.args.output.now) hq hu (g.E.Sink.held c.args.errors.now) eq eu next c.seek.invariant.seeks
          (does_in next input other n u v w hq hu eq eu false c.seek.invariant.input c.in_ok-reached.ensures.does) _
          (on_as seek c.seek.self.budget budget input other points left n v next _ c.seek.invariant.budget c.seek.invariant.input c.in_ok-reached.ensures.on) c.in-None.is;
      budget = c.in_ok-reached.ensures.budget ∙ c.seek.invariant.budget;
      stays = stays_then c.seek.invariant.stays (stays_in c.seek.invariant.input c.in_ok-reached.ensures.stays);
      input = c.in_ok-reached.ensures.input ∙ c.seek.invariant.input;
    }

pub seek-smaller : goal.seek-smaller
seek-smaller g c = let more = c.in_ok-reached.ensures.further c.in-None.is in omega (arith, more)

pub returns-in-Some : goal.returns-in-Some
returns-in-Some g c =
    let aim = c.args.aim in
    let slice = c.args.self.now.slice in
    let budget = c.args.self.now.budget in
    let until = c.limit-limit.result in
    let seek : ℕ → State → Sought = λ b start. seek_until aim b until in
    let input = c.args.self.now.input.now in
    let other = c.seek.self.input.now in
    let first : Points = c.args.self.now.points in
    let points : Points = c.seek.self.points in
    let left : Points = c.seek_once.new.self.points in
    let m = c.args.machine.now in
    let t = c.args.trail.now in
    let n = c.seek.machine in
    let v = c.seek.trail in
    let u = c.seek_once.new.machine in
    let w = c.seek_once.new.trail in
    let hp = g.O.Sink.held c.args.output.now in
    let hq = g.O.Sink.held c.seek.output in
    let hu = g.O.Sink.held c.seek_once.new.output in
    let ep = g.E.Sink.held c.args.errors.now in
    let eq = g.E.Sink.held c.seek.errors in
    let eu = g.E.Sink.held c.seek_once.new.errors in
    let next : State → Course → Course = λ start. next_met aim until points in
    let d = does_in next input other n u v w hq hu eq eu false c.seek.invariant.input c.in_ok-reached.ensures.does in
    let on = on_as seek c.seek.self.budget budget input other points left n v next _ c.seek.invariant.budget c.seek.invariant.input c.in_ok-reached.ensures.on in
    let same = limit_is aim slice budget until first input m t c.limit-limit.ensures in
    record {
      does = does_as input m u t w hp hu ep eu (λ start k. (seek_until aim budget until first k).course) (λ start k. (moved_on aim slice budget first k).course) false
          (λ start k s. ap (λ (y : Moved). y.course) (same start k s))
          (ends_does (seek budget) input first points left m n u t v w hp hq hu ep eq eu next c.seek.invariant.seeks d _ on c.in-Some.reached c.in-Some.is);
      points = λ start k s. ends_points (seek budget) input first points left m n u t v w hp hq hu ep eq eu next c.seek.invariant.seeks d _ on c.in-Some.reached c.in-Some.is start k s ∙ ap (λ (y : Moved). y.points) (same start k s);
      reached = λ start k s. ends_reached (seek budget) input first points left m n u t v w hp hq hu ep eq eu next c.seek.invariant.seeks d _ on c.in-Some.reached c.in-Some.is start k s ∙ ap (λ (y : Moved). y.reached) (same start k s);
      stays = stays_then c.seek.invariant.stays (stays_in c.seek.invariant.input c.in_ok-reached.ensures.stays);
      input = c.in_ok-reached.ensures.input ∙ c.seek.invariant.input;
      met = subst (λ (o : Option Reached). IfSome o (MeetsStop c.seek_once.new.machine)) c.in-Some.is c.in_ok-reached.ensures.met;
    }

pub returns-in_err-reached-clause-does : goal.returns-in_err-reached-clause-does
returns-in_err-reached-clause-does g c =
    let aim = c.args.aim in
    let slice = c.args.self.now.slice in
    let budget = c.args.self.now.budget in
    let until = c.limit-limit.result in
    let seek : State → Sought = λ start. seek_until aim budget until in
    let input = c.args.self.now.input.now in
    let other = c.seek.self.input.now in
    let first : Points = c.args.self.now.points in
    let points : Points = c.seek.self.points in
    let m = c.args.machine.now in
    let t = c.args.trail.now in
    let n = c.seek.machine in
    let v = c.seek.trail in
    let u = c.seek_once.new.machine in
    let w = c.seek_once.new.trail in
    let hp = g.O.Sink.held c.args.output.now in
    let hq = g.O.Sink.held c.seek.output in
    let hu = g.O.Sink.held c.seek_once.new.output in
    let ep = g.E.Sink.held c.args.errors.now in
    let eq = g.E.Sink.held c.seek.errors in
    let eu = g.E.Sink.held c.seek_once.new.errors in
    let next : State → Course → Course = λ start. next_met aim until points in
    let d = does_in next input other n u v w hq hu eq eu true c.seek.invariant.input c.in_err-reached.ensures.does in
    does_when input m u t w hp hu ep eu (λ start k. (moved_on aim slice budget first k).course) true (is_err c.from_residual.result) (sym c.from_residual.ensures.0)
    (does_as input m u t w hp hu ep eu (λ start k. (seek_until aim budget until first k).course) (λ start k. (moved_on aim slice budget first k).course) true
    (λ start k s. ap (λ (y : Moved). y.course) (limit_is aim slice budget until first input m t c.limit-limit.ensures start k s))
    (cut_does seek input first points points m n u t v w hp hq hu ep eq eu next c.seek.invariant.seeks d (λ start k s. appends_next aim budget until points k)))

pub returns-in_err-reached-clause-input : goal.returns-in_err-reached-clause-input
returns-in_err-reached-clause-input g c = c.seek_once.ensures.input ∙ c.seek.invariant.input
