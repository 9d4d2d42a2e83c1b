use Rattle.std.proofs.Common.{◌≡◌, ℕ, ◌-◌, min, List, Option, Some, None, false, refl, sym, ap, subst, ◌∙◌, arith}
use Rattle.emu_model.specs.State.{Parts, State}
use Rattle.emu_machine.specs.Machines.{MachineState}
use Rattle.dbg_model.specs.Session.{Course}
use Rattle.dbg_back.specs.declared.trail.Trail.{Trail}
use Rattle.dbg_back.specs.Walks.{Does, IsWalk}
use Rattle.dbg_back.proofs.Doing.{does_as}
use Rattle.debug_points.specs.declared.aims.Aim.{Aim}
use Rattle.debug_points.specs.Points.{Points}
use Rattle.debug_moves.specs.declared.session.Reached.{Reached}
use Rattle.debug_moves.specs.Sessions.{Moved, back_from, met_before, moved_back}
use Rattle.debug_moves.proofs.Seeks.{OnTo, Sought, does_in, ends_does, ends_points, ends_reached, on_as, seeks_pass, seeks_start}
use Rattle.debug_moves.proofs.Staying.{stays_in, stays_same, stays_then, still_on, walks_in}
use Rattle.debug_moves.proofs.session.Session.seek_back.Goals as goal

-- a slice of steps at most
slice_is : (aim : Aim) (slice budget least : ℕ) (points : Points) (input : List ℕ) (m : MachineState) (t : Trail) → least ≡ m.parts.steps - slice
    → (start : State) (c : Course) → IsWalk start input c m t → back_from aim budget start least points c ≡ moved_back aim slice budget points start c
slice_is aim slice budget least points input m t is start c w = ap (λ (k : ℕ). back_from aim budget start k points c) (is ∙ ap (λ (p : Parts). p.steps - slice) w.here.parts)

-- from the one behind `least` steps on, which are no more than are counted
module _ (aim : Aim) (a b : ℕ) (input other : List ℕ) (points left : Points) (n u : MachineState) (v w : Trail) (o : Option Reached) (bound least : ℕ) (same : bound ≡ least) where
  bound_does : (held errs : Option (List ℕ)) → other ≡ input → Does (λ start. met_before aim start bound points) other n u v w held held errs errs false → Does (λ start. met_before aim start least points) input n u v w held held errs errs false
  bound_does held errs inputs d = subst (λ (k : ℕ). Does (λ start. met_before aim start k points) input n u v w held held errs errs false) same (does_in (λ start. met_before aim start bound points) input other n u v w held held errs errs false inputs d)

  bound_on : a ≡ b → other ≡ input → OnTo (λ start. back_from aim a start bound) other points left n v (λ start. met_before aim start bound points) o → OnTo (λ start. back_from aim b start least) input points left n v (λ start. met_before aim start least points) o
  bound_on budgets inputs on =
      subst (λ (k : ℕ). OnTo (λ start. back_from aim b start k) input points left n v (λ start. met_before aim start k points) o) same
      (on_as (λ (x : ℕ) start. back_from aim x start bound) a b input other points left n v (λ start. met_before aim start bound points) o budgets inputs on)

pub seek-init : goal.seek-init
seek-init c = record {
  seeks = λ held errs. seeks_start (λ start. back_from c.args.aim c.args.self.now.budget start c.saturating_sub-least.result) c.args.self.now.input.now c.args.self.now.points c.args.machine.now c.args.trail.now held errs;
  budget = refl;
  behind = omega arith;
  stays = stays_same;
  input = refl;
}

pub seek_back_once-requires : goal.seek_back_once-requires
seek_back_once-requires c = record { walks = walks_in (sym c.seek.invariant.input) (still_on c.seek.invariant.stays c.requires.walks) }

pub seek-preserved : goal.seek-preserved
seek-preserved c =
    let aim = c.args.aim in
    let budget = c.args.self.now.budget in
    let least = c.saturating_sub-least.result in
    let input = c.args.self.now.input.now in
    let other = c.seek.self.input.now in
    let points : Points = c.seek.self.points in
    let left : Points = c.seek_back_once.new.self.points in
    let n = c.seek.machine in
    let v = c.seek.trail in
    let u = c.seek_back_once.new.machine in
    let w = c.seek_back_once.new.trail in
    let within = c.seek.invariant.behind in
    let same : min least n.parts.steps ≡ least = omega (arith, within) in
    let over = c.in-None.ensures.behind refl in
    record {
      seeks = λ held errs.
          seeks_pass (λ start. back_from aim budget start least) input c.args.self.now.points points left c.args.machine.now n u c.args.trail.now v w held held held errs errs errs (λ start. met_before aim start least points) (c.seek.invariant.seeks held errs)
          (bound_does aim c.seek.self.budget budget input other points left n u v w None (min least n.parts.steps) least same held errs c.seek.invariant.input (c.in-None.ensures.does held errs)) None
          (bound_on aim c.seek.self.budget budget input other points left n u v w None (min least n.parts.steps) least same c.seek.invariant.budget c.seek.invariant.input c.in-None.ensures.back) refl;
      budget = c.in-None.ensures.budget ∙ c.seek.invariant.budget;
      behind = omega (arith, over, same);
      stays = stays_then c.seek.invariant.stays (stays_in c.seek.invariant.input c.in-None.ensures.stays);
      input = c.in-None.ensures.input ∙ c.seek.invariant.input;
    }

pub seek-smaller : goal.seek-smaller
seek-smaller c = c.in-None.ensures.further refl

pub returns-in-Some : goal.returns-in-Some
returns-in-Some c =
    let aim = c.args.aim in
    let slice = c.args.self.now.slice in
    let budget = c.args.self.now.budget in
    let least = c.saturating_sub-least.result in
    let input = c.args.self.now.input.now in
    let other = c.seek.self.input.now in
    let first : Points = c.args.self.now.points in
    let points : Points = c.seek.self.points in
    let left : Points = c.seek_back_once.new.self.points in
    let m = c.args.machine.now in
    let t = c.args.trail.now in
    let n = c.seek.machine in
    let v = c.seek.trail in
    let u = c.seek_back_once.new.machine in
    let w = c.seek_back_once.new.trail in
    let within = c.seek.invariant.behind in
    let same : min least n.parts.steps ≡ least = omega (arith, within) in
    let reached = c.in-Some.reached in
    let seek : State → Sought = λ start. back_from aim budget start least in
    let next : State → Course → Course = λ start. met_before aim start least points in
    let d = λ (held errs : Option (List ℕ)). bound_does aim c.seek.self.budget budget input other points left n u v w (Some reached) (min least n.parts.steps) least same held errs c.seek.invariant.input (c.in-Some.ensures.does held errs) in
    let on = bound_on aim c.seek.self.budget budget input other points left n u v w (Some reached) (min least n.parts.steps) least same c.seek.invariant.budget c.seek.invariant.input c.in-Some.ensures.back in
    let sliced = slice_is aim slice budget least first input m t (c.saturating_sub-least.ensures ∙ ap (λ (k : ℕ). k - slice) c.steps.ensures) in
    record {
      does = λ held errs.
          does_as input m u t w held held errs errs (λ start k. (back_from aim budget start least first k).course) (λ start k. (moved_back aim slice budget first start k).course) false
          (λ start k s. ap (λ (y : Moved). y.course) (sliced start k s))
          (ends_does seek input first points left m n u t v w held held held errs errs errs next (c.seek.invariant.seeks held errs) (d held errs) (Some reached) on reached refl);
      points = λ start k s. ends_points seek input first points left m n u t v w None None None None None None next (c.seek.invariant.seeks None None) (d None None) (Some reached) on reached refl start k s ∙ ap (λ (y : Moved). y.points) (sliced start k s);
      reached = λ start k s. ends_reached seek input first points left m n u t v w None None None None None None next (c.seek.invariant.seeks None None) (d None None) (Some reached) on reached refl start k s ∙ ap (λ (y : Moved). y.reached) (sliced start k s);
      stays = stays_then c.seek.invariant.stays (stays_in c.seek.invariant.input c.in-Some.ensures.stays);
      input = c.in-Some.ensures.input ∙ c.seek.invariant.input;
      met = c.in-Some.ensures.met;
    }
