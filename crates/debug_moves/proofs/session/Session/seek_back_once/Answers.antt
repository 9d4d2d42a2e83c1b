use Rattle.std.proofs.Common.{◌≡◌, ◌≤◌, ◌<◌, ℕ, min, List, Option, Some, None, IfSome, true, false, is_some, refl, sym, ap, subst, ◌∙◌, arith}
use Rattle.emu_model.specs.State.{Parts, State}
use Rattle.emu_machine.specs.Machines.{MachineState}
use Rattle.dbg_model.specs.Session.{Course}
use Rattle.dbg_back.specs.declared.trail.Trail.{Trail}
use Rattle.dbg_back.specs.Walks.{Does, IsWalk}
use Rattle.debug_walk.specs.Walks.{last_met, machines_before, made_before}
use Rattle.debug_points.specs.declared.aims.Aim.{Aim}
use Rattle.debug_points.specs.Points.{Points, goal_meets}
use Rattle.debug_moves.specs.declared.session.Reached.{Reached}
use Rattle.debug_moves.specs.Sessions.{back_from, met_before, met_first, stop_or, unmet}
use Rattle.debug_moves.proofs.Backs.{met_behind_least, met_before_less, met_from, unmet_from}
use Rattle.debug_moves.proofs.Staying.{stays_by}
use Rattle.debug_moves.proofs.session.Session.seek_back_once.Goals as goal

-- ---- what the last machine that meets the goal says of where the walk ends

module _ (aim : Aim) (budget least : ℕ) (points : Points) (start : State) (input : List ℕ) (c : Course) (m : MachineState) (t : Trail) (w : IsWalk start input c m t) (within : least ≤ m.parts.steps)
    (n : MachineState) (v : Trail) (at : IsWalk start input (met_before aim start least points c) n v) where
  abbrev last : Option ℕ
  last = last_met (goal_meets points.items aim) start least (machines_before c.state.parts)

  behind : least ≤ c.state.parts.steps
  behind = let same = ap (λ (p : Parts). p.steps) w.here.parts in omega (arith, same, within)

  module _ (o : Option Reached) (left : Points) (reached : o ≡ (met_first points n.parts n.accesses).reached) (points_left : left ≡ (met_first points n.parts n.accesses).points) where
    some_from : (k : Option ℕ) → last ≡ k → true ≡ is_some k → IfSome k (λ j. n.accesses ≡ made_before start j)
        → back_from aim budget start least points c ≡ stop_or o left (met_before aim start least points c) (λ more. back_from aim budget start least more (met_before aim start least points c))
    some_from (Some k) is met made = met_from aim budget start least input c m t w behind points k is n v at made o left reached points_left
    some_from None is met made = let both : true ≡ false = met in cc

  module _ (reached : Reached) where
    none_from : (k : Option ℕ) → last ≡ k → false ≡ is_some k → reached ≡ unmet budget n.parts
        → back_from aim budget start least points c ≡ stop_or (Some reached) points (met_before aim start least points c) (λ more. back_from aim budget start least more (met_before aim start least points c))
    none_from None is met unmet_there = unmet_from aim budget start least input c m t w behind points is n v at reached unmet_there
    none_from (Some k) is met unmet_there = let both : false ≡ true = met in cc

  some_less : (k : Option ℕ) → last ≡ k → true ≡ is_some k → machines_before n.parts < machines_before m.parts
  some_less (Some k) is met =
      let less = met_before_less aim budget start least input c m t w behind points k is in
      let from = ap machines_before w.here.parts in
      let to = ap machines_before at.here.parts in
      omega (arith, less, from, to)
  some_less None is met = let both : true ≡ false = met in cc

  some_behind : (k : Option ℕ) → last ≡ k → true ≡ is_some k → least ≤ n.parts.steps
  some_behind (Some k) is met =
      let over = met_behind_least aim budget start least input c m t w behind points k is in
      let to = ap (λ (p : Parts). p.steps) at.here.parts in
      omega (arith, over, to)
  some_behind None is met = let both : true ≡ false = met in cc

-- the same from the one behind another name of as many steps
module _ (aim : Aim) (points : Points) (input : List ℕ) (m n : MachineState) (t v : Trail) (least bound : ℕ) (same : least ≡ bound) where
  does_from : ((held errs : Option (List ℕ)) → Does (λ start. met_before aim start least points) input m n t v held held errs errs false) → (held errs : Option (List ℕ)) → Does (λ start. met_before aim start bound points) input m n t v held held errs errs false
  does_from d = subst (λ (b : ℕ). (held errs : Option (List ℕ)) → Does (λ start. met_before aim start b points) input m n t v held held errs errs false) same d

  back_bound : (budget : ℕ) (start : State) (k : Course) (o : Option Reached) (left : Points)
      → back_from aim budget start least points k ≡ stop_or o left (met_before aim start least points k) (λ more. back_from aim budget start least more (met_before aim start least points k))
      → back_from aim budget start bound points k ≡ stop_or o left (met_before aim start bound points k) (λ more. back_from aim budget start bound more (met_before aim start bound points k))
  back_bound budget start k o left is = subst (λ (b : ℕ). back_from aim budget start b points k ≡ stop_or o left (met_before aim start b points k) (λ more. back_from aim budget start b more (met_before aim start b points k))) same is

pub returns-then-backward : goal.returns-then-backward
returns-then-backward c =
    let aim = c.args.aim.now in
    let budget = c.args.self.now.budget in
    let least = c.min-behind.result in
    let points : Points = c.args.self.now.points in
    let input = c.args.self.now.input.now in
    let m = c.args.machine.now in
    let t = c.args.trail.now in
    let n = c.backward.new.machine in
    let v = c.backward.new.trail in
    let walks = λ (start : State) (k : Course) (w : IsWalk start input k m t). (c.backward.ensures.does None None).walks start k w refl in
    let within : least ≤ m.parts.steps = omega arith in
    let bound = min c.args.least m.parts.steps in
    let same : least ≡ bound = omega arith in
    let can = c.requires.walks in
    let met = sym c.if-backward.true in
    record {
      does = does_from aim points input m n t v least bound same c.backward.ensures.does;
      back = λ start k w.
          back_bound aim points input m n t v least bound same budget start k c.stop.result c.stop.new.self.points
          (some_from aim budget least points start input k m t w within n v (walks start k w) c.stop.result c.stop.new.self.points c.stop.ensures.stops c.stop.ensures.points _ refl (met ∙ c.backward.ensures.met start k w)
          (c.backward.ensures.accesses c.if-backward.true start k w));
      further = λ _. some_less aim budget least points can.start input can.course m t can.walk within n v (walks can.start can.course can.walk) _ refl (met ∙ c.backward.ensures.met can.start can.course can.walk);
      behind = λ _. subst (λ (b : ℕ). b ≤ n.parts.steps) same (some_behind aim budget least points can.start input can.course m t can.walk within n v (walks can.start can.course can.walk) _ refl (met ∙ c.backward.ensures.met can.start can.course can.walk));
      budget = c.stop.ensures.budget;
      stays = stays_by refl (c.backward.ensures.does None None);
      input = c.stop.ensures.input;
      met = c.stop.ensures.met;
    }

pub returns-else-backward : goal.returns-else-backward
returns-else-backward c =
    let aim = c.args.aim.now in
    let budget = c.args.self.now.budget in
    let least = c.min-behind.result in
    let points : Points = c.args.self.now.points in
    let input = c.args.self.now.input.now in
    let m = c.args.machine.now in
    let t = c.args.trail.now in
    let n = c.backward.new.machine in
    let v = c.backward.new.trail in
    let within : least ≤ m.parts.steps = omega arith in
    let bound = min c.args.least m.parts.steps in
    let same : least ≡ bound = omega arith in
    let met = sym c.if-backward.false in
    record {
      does = does_from aim points input m n t v least bound same c.backward.ensures.does;
      back = λ start k w.
          back_bound aim points input m n t v least bound same budget start k (Some c.unmet.result) points
          (none_from aim budget least points start input k m t w within n v ((c.backward.ensures.does None None).walks start k w refl) c.unmet.result _ refl (met ∙ c.backward.ensures.met start k w) c.unmet.ensures.unmet);
      further = λ (none : Some c.unmet.result ≡ None). cc;
      behind = λ (none : Some c.unmet.result ≡ None). cc;
      budget = refl;
      stays = stays_by refl (c.backward.ensures.does None None);
      input = refl;
      met = c.unmet.ensures.met;
    }
