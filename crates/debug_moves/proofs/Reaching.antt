-- What is reached is met.
use Rattle.std.proofs.Common.{◌≡◌, ℕ, Bool, true, false, ◌||◌, List, Option, Some, None, slice_get, is_some, nat_eq, nat_le, if◌then◌else◌, refl, sym, ap, subst, ◌∙◌}
use Rattle.std.proofs.lemmas.List.Quantifiers.{position-Some}
use Rattle.std.proofs.lemmas.Option.{get_or_from_slice_get}
use Rattle.emu_model.specs.declared.access.Access.{Access}
use Rattle.emu_model.specs.State.{Parts}
use Rattle.emu_machine.specs.Machines.{MachineState}
use Rattle.dbg_model.specs.Session.{Course}
use Rattle.debug_points.specs.declared.points.Point.{Point}
use Rattle.debug_points.specs.Points.{Points, behind_met, first_met, point_meets}
use Rattle.debug_moves.specs.declared.session.Reached.TheVariants as reached
use Rattle.debug_moves.specs.declared.session.Reached.{Reached}
use Rattle.debug_moves.specs.Sessions.{MeetsStop, Met, Moved, met_by, met_first, met_place, met_point, stop_or, unmet}

-- where nothing is met
pub meets_unmet : (m : MachineState) (budget : ℕ) (p : Parts) → MeetsStop m (unmet budget p)
meets_unmet m budget p =
    elim (is_some p.ended || (nat_le budget p.steps || nat_eq p.steps 0)) as (λ b. MeetsStop m (if b then reached.End else reached.Slice)) [
      | true ↦ tt
      | false ↦ tt
    ]

module _ (points : Points) (m : Parts) (made : List Access) where
  -- none of the breaks and watches
  pub met_aim : first_met points.items m made ≡ None → met_first points m made ≡ record { reached = Some reached.Aim; points = points }
  met_aim none = ap (met_by points) none

  -- the first of them
  module _ (place : ℕ) (p : Point) (first : first_met points.items m made ≡ Some place) (at : slice_get points.items place ≡ Some p) where
    pub is_met : point_meets m made p ≡ true
    is_met =
        let met = position-Some (point_meets m made) points.items place p first in
        subst (λ (q : Point). point_meets m made q ≡ true) (get_or_from_slice_get points.items place p p at) met.1

    pub met_is : met_first points m made ≡ met_point points place p
    met_is = ap (met_by points) first ∙ ap (met_place points place) at

    pub reached_is : (b : Bool) → b ≡ nat_eq p.ignored 0 → (if b then Some (reached.Stop p) else None) ≡ (met_first points m made).reached
    reached_is b same = ap (λ (x : Bool). if x then Some (reached.Stop p) else None) same ∙ ap (λ (x : Met). x.reached) (sym met_is)

    pub points_are : (left : Points) → left ≡ behind_met place p points → left ≡ (met_first points m made).points
    points_are left same = same ∙ ap (λ (x : Met). x.points) (sym met_is)

-- ---- the same stop, or the same that comes of what is left

stop_pass : (o : Option Reached) (left : Points) (d : Course) (f g : Points → Moved) → f left ≡ g left → stop_or o left d f ≡ stop_or o left d g
stop_pass (Some reached) left d f g same = refl
stop_pass None left d f g same = same

pub stop_as : (o p : Option Reached) (left more : Points) (d : Course) (f g : Points → Moved) → p ≡ o → more ≡ left → f left ≡ g left → stop_or o left d f ≡ stop_or p more d g
stop_as o p left more d f g reached points same =
    stop_pass o left d f g same
    ∙ ap (λ (q : Option Reached). stop_or q left d g) (sym reached)
    ∙ ap (λ (l : Points). stop_or p l d g) (sym points)
