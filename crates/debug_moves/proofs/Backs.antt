-- Back to a stop: the last machine that meets a break, a watch or the aim, by what a walk back tells.
use Rattle.std.proofs.Common.{◌≡◌, ◌≤◌, ◌<◌, ℕ, zero, suc, ◌-◌, ◌^◌, true, false, List, Option, Some, None, is_none, nat_le, if◌then◌else◌, refl, sym, ap, ◌∙◌, arith}
use Rattle.std.specs.Prelude.{unwrap_or}
use Rattle.emu_model.specs.declared.access.Access.{Access}
use Rattle.emu_model.specs.declared.trap.Ended.{Ended}
use Rattle.emu_model.specs.State.{Parts, State}
use Rattle.emu_run.specs.Run.{until_end}
use Rattle.emu_machine.specs.Machines.{MachineState}
use Rattle.dbg_model.specs.Session.{Course}
use Rattle.dbg_back.specs.declared.trail.Trail.{Trail}
use Rattle.dbg_back.specs.Walks.{IsWalk}
use Rattle.debug_walk.specs.Walks.{back_at, is_met_at, last_met, machines_before, made_before, trap_count}
use Rattle.debug_walk.proofs.Asking.{found_among}
use Rattle.debug_walk.proofs.Backing.{before_most, placed}
use Rattle.debug_walk.proofs.Counting.{IsEarlier, walk_earlier}
use Rattle.debug_points.specs.declared.aims.Aim.{Aim}
use Rattle.debug_points.specs.Points.{Points, goal_meets}
use Rattle.debug_moves.specs.declared.session.Reached.{Reached}
use Rattle.debug_moves.specs.Sessions.{Met, Moved, back_from, met_before, met_first, moved_unmet, seek_back, stop_or, unmet}
use Rattle.debug_moves.proofs.Reaching.{stop_as}

-- ---- the machine behind so many steps

pub back_placed : (start : State) (c : Course) (k : ℕ) → k ≤ c.state.parts.steps → back_at start k c ≡ placed start k c
back_placed start c k within =
    let same : c.state.parts.steps - (c.state.parts.steps - k) ≡ k = omega (arith, within) in
    ap (λ (i : ℕ). placed start i c) same

-- further back from there
pub back_again : (start : State) (c : Course) (m k : ℕ) → (until_end start m).parts.steps ≡ m → m ≤ c.state.parts.steps → k ≤ m → back_at start k c ≡ back_at start k (placed start m c)
back_again start c m k counted within before =
    let d : Course = placed start m c in
    let same : d.state.parts.steps - (d.state.parts.steps - k) ≡ k = omega (arith, counted, before) in
    back_placed start c k (omega (arith, within, before)) ∙ sym (ap (λ (i : ℕ). placed start i c) same)

not_trapped : (e : Option Ended) → is_none e ≡ true → trap_count e ≡ 0
not_trapped None going = refl
not_trapped (Some x) going = cc

-- so many machines stand before it
pub machines_there : (m : Parts) (k : ℕ) → is_none m.ended ≡ true → m.steps ≡ k → k ≤ 2 ^ 64 - 1 → machines_before m ≡ k
machines_there m k going counted most = let none = not_trapped m.ended going in omega (arith, none, counted, most)

module _ (aim : Aim) (budget : ℕ) (start : State) (least : ℕ) where
  abbrev pub met_back : Points → ℕ → Met
  met_back points k = met_first points (until_end start k).parts (made_before start k)

  abbrev pub back_there : Course → Points → ℕ → Moved
  back_there c points k = stop_or (met_back points k).reached (met_back points k).points (back_at start k c) (λ left. seek_back aim budget start least c left k)

  -- by the last that meets the goal
  abbrev pub back_by : Course → Points → Option ℕ → Moved
  back_by c points None = moved_unmet budget points (back_at start least c)
  back_by c points (Some k) = back_there c points k

  back-zero : (c : Course) (points : Points) → seek_back aim budget start least c points 0 ≡ moved_unmet budget points (back_at start least c)
  unfolding seek_back
  back-zero c points = refl

  back-suc : (c : Course) (points : Points) (n : ℕ) → seek_back aim budget start least c points (suc n) ≡ (if nat_le least n then (if is_met_at (goal_meets points.items aim) start n then back_there c points n else seek_back aim budget start least c points n) else moved_unmet budget points (back_at start least c))
  unfolding seek_back
  back-suc c points n = refl

  last-zero : (points : Points) → last_met (goal_meets points.items aim) start least 0 ≡ None
  unfolding last_met
  last-zero points = refl

  last-suc : (points : Points) (n : ℕ) → last_met (goal_meets points.items aim) start least (suc n) ≡ (if nat_le least n then (if is_met_at (goal_meets points.items aim) start n then Some n else last_met (goal_meets points.items aim) start least n) else None)
  unfolding last_met
  last-suc points n = refl

  pub back_last : (c : Course) (points : Points) (n : ℕ) → seek_back aim budget start least c points n ≡ back_by c points (last_met (goal_meets points.items aim) start least n)
  back_last c points zero = back-zero c points ∙ ap (back_by c points) (sym (last-zero points))
  back_last c points (suc n) =
      back-suc c points n
      ∙ elim (nat_le least n) as (λ b. (if b then (if is_met_at (goal_meets points.items aim) start n then back_there c points n else seek_back aim budget start least c points n) else moved_unmet budget points (back_at start least c)) ≡ back_by c points (if b then (if is_met_at (goal_meets points.items aim) start n then Some n else last_met (goal_meets points.items aim) start least n) else None)) [
        | true ↦ elim (is_met_at (goal_meets points.items aim) start n) as (λ b. (if b then back_there c points n else seek_back aim budget start least c points n) ≡ back_by c points (if b then Some n else last_met (goal_meets points.items aim) start least n)) [
          | true ↦ refl
          | false ↦ back_last c points n
        ]
        | false ↦ refl
      ]
      ∙ ap (back_by c points) (sym (last-suc points n))

  -- ---- from a machine further back

  module _ (c d : Course) (m : ℕ) (again : (k : ℕ) → k ≤ m → back_at start k c ≡ back_at start k d) (behind : least ≤ m) where
    there_as : (o : Option Reached) (left : Points) (n : ℕ) → n ≤ m → seek_back aim budget start least c left n ≡ seek_back aim budget start least d left n
        → stop_or o left (back_at start n c) (λ more. seek_back aim budget start least c more n) ≡ stop_or o left (back_at start n d) (λ more. seek_back aim budget start least d more n)
    there_as (Some reached) left n within rest = ap (λ (e : Course). stop_or (Some reached) left e (λ more. seek_back aim budget start least d more n)) (again n within)
    there_as None left n within rest = rest

    pub back_as : (n : ℕ) (points : Points) → n ≤ m → seek_back aim budget start least c points n ≡ seek_back aim budget start least d points n
    back_as zero points within = back-zero c points ∙ ap (λ (e : Course). moved_unmet budget points e) (again least behind) ∙ sym (back-zero d points)
    back_as (suc n) points within =
        let less : n ≤ m = omega (arith, within) in
        back-suc c points n
        ∙ elim (nat_le least n) as (λ b. (if b then (if is_met_at (goal_meets points.items aim) start n then back_there c points n else seek_back aim budget start least c points n) else moved_unmet budget points (back_at start least c)) ≡ (if b then (if is_met_at (goal_meets points.items aim) start n then back_there d points n else seek_back aim budget start least d points n) else moved_unmet budget points (back_at start least d))) [
          | true ↦ elim (is_met_at (goal_meets points.items aim) start n) as (λ b. (if b then back_there c points n else seek_back aim budget start least c points n) ≡ (if b then back_there d points n else seek_back aim budget start least d points n)) [
            | true ↦ there_as (met_back points n).reached (met_back points n).points n less (back_as n (met_back points n).points less)
            | false ↦ back_as n points less
          ]
          | false ↦ ap (λ (e : Course). moved_unmet budget points e) (again least behind)
        ]
        ∙ sym (back-suc d points n)

  -- ---- by what a walk back tells

  module _ (input : List ℕ) (c : Course) (m : MachineState) (t : Trail) (w : IsWalk start input c m t) (behind : least ≤ c.state.parts.steps) (points : Points) where
    -- where it ends, by the last that meets the goal
    there_by : (o : Option ℕ) → last_met (goal_meets points.items aim) start least (machines_before c.state.parts) ≡ o → met_before aim start least points c ≡ back_at start (unwrap_or o least) c
    there_by o is = ap (λ (p : Option ℕ). back_at start (unwrap_or p least) c) is

    module _ (k : ℕ) (met : last_met (goal_meets points.items aim) start least (machines_before c.state.parts) ≡ Some k) where
      among : (least ≤ k) × (k < machines_before c.state.parts)
      among = found_among (goal_meets points.items aim) start least (machines_before c.state.parts) k met

      earlier : IsEarlier start k
      earlier = walk_earlier start input c m t w k among.1

      within : k ≤ c.state.parts.steps
      within = let under = among.1 in let most = before_most c.state.parts in omega (arith, under, most)

      there_is : met_before aim start least points c ≡ placed start k c
      there_is = there_by (Some k) met ∙ back_placed start c k within

      there_before : machines_before (met_before aim start least points c).state.parts ≡ k
      there_before =
          let at = ap (λ (d : Course). d.state.parts) there_is in
          let under = among.1 in
          let most : machines_before c.state.parts ≤ 2 ^ 64 - 1 = omega arith in
          machines_there (met_before aim start least points c).state.parts k (ap (λ (p : Parts). is_none p.ended) at ∙ earlier.going) (ap (λ (p : Parts). p.steps) at ∙ earlier.counted) (omega (arith, under, most))

      pub met_before_less : machines_before (met_before aim start least points c).state.parts < machines_before c.state.parts
      met_before_less = let same = there_before in let under = among.1 in omega (arith, same, under)

      pub met_behind_least : least ≤ (met_before aim start least points c).state.parts.steps
      met_behind_least =
          let at = ap (λ (d : Course). d.state.parts.steps) there_is in
          let counted = earlier.counted in
          let over = among.0 in
          omega (arith, at, counted, over)

      rest_there : (left : Points) → seek_back aim budget start least c left k ≡ back_from aim budget start least left (met_before aim start least points c)
      rest_there left =
          back_as c (placed start k c) k (λ j h. back_again start c k j earlier.counted within h) among.0 k left (omega arith)
          ∙ ap (λ (d : Course). seek_back aim budget start least d left k) (sym there_is)
          ∙ ap (λ (n : ℕ). seek_back aim budget start least (met_before aim start least points c) left n) (sym there_before)

      pub met_from : (n : MachineState) (v : Trail) → IsWalk start input (met_before aim start least points c) n v → n.accesses ≡ made_before start k → (o : Option Reached) (left : Points)
          → o ≡ (met_first points n.parts n.accesses).reached → left ≡ (met_first points n.parts n.accesses).points
          → back_from aim budget start least points c ≡ stop_or o left (met_before aim start least points c) (λ more. back_from aim budget start least more (met_before aim start least points c))
      met_from n v at made o left reached points_left =
          let parts = at.here.parts ∙ ap (λ (d : Course). d.state.parts) there_is in
          let same : met_first points n.parts n.accesses ≡ met_back points k = ap (λ (p : Parts). met_first points p n.accesses) parts ∙ ap (λ (made : List Access). met_first points (until_end start k).parts made) made in
          back_last c points (machines_before c.state.parts) ∙ ap (back_by c points) met
          ∙ ap (λ (d : Course). stop_or (met_back points k).reached (met_back points k).points d (λ more. seek_back aim budget start least c more k)) (sym (there_by (Some k) met))
          ∙ stop_as (met_back points k).reached o (met_back points k).points left (met_before aim start least points c) (λ more. seek_back aim budget start least c more k) (λ more. back_from aim budget start least more (met_before aim start least points c))
          (reached ∙ ap (λ (x : Met). x.reached) same) (points_left ∙ ap (λ (x : Met). x.points) same) (rest_there (met_back points k).points)

    pub unmet_from : last_met (goal_meets points.items aim) start least (machines_before c.state.parts) ≡ None → (n : MachineState) (v : Trail) → IsWalk start input (met_before aim start least points c) n v → (reached : Reached) → reached ≡ unmet budget n.parts
        → back_from aim budget start least points c ≡ stop_or (Some reached) points (met_before aim start least points c) (λ more. back_from aim budget start least more (met_before aim start least points c))
    unmet_from none n v at reached is =
        back_last c points (machines_before c.state.parts) ∙ ap (back_by c points) none
        ∙ ap (λ (d : Course). moved_unmet budget points d) (sym (there_by None none))
        ∙ ap (λ (r : Reached). stop_or (Some r) points (met_before aim start least points c) (λ more. back_from aim budget start least more (met_before aim start least points c))) (sym (is ∙ ap (unmet budget) at.here.parts))
