-- The steps of a whole turn, as steps of the schedule.
use Rattle.std.proofs.Common.{◌≡◌, ◌<◌, ◌≤◌, inl, ℕ, zero, suc, ◌+◌, ◌-◌, Bool, true, false, List, length, is_none, nat_eq, if◌then◌else◌, refl, sym, ap, subst, ◌∙◌, arith}
use Rattle.std.proofs.lemmas.Bool.{eqb-false}
use Rattle.std.specs.List.{list_all}
use Rattle.guest_schedule.specs.Turns.{has_steps}
use Rattle.emu_run.specs.declared.thread.SchedulePlace.{SchedulePlace}
use Rattle.emu_run.specs.Threads.{next_place, next_turn, turn_at}
use Rattle.emu_run.specs.Worlds.{World, taken_by_context}
use Rattle.guest_threads.specs.Ends.{IsPicked}
use Rattle.guest_threads.specs.Quiet.{AdvancesToEnd, AreFollowed, AreQuiet, FollowsOn, FollowsToEnd, IsFollowed, IsQuiet}
use Rattle.guest_threads.proofs.Picked.{goes_over, place_at, placed_at}
use Rattle.guest_threads.proofs.Quiet.{before_last, from_brought, quiet_steps}
use Rattle.guest_threads.proofs.Stood.{Stood, moved, moved_turn, moved_used, stood_on}

-- a place at the beginning of a turn
pub begins_at : (p : SchedulePlace) → p.used ≡ 0 → p.held ≡ 0 → place_at p.turn 0 0 ≡ p
begins_at p used held = ap (λ (n : ℕ). place_at p.turn n 0) (sym used) ∙ ap (λ (n : ℕ). place_at p.turn p.used n) (sym held)

held_by : (t u n k : ℕ) (b : Bool) (p : SchedulePlace) → p ≡ (if b then place_at t 0 0 else place_at u (n + 1) k) → p.used ≡ 0 → p.held ≡ 0
held_by t u n k true p is used = ap (λ (x : SchedulePlace). x.held) is
held_by t u n k false p is used = let e = ap (λ (x : SchedulePlace). x.used) is in absurd (omega (arith, e, used))

-- and so is each place behind a step of which no step is used
pub begins_behind : (w : World) (schedule : List (ℕ × ℕ)) (p q : SchedulePlace) (k : ℕ) → q ≡ next_place w schedule p k → q.used ≡ 0 → q.held ≡ 0
begins_behind w schedule p q k is used = held_by (next_turn schedule p.turn) p.turn p.used k _ q is used

pub next_within : (schedule : List (ℕ × ℕ)) (t : ℕ) → t < length schedule → next_turn schedule t < length schedule
next_within schedule t within =
    elim (nat_eq (t + 1) (length schedule)) as (λ b. nat_eq (t + 1) (length schedule) ≡ b → (if b then 0 else t + 1) < length schedule) [
      | true ↦ λ e. omega (arith, within)
      | false ↦ λ e. let other = eqb-false (t + 1) (length schedule) e in omega (arith, within, other)
    ] refl

-- no step was taken
pub turn_stays : (schedule : List (ℕ × ℕ)) (turn : ℕ) (w : World) (budget : ℕ) → is_none w.ended ≡ true → list_all has_steps schedule ≡ true → turn < length schedule → w.steps ≤ budget
    → FollowsOn schedule budget (place_at turn 0 0) w (place_at turn 0 0) w
turn_stays schedule turn w budget goes all within most = record { count = 0; followed = (refl, refl); goes = goes; most = most; placed = placed_at w schedule turn all within }

module _ (schedule : List (ℕ × ℕ)) (turn : ℕ) (w : World) (budget until k : ℕ) (picked : IsPicked w schedule (place_at turn 0 0) k) (goes : is_none w.ended ≡ true)
    (all : list_all has_steps schedule ≡ true) (within : turn < length schedule) (is_until : until ≡ w.steps + (turn_at schedule turn).1) (most : until ≤ budget) where
  -- steps of the schedule from there
  abbrev Comes : SchedulePlace → World → Type 0
  Comes p u = (n : ℕ) × AreFollowed n schedule (place_at turn 0 0) w p u

  comes_on : (p q : SchedulePlace) (x v : World) → Comes p x → IsFollowed schedule p x q v → is_none x.ended ≡ true → x.steps < budget → Comes q v
  comes_on p q x v c f on below = (suc c.0, (p, x, (c.1, f)))

  -- so many steps of the turn, which isn't used up behind them
  in_turn : (n : ℕ) (u : World) → AreQuiet n k w u → u.steps < until → Stood schedule budget k Comes comes_on (moved (place_at turn 0 0) k n) u
  in_turn n u quiet below =
      let steps = quiet_steps n k w u quiet in
      stood_on schedule budget k Comes comes_on n (place_at turn 0 0) w u
      (record { holds = (0, (refl, refl)); picked = picked.is; at = picked.at; goes = goes })
      quiet (omega (arith, steps, below, is_until)) (omega (arith, below, most))

  -- some steps of the turn were
  pub turn_within : (n : ℕ) (v : World) (used : ℕ) → AreQuiet n k (taken_by_context k w) v → v.steps < until → (v.steps ≡ w.steps → ⊥) → used ≡ v.steps - w.steps
      → FollowsOn schedule budget (place_at turn 0 0) w (place_at turn used k) v
  turn_within zero v used same below apart_so is = absurd (apart_so (ap (λ (x : World). x.steps) same))
  turn_within (suc n) v used quiet below apart_so is =
      let r : AreQuiet (suc n) k w v = from_brought k w n v quiet in
      let s = in_turn (suc n) v r below in
      let steps = quiet_steps (suc n) k w v r in
      let same : 0 + suc n ≡ used = omega (arith, steps, is) in
      subst (λ (m : ℕ). FollowsOn schedule budget (place_at turn 0 0) w (place_at turn m k) v) same (record {
        count = s.holds.0;
        followed = s.holds.1;
        goes = s.goes;
        most = omega (arith, below, most);
        placed = record { turn = within; used = omega (arith, steps, below, is_until); held = λ _. s.at };
      })

  -- all were
  pub turn_whole : (n : ℕ) (v : World) → AreQuiet n k (taken_by_context k w) v → v.steps ≡ until → (v.steps ≡ w.steps → ⊥)
      → FollowsOn schedule budget (place_at turn 0 0) w (place_at (next_turn schedule turn) 0 0) v
  turn_whole zero v same spent apart_so = absurd (apart_so (ap (λ (x : World). x.steps) same))
  turn_whole (suc n) v quiet spent apart_so =
      let r = from_brought k w n v quiet in
      let u : World = r.0 in
      let so_far : AreQuiet n k w u = r.1.0 in
      let s : IsQuiet k u v = r.1.1 in
      let counted = s.counted in
      let p : SchedulePlace = moved (place_at turn 0 0) k n in
      let stood = in_turn n u so_far (omega (arith, counted, spent)) in
      let steps = quiet_steps n k w u so_far in
      let same : p.turn ≡ turn = moved_turn (place_at turn 0 0) k n in
      let used = moved_used (place_at turn 0 0) k n in
      let last : p.used + 1 ≡ (turn_at schedule p.turn).1 = subst (λ (t : ℕ). p.used + 1 ≡ (turn_at schedule t).1) (sym same) (omega (arith, used, steps, counted, spent, is_until)) in
      let next : place_at (next_turn schedule turn) 0 0 ≡ next_place v schedule p k =
      goes_over v schedule p k (next_turn schedule turn) (inl last) (ap (λ (t : ℕ). next_turn schedule t) (sym same)) in
      record {
        count = suc stood.holds.0;
        followed = (p, u, (stood.holds.1, record { context = k; picked = stood.picked; at = stood.at; quiet = s; next = next }));
        goes = s.goes;
        most = omega (arith, spent, most);
        placed = placed_at v schedule (next_turn schedule turn) all (next_within schedule turn within);
      }

  -- one ended the world
  pub turn_ends : (v : World) → AdvancesToEnd until (taken_by_context k w) v → FollowsToEnd schedule budget (place_at turn 0 0) w v
  turn_ends v d =
      let r = before_last k w d.count d.at v d.quiet d.is in
      let x : World = r.0 in
      let same : x.steps ≡ d.at.steps = r.1.1.1 in
      let near = d.below in
      let below : x.steps < until = omega (arith, same, near) in
      let stood = in_turn d.count x r.1.0 below in
      record {
        count = stood.holds.0;
        place = moved (place_at turn 0 0) k d.count;
        at = x;
        followed = stood.holds.1;
        context = k;
        picked = stood.picked;
        ready = stood.at;
        goes = stood.goes;
        below = omega (arith, below, most);
        is = r.1.1.0;
        ended = d.ended;
      }
