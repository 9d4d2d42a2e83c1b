-- The context that takes the next step, found among those that are ready.
use Rattle.std.proofs.Common.{◌≡◌, ◌<◌, ◌⊎◌, inl, inr, ℕ, ◌+◌, ◌-◌, ◌%◌, Bool, true, false, not, ◌||◌, List, Option, None, length, get_or, nat_eq, if◌then◌else◌, refl, sym, ap, subst, ◌∙◌, arith}
use Rattle.std.specs.List.{All, list_all, list_any}
use Rattle.std.proofs.lemmas.Bool.{eq-eqb, false_from_ne_true, ne_eqb, or_right}
use Rattle.std.proofs.lemmas.List.Folds.{list_any_at}
use Rattle.emu_model.specs.State.{Parts}
use Rattle.emu_run.specs.declared.thread.SchedulePlace.{SchedulePlace}
use Rattle.emu_run.specs.declared.thread.Standing.{Standing}
use Rattle.emu_run.specs.declared.thread.Standing.TheVariants.{Ready, Waiting, Gone}
use Rattle.emu_model.specs.declared.trap.Ended.{Ended}
use Rattle.emu_run.specs.declared.thread.WorldEnding.TheVariants.{Spent as IsSpent, Stuck as IsStuck}
use Rattle.guest_schedule.specs.Turns.{has_steps}
use Rattle.guest_threads.specs.declared.ends.WorldEnd.TheVariants.{Spent, Stuck}
use Rattle.emu_run.specs.Threads.{ending, is_over, next_place, next_turn, turn_at, ready_at}
use Rattle.emu_run.specs.Worlds.{World, Context, context, no_context, is_ready, is_standing_ready, ready, some_ready}
use Rattle.guest_contexts.specs.Laid.{laid, world_of}
use Rattle.guest_contexts.proofs.Begins.{has_one, turn_is}
use Rattle.guest_contexts.specs.Standings.{ready_among, IsReadyIn}
use Rattle.guest_contexts.proofs.Laid.{laid_length, ready_at_same, ready_same, some_ready_same}
use Rattle.guest_threads.specs.Ends.{IsPicked, IsPlace, IsReadyAt, end_of_world, world_end}

pub standing_of : (s : Standing) → is_standing_ready s ≡ true → s ≡ Ready
standing_of Ready h = refl
standing_of (Waiting a) h = cc
standing_of Gone h = cc

-- a context that is ready in the list is so in the world
pub ready_here : (m : Parts) (last : ℕ) (cs : List Context) (k : ℕ) → k < length cs → is_ready (get_or cs k no_context) ≡ true → IsReadyAt (world_of m last cs) k
ready_here m last cs k within h = record {
  within = subst (λ (n : ℕ). k < n) (sym (laid_length m last cs)) within;
  ready = standing_of (get_or (laid m last cs) k no_context).standing (ready_at_same m last cs k ∙ h);
}

pub some_by : (w : World) (k : ℕ) → IsReadyAt w k → some_ready w ≡ true
some_by w k at = list_any_at is_ready w.contexts k no_context at.within (ap is_standing_ready at.ready)

pub picked_held : (w : World) (schedule : List (ℕ × ℕ)) (p : SchedulePlace) → IsPlace w schedule p → (p.used ≡ 0 → ⊥) → IsPicked w schedule p p.held
picked_held w schedule p placed used =
    let off : nat_eq p.used 0 ≡ false = ne_eqb p.used 0 used in
    record {
      is = sym (ap (λ (b : Bool). if b then ready_at w (turn_at schedule p.turn).0 else p.held) off);
      at = placed.held off;
      some = some_by w p.held (placed.held off);
    }

-- none is ready
pub picked_none : (m : Parts) (last : ℕ) (cs : List Context) (numbers : List ℕ) → (list_any is_ready cs ≡ true → 0 < length numbers) → length numbers ≡ 0 → some_ready (world_of m last cs) ≡ false
picked_none m last cs numbers some none = some_ready_same m last cs ∙ false_from_ne_true (list_any is_ready cs) (λ h. let e = some h in omega (arith, e, none))

-- the one at a place
pub picked_at : (m : Parts) (last : ℕ) (cs : List Context) (schedule : List (ℕ × ℕ)) (p : SchedulePlace) (numbers : List ℕ) (at k : ℕ) → numbers ≡ ready_among cs → All (IsReadyIn cs) numbers
    → p.used ≡ 0 → p.turn < length schedule → at ≡ (get_or schedule p.turn (0, 0)).0 % length numbers → at < length numbers → k ≡ get_or numbers at 0 → IsPicked (world_of m last cs) schedule p k
picked_at m last cs schedule p numbers at k are each used within is_at below here =
    let w : World = world_of m last cs in
    let one = each at 0 below in
    let so : IsReadyIn cs k = subst (λ (n : ℕ). IsReadyIn cs n) (sym here) one in
    let all : numbers ≡ ready w = are ∙ sym (ready_same m last cs) in
    let place : get_or schedule p.turn (0, 0) ≡ turn_at schedule p.turn = turn_is schedule p.turn within in
    let ready_so : IsReadyAt w k = ready_here m last cs k so.within so.ready in
    record {
      is = here
          ∙ ap (λ (n : ℕ). get_or numbers n 0) (is_at ∙ ap (λ (t : ℕ × ℕ). t.0 % length numbers) place)
          ∙ ap (λ (l : List ℕ). get_or l ((turn_at schedule p.turn).0 % length l) 0) all
          ∙ sym (ap (λ (b : Bool). if b then ready_at w (turn_at schedule p.turn).0 else p.held) (eq-eqb p.used 0 used));
      at = ready_so;
      some = some_by w k ready_so;
    }

-- ---- how a run ends that stops here

pub spent_of : (w : World) → w.ended ≡ None → some_ready w ≡ true → Spent ≡ end_of_world w
spent_of w none h = sym (ap (λ (e : Option Ended). world_end (ending w e)) none ∙ ap (λ (b : Bool). world_end (if b then IsSpent else IsStuck)) h)

pub stuck_of : (w : World) → w.ended ≡ None → some_ready w ≡ false → Stuck ≡ end_of_world w
stuck_of w none h = sym (ap (λ (e : Option Ended). world_end (ending w e)) none ∙ ap (λ (b : Bool). world_end (if b then IsSpent else IsStuck)) h)

-- ---- the place behind a step

abbrev pub place_at : ℕ → ℕ → ℕ → SchedulePlace
place_at turn used held = record { turn = turn; used = used; held = held }

-- whether the turn is over
pub is_over_by : (w : World) (schedule : List (ℕ × ℕ)) (p : SchedulePlace) (k : ℕ) → (p.used + 1 ≡ (turn_at schedule p.turn).1) ⊎ (is_ready (context w k) ≡ false) → is_over w schedule p k ≡ true
is_over_by w schedule p k (inl last) = ap (λ (b : Bool). b || not (is_ready (context w k))) (eq-eqb (p.used + 1) (turn_at schedule p.turn).1 last)
is_over_by w schedule p k (inr gone) = ap (λ (b : Bool). nat_eq (p.used + 1) (turn_at schedule p.turn).1 || not b) gone ∙ or_right (nat_eq (p.used + 1) (turn_at schedule p.turn).1) true refl

-- the same of a turn of which so many steps are used up
pub over_behind : (w : World) (schedule : List (ℕ × ℕ)) (turn used k : ℕ) → 0 < used → (used ≡ (turn_at schedule turn).1) ⊎ (is_ready (context w k) ≡ false)
    → (used - 1 + 1 ≡ (turn_at schedule turn).1) ⊎ (is_ready (context w k) ≡ false)
over_behind w schedule turn used k some (inl last) = inl (omega (arith, some, last))
over_behind w schedule turn used k some (inr gone) = inr gone

pub goes_over : (w : World) (schedule : List (ℕ × ℕ)) (p : SchedulePlace) (k t : ℕ) → (p.used + 1 ≡ (turn_at schedule p.turn).1) ⊎ (is_ready (context w k) ≡ false) → t ≡ next_turn schedule p.turn
    → place_at t 0 0 ≡ next_place w schedule p k
goes_over w schedule p k t over is =
    ap (λ (n : ℕ). place_at n 0 0) is
    ∙ sym (ap (λ (b : Bool). if b then place_at (next_turn schedule p.turn) 0 0 else place_at p.turn (p.used + 1) k) (is_over_by w schedule p k over))

pub stays_on : (w : World) (schedule : List (ℕ × ℕ)) (p : SchedulePlace) (k : ℕ) → (p.used + 1 ≡ (turn_at schedule p.turn).1 → ⊥) → is_ready (context w k) ≡ true
    → place_at p.turn (p.used + 1) k ≡ next_place w schedule p k
stays_on w schedule p k more ready_so =
    let on : is_over w schedule p k ≡ false =
    ap (λ (b : Bool). b || not (is_ready (context w k))) (ne_eqb (p.used + 1) (turn_at schedule p.turn).1 more) ∙ ap (λ (b : Bool). false || not b) ready_so in
    sym (ap (λ (b : Bool). if b then place_at (next_turn schedule p.turn) 0 0 else place_at p.turn (p.used + 1) k) on)

pub placed_at : (w : World) (schedule : List (ℕ × ℕ)) (t : ℕ) → list_all has_steps schedule ≡ true → t < length schedule → IsPlace w schedule (place_at t 0 0)
placed_at w schedule t all within = record { turn = within; used = has_one schedule t all within; held = λ (h : true ≡ false). cc }
