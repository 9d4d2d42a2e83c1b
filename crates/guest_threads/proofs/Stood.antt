-- Steps of a context that move no byte of a stream, within a turn: how what holds before them is brought on, and where they lead.
use Rattle.std.proofs.Common.{◌≡◌, ◌<◌, ℕ, zero, suc, ◌+◌, Bool, true, List, is_none, if◌then◌else◌, refl, sym, ap, subst, ◌∙◌, arith}
use Rattle.std.proofs.lemmas.Bool.{ne_eqb}
use Rattle.emu_run.specs.declared.thread.SchedulePlace.{SchedulePlace}
use Rattle.emu_run.specs.Threads.{next_place, pick, ready_at, turn_at}
use Rattle.emu_run.specs.Worlds.{World, is_standing_ready}
use Rattle.guest_threads.specs.Ends.{IsReadyAt}
use Rattle.guest_threads.specs.Quiet.{AreQuiet, IsFollowed, IsQuiet}
use Rattle.guest_threads.proofs.Picked.{place_at, stays_on}

-- the place of a context's next step behind so many steps of it, all in one turn
abbrev pub moved : SchedulePlace → ℕ → ℕ → SchedulePlace
moved p k zero = p
moved p k (suc n) = place_at p.turn (p.used + suc n) k

pub moved_turn : (p : SchedulePlace) (k n : ℕ) → (moved p k n).turn ≡ p.turn
moved_turn p k zero = refl
moved_turn p k (suc n) = refl

pub moved_used : (p : SchedulePlace) (k n : ℕ) → (moved p k n).used ≡ p.used + n
moved_used p k zero = omega arith
moved_used p k (suc n) = refl

-- the place behind the next one doesn't rest on the context that the place holds
pub next_moved : (w : World) (schedule : List (ℕ × ℕ)) (p : SchedulePlace) (k n : ℕ) (last : SchedulePlace) → last ≡ place_at p.turn (p.used + n) k → next_place w schedule (moved p k n) k ≡ next_place w schedule last k
next_moved w schedule p k n last is =
    ap (λ (t : ℕ). next_place w schedule (place_at t (moved p k n).used k) k) (moved_turn p k n)
    ∙ ap (λ (u : ℕ). next_place w schedule (place_at p.turn u k) k) (moved_used p k n)
    ∙ ap (λ (x : SchedulePlace). next_place w schedule x k) (sym is)

-- a fact that each quiet step of the schedule brings on, before the budget is spent
abbrev pub BringsOn : List (ℕ × ℕ) → ℕ → (SchedulePlace → World → Type 0) → Type 0
BringsOn schedule budget P = (p q : SchedulePlace) (w v : World) → P p w → IsFollowed schedule p w q v → is_none w.ended ≡ true → w.steps < budget → P q v

module _ (schedule : List (ℕ × ℕ)) (budget k : ℕ) (P : SchedulePlace → World → Type 0) (on : BringsOn schedule budget P) where
  -- the next step is one of context k
  pub record Stood (place : SchedulePlace) (now : World) : Type 0 where
    pub holds : P place now
    pub picked : k ≡ pick now schedule place
    pub at : IsReadyAt now k
    pub goes : is_none now.ended ≡ true

  stood_one : (place : SchedulePlace) (p q : World) → Stood place p → IsQuiet k p q → place.used + 1 < (turn_at schedule place.turn).1 → p.steps < budget → Stood (place_at place.turn (place.used + 1) k) q
  stood_one place p q s one more below =
      let next : place_at place.turn (place.used + 1) k ≡ next_place q schedule place k = stays_on q schedule place k (λ e. omega (arith, e, more)) (ap is_standing_ready one.at.ready) in
      record {
        holds = on place (place_at place.turn (place.used + 1) k) p q s.holds (record { context = k; picked = s.picked; at = s.at; quiet = one; next = next }) s.goes below;
        picked = sym (ap (λ (b : Bool). if b then ready_at q (turn_at schedule place.turn).0 else k) (ne_eqb (place.used + 1) 0 (λ e. omega (arith, e))));
        at = one.at;
        goes = one.goes;
      }

  pub stood_on : (n : ℕ) (place : SchedulePlace) (w u : World) → Stood place w → AreQuiet n k w u → place.used + n < (turn_at schedule place.turn).1 → u.steps < budget → Stood (moved place k n) u
  stood_on zero place w u s same more below = subst (λ (x : World). Stood place x) (sym same) s
  stood_on (suc n) place w u s (x, (so_far, one)) more below =
      let counted = one.counted in
      let p : SchedulePlace = moved place k n in
      let used : p.used ≡ place.used + n = moved_used place k n in
      let turn : p.turn ≡ place.turn = moved_turn place k n in
      let before : Stood p x = stood_on n place w x s so_far (omega (arith, more)) (omega (arith, counted, below)) in
      let room : p.used + 1 < (turn_at schedule p.turn).1 = subst (λ (t : ℕ). p.used + 1 < (turn_at schedule t).1) (sym turn) (omega (arith, used, more)) in
      let here : Stood (place_at p.turn (p.used + 1) k) u = stood_one p x u before one room (omega (arith, counted, below)) in
      let one_more : p.used + 1 ≡ place.used + suc n = omega (arith, used) in
      subst (λ (m : ℕ). Stood (place_at place.turn m k) u) one_more (subst (λ (t : ℕ). Stood (place_at t (p.used + 1) k) u) turn here)
