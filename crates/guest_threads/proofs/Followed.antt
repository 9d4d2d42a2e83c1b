-- Quiet steps of a schedule, one after the other, in a run of a world.
use Rattle.std.proofs.Common.{◌≡◌, ◌<◌, ◌≤◌, ℕ, zero, suc, ◌+◌, ◌-◌, Bool, true, false, ◌&&◌, List, Option, is_none, is_some, Some, None, refl, sym, ap, subst, ◌∙◌, arith, ◌||◌}
use Rattle.emu_model.specs.declared.trap.Ended.{Ended}
use Rattle.emu_run.specs.declared.thread.SchedulePlace.{SchedulePlace}
use Rattle.emu_run.specs.Living.{IsLiving, stays_living}
use Rattle.emu_machine.specs.declared.ends.StepEnd.TheVariants.{Going}
use Rattle.emu_run.specs.Threads.{goes_on, next_place, stepped, threads, turn_at}
use Rattle.emu_run.specs.Worlds.{World, is_standing_gone, some_ready}
use Rattle.guest_threads.specs.Ends.{WorldHeld, has_ended, IsPicked, IsReadyAt}
use Rattle.guest_threads.specs.Quiet.{AreFollowed, AreQuiet, FollowsToEnd, TakesSteps}
use Rattle.guest_threads.proofs.Picked.{place_at, some_by}
use Rattle.guest_threads.proofs.Quiet.{quiet_steps}
use Rattle.guest_threads.proofs.Runs.{LeadsRun, Ran, ran_step, run_counts, run_stops, stops}
use Rattle.guest_threads.proofs.Stands.{Stands, stands_on}
use Rattle.guest_threads.proofs.Steps.{quiet_becomes, quiet_errors, quiet_output, quiet_takes}
use Rattle.guest_threads.proofs.Whole.{LeadsAny}
use Rattle.guest_threads.proofs.Stood.{BringsOn, Stood, moved, next_moved, stood_on}

pub goes_ready : (w : World) (k : ℕ) → is_none w.ended ≡ true → IsReadyAt w k → goes_on w ≡ true
goes_ready w k goes at = ap (λ (b : Bool). b && some_ready w) goes ∙ some_by w k at

going_of : (e : Option Ended) (failed : Bool) → is_none e ≡ true → failed ≡ false → (is_some e || failed) ≡ false
going_of None failed goes fine = fine
going_of (Some x) failed goes fine = cc

pub going_by : (h : WorldHeld) → is_none h.world.ended ≡ true → h.failed ≡ false → has_ended h ≡ false
going_by h goes fine = going_of h.world.ended h.failed goes fine

module _ (schedule : List (ℕ × ℕ)) where
  -- what a quiet step brings on is brought on by many
  pub followed_by : (budget : ℕ) (P : SchedulePlace → World → Type 0) → BringsOn schedule budget P → (n : ℕ) (p q : SchedulePlace) (w v : World)
      → AreFollowed n schedule p w q v → P p w → is_none w.ended ≡ true → v.steps ≤ budget → P q v × (is_none v.ended ≡ true)
  followed_by budget P on zero p q w v (place, world) holds goes most =
      (subst (λ (x : World). P q x) (sym world) (subst (λ (x : SchedulePlace). P x w) (sym place) holds), ap (λ (x : World). is_none x.ended) world ∙ goes)
  followed_by budget P on (suc n) p q w v (o, u, (so_far, f)) holds goes most =
      let counted = f.quiet.counted in
      let r = followed_by budget P on n p o w u so_far holds goes (omega (arith, counted, most)) in
      (on o q u v r.0 f r.1 (omega (arith, counted, most)), f.quiet.goes)

  -- steps behind steps
  pub followed_then : (m n : ℕ) (p o q : SchedulePlace) (w u v : World) → AreFollowed n schedule p w o u → AreFollowed m schedule o u q v → (k : ℕ) × AreFollowed k schedule p w q v
  followed_then zero n p o q w u v first (place, world) =
      (n, subst (λ (x : World). AreFollowed n schedule p w q x) (sym world) (subst (λ (x : SchedulePlace). AreFollowed n schedule p w x u) (sym place) first))
  followed_then (suc m) n p o q w u v first (a, x, (so_far, f)) =
      let r = followed_then m n p o a w u x first so_far in
      (suc r.0, (a, x, (r.1, f)))

  pub followed_after : (n : ℕ) (p q : SchedulePlace) (w v : World) → AreFollowed n schedule p w q v → w.steps ≤ v.steps
  followed_after zero p q w v (place, world) = let e = ap (λ (x : World). x.steps) world in omega (arith, e)
  followed_after (suc n) p q w v (o, u, (so_far, f)) = let e = followed_after n p o w u so_far in let counted = f.quiet.counted in omega (arith, e, counted)

  -- a world behind them has a context that isn't gone
  pub followed_lives : (n : ℕ) (p q : SchedulePlace) (w v : World) → AreFollowed n schedule p w q v → IsLiving w → IsLiving v
  followed_lives zero p q w v (place, world) living = subst (λ (x : World). IsLiving x) (sym world) living
  followed_lives (suc n) p q w v (o, u, (so_far, f)) living = λ _. stays_living v f.context f.quiet.at.within (ap is_standing_gone f.quiet.at.ready)

-- ---- in a run

module _ (schedule : List (ℕ × ℕ)) (budget : ℕ) (old : World) (told left ho hp eo ep : Option (List ℕ)) where
  pub record Reached (place : SchedulePlace) (now : World) : Type 0 where
    pub leads : LeadsRun schedule budget place old now told left ho hp eo ep
    pub stands : Stands schedule old told place now left
    pub any : LeadsAny schedule place old now told left ho hp eo ep

  pub reached_on : BringsOn schedule budget Reached
  reached_on p q w v r f goes below =
      let k : ℕ = f.context in
      let ran : Ran (λ st. stepped st k) w v left left hp hp ep ep false =
      ran_step k w v left left hp hp ep ep false (quiet_becomes w v k f.quiet.is left false) (quiet_takes w v k f.quiet.is left false refl) (quiet_output w v k f.quiet.is hp false) (quiet_errors w v k f.quiet.is ep false) in
      let on : goes_on w ≡ true = goes_ready w k goes f.at in
      let next : next_place v schedule p k ≡ q = sym f.next in
      record {
        leads = subst (λ (x : SchedulePlace). LeadsRun schedule budget x old v told left ho hp eo ep) next
            (run_counts schedule budget p old w v told left left ho hp hp eo ep ep r.leads on below k f.picked f.quiet.counted ran);
        stands = subst (λ (x : SchedulePlace). Stands schedule old told x v left) next
            (stands_on schedule budget p old w left ho hp eo ep v k left hp ep told r.leads ran on f.picked f.quiet.counted r.stands);
        any = λ b h.
            let counted = f.quiet.counted in
            let before : w.steps < b = omega (arith, counted, h) in
            subst (λ (x : SchedulePlace). LeadsRun schedule b x old v told left ho hp eo ep) next
            (run_counts schedule b p old w v told left left ho hp hp eo ep ep (r.any b (omega (arith, before))) on before k f.picked f.quiet.counted ran);
      }

  -- the step behind quiet ones ended the world
  pub ran_over : (p : SchedulePlace) (w v : World) → Reached p w → is_none w.ended ≡ true → FollowsToEnd schedule budget p w v → Ran (λ s. threads schedule budget s) old v told left ho hp eo ep false
  ran_over p w v r goes d =
      let k : ℕ = d.context in
      let below = d.below in
      let here = followed_by schedule budget Reached reached_on d.count p d.place w d.at d.followed r goes (omega (arith, below)) in
      let ran : Ran (λ st. stepped st k) d.at v left left hp hp ep ep false =
      ran_step k d.at v left left hp hp ep ep false (quiet_becomes d.at v k d.is left false) (quiet_takes d.at v k d.is left false refl) (quiet_output d.at v k d.is hp false) (quiet_errors d.at v k d.is ep false) in
      run_stops schedule budget d.place old d.at v told left left ho hp hp eo ep ep here.0.leads (goes_ready d.at k d.goes d.ready) below k d.picked false ran (λ _. stops v d.ended)

-- steps of a context, from a place of the schedule
module _ (schedule : List (ℕ × ℕ)) (budget : ℕ) (old : World) (told left ho hp eo ep : Option (List ℕ)) (place : SchedulePlace) (k until : ℕ) (p : World) (reached : Reached schedule budget old told left ho hp eo ep place p)
    (goes : is_none p.ended ≡ true) (picked : IsPicked p schedule place k) (within : until ≤ budget) (turn : until + place.used ≤ p.steps + (turn_at schedule place.turn).1) where
  -- before the last of them
  pub before_end : (n : ℕ) (at : World) → AreQuiet n k p at → at.steps < until
      → Stood schedule budget k (λ x u. Reached schedule budget old told left ho hp eo ep x u) (reached_on schedule budget old told left ho hp eo ep) (moved place k n) at
  before_end n at quiet near =
      let taken = quiet_steps n k p at quiet in
      stood_on schedule budget k (λ x u. Reached schedule budget old told left ho hp eo ep x u) (reached_on schedule budget old told left ho hp eo ep) n place p at
      (record { holds = reached; picked = picked.is; at = picked.at; goes = goes }) quiet (omega (arith, near, turn, taken)) (omega (arith, near, within))

  -- behind it, where it goes on
  pub reached_behind : (left_q hq eq : Option (List ℕ)) (q : World) (used : ℕ) (next : SchedulePlace) → TakesSteps k until p q Going left left_q hp hq ep eq → used + p.steps ≡ place.used + q.steps
      → next ≡ next_place q schedule (place_at place.turn (used - 1) k) k → Reached schedule budget old told left_q ho hq eo eq next q
  reached_behind left_q hq eq q used next t is gone =
      let at : World = t.at in
      let near = t.below in
      let taken = quiet_steps t.count k p at t.quiet in
      let stood = before_end t.count at t.quiet t.below in
      let on : goes_on at ≡ true = goes_ready at k stood.goes stood.at in
      let ran : Ran (λ st. stepped st k) at q left left_q hp hq ep eq false = ran_step k at q left left_q hp hq ep eq false t.state t.input t.output t.errors in
      let counted : q.steps ≡ at.steps + 1 = t.counted refl in
      let below : at.steps < budget = omega (arith, near, within) in
      let here : SchedulePlace = moved place k t.count in
      let last : place_at place.turn (used - 1) k ≡ place_at place.turn (place.used + t.count) k = ap (λ (n : ℕ). place_at place.turn n k) (omega (arith, is, counted, taken)) in
      let to : next_place q schedule here k ≡ next = next_moved q schedule place k t.count (place_at place.turn (used - 1) k) last ∙ sym gone in
      record {
        leads = subst (λ (x : SchedulePlace). LeadsRun schedule budget x old q told left_q ho hq eo eq) to
            (run_counts schedule budget here old at q told left left_q ho hp hq eo ep eq stood.holds.leads on below k stood.picked counted ran);
        stands = subst (λ (x : SchedulePlace). Stands schedule old told x q left_q) to
            (stands_on schedule budget here old at left ho hp eo ep q k left_q hq eq told stood.holds.leads ran on stood.picked counted stood.holds.stands);
        any = λ b h.
            let before : at.steps < b = omega (arith, counted, h) in
            subst (λ (x : SchedulePlace). LeadsRun schedule b x old q told left_q ho hq eo eq) to
            (run_counts schedule b here old at q told left left_q ho hp hq eo ep eq (stood.holds.any b (omega (arith, before))) on before k stood.picked counted ran);
      }
