-- A run of a world, step after step: what has come to the streams so far, and what remains.
use Rattle.std.proofs.Common.{◌≡◌, ◌<◌, ◌≤◌, ℕ, ◌+◌, ◌-◌, Bool, true, false, ◌&&◌, List, Option, Some, None, is_none, is_some, refl, sym, ap, subst, ◌∙◌, arith, ◌||◌, cond}
use Rattle.emu_model.specs.declared.trap.Ended.{Ended}
use Rattle.emu_model.specs.declared.trap.Ended.TheVariants.{Exit, Trap}
use Rattle.emu_machine.specs.declared.ends.StepEnd.{StepEnd}
use Rattle.emu_machine.specs.declared.ends.StepEnd.TheVariants.{Going, Exit as StepExit, Trap as StepTrap, ReadFault, WriteFault, ErrorsFault}
use Rattle.emu_machine.specs.Ends.{step_end, is_undone}
use Rattle.io_gate.specs.Streams.{Causes, Rose}
use Rattle.emu_run.specs.declared.thread.SchedulePlace.{SchedulePlace}
use Rattle.emu_run.specs.declared.thread.WorldEnding.TheVariants.{Spent as IsSpent, Stuck as IsStuck}
use Rattle.emu_run.specs.Living.{IsLiving, some_waits}
use Rattle.emu_run.specs.Worlds.{World, some_ready}
use Rattle.emu_run.specs.Threads.{WorldState, stepped, pick, next_place, goes_on, threads, ending, with_input}
use Rattle.emu_run.specs.ThreadLaws.{Moves, moves_not, stepped_moves, from_over, from_moves, rest_of, rest_on, rest_ended, rest_spent, rest_moves, rest_behind}
use Rattle.guest_threads.specs.declared.ends.WorldEnd.{WorldEnd}
use Rattle.guest_threads.specs.declared.ends.WorldEnd.TheVariants.{Spent, Stuck, ReadFault as WorldReadFault, WriteFault as WorldWriteFault, ErrorsFault as WorldErrorsFault}
use Rattle.guest_threads.specs.Ends.{WorldHeld, has_ended, AllWait, Becomes, IsKept, TakesWithin, Puts, PutsAlways, world_end, end_of_world, world_end_of, is_broken_off}
use Rattle.guest_threads.proofs.Composed.{Blind, Moving, Came, Comes, Leads, came_at, comes_by, comes_cut, comes_same, comes_still, leads_on, leads_end}

-- ---- the clauses of a step and a run, together

pub record Ran (f : WorldState → WorldState) (old new : World) (told left held_old held_new errs_old errs_new : Option (List ℕ)) (broken : Bool) : Type 0 where
  pub state : Becomes f old new told left broken
  pub input : TakesWithin f old told left broken
  pub output : Puts (λ st. (f st).output) old told held_old held_new broken
  pub errors : Puts (λ st. (f st).errors) old told errs_old errs_new broken

pub ran_when : (f : WorldState → WorldState) (old new : World) (told left ho hn eo en : Option (List ℕ)) (b c : Bool) → b ≡ c → Ran f old new told left ho hn eo en b → Ran f old new told left ho hn eo en c
ran_when f old new told left ho hn eo en b c is r = subst (λ (x : Bool). Ran f old new told left ho hn eo en x) is r

-- the same, of what was made
pub ran_by : (f : WorldState → WorldState) (old new : World) (told left ho hn eo en : Option (List ℕ)) (b : Bool) → Ran f old new told left ho hn eo en b → Comes f old new told left ho hn eo en b
ran_by f old new told left ho hn eo en b r = comes_by f old new told left ho hn eo en b b refl r.state r.input r.output r.errors

pub ran_of : (f : WorldState → WorldState) (old new : World) (told left ho hn eo en : Option (List ℕ)) (b : Bool) → Comes f old new told left ho hn eo en b → Ran f old new told left ho hn eo en b
ran_of f old new None left ho hn eo en b c = record { state = tt; input = tt; output = tt; errors = tt }
ran_of f old new (Some bytes) left ho hn eo en b c = record { state = c.state; input = c.input; output = c.output; errors = c.errors }

-- where the input told these bytes
pub ran_at : (f : WorldState → WorldState) (old new : World) (bytes : List ℕ) (told left ho hn eo en : Option (List ℕ)) (b : Bool) → told ≡ Some bytes → Ran f old new told left ho hn eo en b → Came (f (with_input old bytes)) new bytes left ho hn eo en b
ran_at f old new bytes told left ho hn eo en b is r = came_at f old new told left ho hn eo en b bytes is (ran_by f old new told left ho hn eo en b r)

-- ---- a step, whose puts don't rest on what the input tells

told_puts : (f : WorldState → List ℕ) (old : World) (told held_old held_new : Option (List ℕ)) (b : Bool) → PutsAlways f old held_old held_new b → Puts f old told held_old held_new b
told_puts f old None held_old held_new b h = tt
told_puts f old (Some bytes) held_old held_new b h = h bytes

module _ (k : ℕ) (p q : World) (told left ho hn eo en : Option (List ℕ)) (b : Bool) where
  pub ran_step : Becomes (λ st. stepped st k) p q told left b → TakesWithin (λ st. stepped st k) p told left b → PutsAlways (λ st. (stepped st k).output) p ho hn b → PutsAlways (λ st. (stepped st k).errors) p eo en b
      → Ran (λ st. stepped st k) p q told left ho hn eo en b
  ran_step s i o e = record { state = s; input = i; output = told_puts (λ st. (stepped st k).output) p told ho hn b o; errors = told_puts (λ st. (stepped st k).errors) p told eo en b e }

-- ---- a run, step after step

pub stepped_moving : (k : ℕ) → Moving (λ st. stepped st k)
stepped_moving k st = stepped_moves st k

-- what remains of a run ends as the whole does
abbrev pub LeadsRun : List (ℕ × ℕ) → ℕ → SchedulePlace → World → World → Option (List ℕ) → Option (List ℕ) → Option (List ℕ) → Option (List ℕ) → Option (List ℕ) → Option (List ℕ) → Type 0
LeadsRun schedule budget place old now told left held_old held_now errs_old errs_now =
    Leads (λ s. threads schedule budget s) (λ s. rest_of schedule budget place s) old now told left held_old held_now errs_old errs_now

module _ (schedule : List (ℕ × ℕ)) (budget : ℕ) (place : SchedulePlace) where
  rest_blind : Blind (λ s. rest_of schedule budget place s)
  rest_blind o e st = rest_behind schedule budget place o e st

  rest_moving : Moving (λ s. rest_of schedule budget place s)
  rest_moving st = from_moves schedule (budget - st.world.steps) place st

-- what remains of a run, by a step that counts
pub one_on : (schedule : List (ℕ × ℕ)) (budget : ℕ) (place : SchedulePlace) (p q : World) (k : ℕ) (input : List ℕ) → goes_on p ≡ true → p.steps < budget → k ≡ pick p schedule place → q.steps ≡ p.steps + 1
    → q ≡ (stepped (with_input p input) k).world → rest_of schedule budget place (with_input p input) ≡ rest_of schedule budget (next_place q schedule place k) (stepped (with_input p input) k)
one_on schedule budget place p q k input going below picked counted is =
    subst (λ (n : ℕ). (q ≡ (stepped (with_input p input) n).world → rest_of schedule budget place (with_input p input) ≡ rest_of schedule budget (next_place q schedule place n) (stepped (with_input p input) n))) (sym picked)
    (λ same. rest_on schedule budget place (with_input p input) going below (ap (λ (w : World). w.steps) (sym same) ∙ counted)
    ∙ ap (λ (w : World). rest_of schedule budget (next_place w schedule place (pick p schedule place)) (stepped (with_input p input) (pick p schedule place))) (sym same)) is

module _ (schedule : List (ℕ × ℕ)) (budget : ℕ) (place : SchedulePlace) (old p q : World) (told left_p left_q ho hp hq eo ep eq : Option (List ℕ)) (led : LeadsRun schedule budget place old p told left_p ho hp eo ep) (going : goes_on p ≡ true) (below : p.steps < budget) (k : ℕ) (picked : k ≡ pick p schedule place) where
  -- the step counted
  pub run_counts : q.steps ≡ p.steps + 1 → Ran (λ st. stepped st k) p q left_p left_q hp hq ep eq false → LeadsRun schedule budget (next_place q schedule place k) old q told left_q ho hq eo eq
  run_counts counted r =
      leads_on (λ s. threads schedule budget s) (λ s. rest_of schedule budget place s) old p q left_p left_q ho hp hq eo ep eq told (λ st. stepped st k) (λ s. rest_of schedule budget (next_place q schedule place k) s)
      (rest_blind schedule budget (next_place q schedule place k)) (stepped_moving k)
      (λ input is. one_on schedule budget place p q k input going below picked counted is)
      led (ran_by (λ st. stepped st k) p q left_p left_q hp hq ep eq false r)

  -- the world doesn't go on
  run_ends : goes_on q ≡ false → Ran (λ st. stepped st k) p q left_p left_q hp hq ep eq false → Ran (λ s. threads schedule budget s) old q told left_q ho hq eo eq false
  run_ends over r =
      ran_of (λ s. threads schedule budget s) old q told left_q ho hq eo eq false
      (leads_end (λ s. threads schedule budget s) (λ s. s) old q q left_q left_q ho hq hq eo eq eq told false moves_not
      (leads_on (λ s. threads schedule budget s) (λ s. rest_of schedule budget place s) old p q left_p left_q ho hp hq eo ep eq told (λ st. stepped st k) (λ s. s) (λ o e st. refl) (stepped_moving k)
      (λ input is.
      subst (λ (n : ℕ). (q ≡ (stepped (with_input p input) n).world → rest_of schedule budget place (with_input p input) ≡ stepped (with_input p input) n)) (sym picked)
      (λ same. rest_ended schedule budget place (with_input p input) going below (ap goes_on (sym same) ∙ over)) is)
      led (ran_by (λ st. stepped st k) p q left_p left_q hp hq ep eq false r))
      (comes_still q left_q hq eq))

  -- it wasn't done
  run_breaks : Ran (λ st. stepped st k) p q left_p left_q hp hq ep eq true → Ran (λ s. threads schedule budget s) old q told left_q ho hq eo eq true
  run_breaks r =
      ran_of (λ s. threads schedule budget s) old q told left_q ho hq eo eq true
      (leads_end (λ s. threads schedule budget s) (λ s. rest_of schedule budget place s) old p q left_p left_q ho hp hq eo ep eq told true (rest_moving schedule budget place) led
      (comes_cut (λ st. stepped st k) (λ s. rest_of schedule budget place s) p q left_p left_q hp hq ep eq
      (λ input. subst (λ (n : ℕ). Moves (stepped (with_input p input) n) (rest_of schedule budget place (with_input p input))) (sym picked) (rest_moves schedule budget place (with_input p input) going below))
      (ran_by (λ st. stepped st k) p q left_p left_q hp hq ep eq true r)))

  pub run_stops : (b : Bool) → Ran (λ st. stepped st k) p q left_p left_q hp hq ep eq b → (b ≡ false → goes_on q ≡ false) → Ran (λ s. threads schedule budget s) old q told left_q ho hq eo eq b
  run_stops false r over = run_ends (over refl) r
  run_stops true r over = run_breaks r

-- nothing remains: the budget is spent, or the world doesn't go on
module _ (schedule : List (ℕ × ℕ)) (budget : ℕ) (place : SchedulePlace) (old p : World) (told left ho hp eo ep : Option (List ℕ)) (led : LeadsRun schedule budget place old p told left ho hp eo ep) where
  remains_none : ((input : List ℕ) → rest_of schedule budget place (with_input p input) ≡ with_input p input) → Ran (λ s. threads schedule budget s) old p told left ho hp eo ep false
  remains_none none =
      ran_of (λ s. threads schedule budget s) old p told left ho hp eo ep false
      (leads_end (λ s. threads schedule budget s) (λ s. rest_of schedule budget place s) old p p left left ho hp hp eo ep ep told false (rest_moving schedule budget place) led
      (comes_same (λ s. s) (λ s. rest_of schedule budget place s) p p left left hp hp ep ep false (λ input. sym (none input)) (comes_still p left hp ep)))

  pub run_spends : budget ≤ p.steps → Ran (λ s. threads schedule budget s) old p told left ho hp eo ep false
  run_spends over = remains_none (λ input. rest_spent schedule budget place (with_input p input) over)

  pub run_sticks : goes_on p ≡ false → Ran (λ s. threads schedule budget s) old p told left ho hp eo ep false
  run_sticks over = remains_none (λ input. from_over schedule place (with_input p input) (budget - p.steps) over)

-- ---- the answers

by_ready : (b : Bool) → is_broken_off (world_end (cond b IsSpent IsStuck)) ≡ false
by_ready true = refl
by_ready false = refl

unbroken_by : (w : World) (e : Option Ended) → is_broken_off (world_end (ending w e)) ≡ false
unbroken_by w None = by_ready (some_ready w)
unbroken_by w (Some (Exit code)) = refl
unbroken_by w (Some (Trap t)) = refl

pub unbroken : (w : World) → is_broken_off (end_of_world w) ≡ false
unbroken w = unbroken_by w w.ended

pub broken_as : (w : World) (r : StepEnd) → is_undone r ≡ is_broken_off (world_end_of w r)
broken_as w Going = sym (unbroken w)
broken_as w (StepExit code) = refl
broken_as w (StepTrap t) = refl
broken_as w ReadFault = refl
broken_as w WriteFault = refl
broken_as w ErrorsFault = refl

end_by : (w : World) (e : Option Ended) → (is_none e ≡ false) → world_end_of w (step_end e) ≡ world_end (ending w e)
end_by w None h = absurd (cc)
end_by w (Some (Exit code)) h = refl
end_by w (Some (Trap t)) h = refl

pub not_going : (e : Option Ended) (r : StepEnd) → r ≡ step_end e → (r ≡ Going → ⊥) → is_none e ≡ false
not_going None r is other = absurd (other is)
not_going (Some (Exit code)) r is other = refl
not_going (Some (Trap t)) r is other = refl

pub end_as : (w : World) (r : StepEnd) (x : WorldEnd) → x ≡ world_end_of w r → (is_undone r ≡ false → r ≡ step_end w.ended) → (r ≡ Going → ⊥) → is_broken_off x ≡ false → x ≡ end_of_world w
end_as w r x is end other fine =
    let done : r ≡ step_end w.ended = end (broken_as w r ∙ ap is_broken_off (sym is) ∙ fine) in
    is ∙ ap (λ (s : StepEnd). world_end_of w s) done ∙ end_by w w.ended (not_going w.ended r done other)

pub is_going : (e : Option Ended) → Going ≡ step_end e → is_some e ≡ false
is_going None is = refl
is_going (Some (Exit code)) is = cc
is_going (Some (Trap t)) is = cc

pub goes_on_after : (h : WorldHeld) (r : StepEnd) → r ≡ Going → r ≡ step_end h.world.ended → h.failed ≡ is_undone r → has_ended h ≡ false
goes_on_after h r going end failed =
    let e : is_some h.world.ended ≡ false = is_going h.world.ended (sym going ∙ end) in
    let f : h.failed ≡ false = failed ∙ ap is_undone going in
    rw (e, f) refl

pub unended : (e : Option Ended) (failed : Bool) → (is_some e || failed) ≡ false → is_none e ≡ true
unended None failed is = refl
unended (Some x) failed is = cc

pub goes : (w : World) (failed : Bool) → (is_some w.ended || failed) ≡ false → some_ready w ≡ true → goes_on w ≡ true
goes w failed is ready = ap (λ (b : Bool). b && some_ready w) (unended w.ended failed is) ∙ ready

pub stops : (w : World) → is_none w.ended ≡ false → goes_on w ≡ false
stops w h = ap (λ (b : Bool). b && some_ready w) h

both_false : (b : Bool) → (b && false) ≡ false
both_false true = refl
both_false false = refl

pub sticks : (w : World) → some_ready w ≡ false → goes_on w ≡ false
sticks w h = ap (λ (b : Bool). is_none w.ended && b) h ∙ both_false (is_none w.ended)

module _ (w : World) where
  pub read_of : (r : StepEnd) → (r ≡ Going → ⊥) → world_end_of w r ≡ WorldReadFault → r ≡ ReadFault
  read_of Going other is = absurd (other refl)
  read_of (StepExit code) other is = cc
  read_of (StepTrap t) other is = cc
  read_of ReadFault other is = refl
  read_of WriteFault other is = cc
  read_of ErrorsFault other is = cc

  pub write_of : (r : StepEnd) → (r ≡ Going → ⊥) → world_end_of w r ≡ WorldWriteFault → r ≡ WriteFault
  write_of Going other is = absurd (other refl)
  write_of (StepExit code) other is = cc
  write_of (StepTrap t) other is = cc
  write_of ReadFault other is = cc
  write_of WriteFault other is = refl
  write_of ErrorsFault other is = cc

  pub errors_of : (r : StepEnd) → (r ≡ Going → ⊥) → world_end_of w r ≡ WorldErrorsFault → r ≡ ErrorsFault
  errors_of Going other is = absurd (other refl)
  errors_of (StepExit code) other is = cc
  errors_of (StepTrap t) other is = cc
  errors_of ReadFault other is = cc
  errors_of WriteFault other is = cc
  errors_of ErrorsFault other is = refl

  pub never_spent : (r : StepEnd) → (r ≡ Going → ⊥) → world_end_of w r ≡ Spent → ⊥
  never_spent Going other is = other refl
  never_spent (StepExit code) other is = absurd (cc)
  never_spent (StepTrap t) other is = absurd (cc)
  never_spent ReadFault other is = absurd (cc)
  never_spent WriteFault other is = absurd (cc)
  never_spent ErrorsFault other is = absurd (cc)

-- a world that doesn't go on isn't spent
stuck_by : (w : World) (e : Option Ended) (b : Bool) → some_ready w ≡ b → b ≡ false → world_end (ending w e) ≡ Spent → ⊥
stuck_by w None b is none spent =
    let s : world_end (ending w None) ≡ Stuck = ap (λ (x : Bool). world_end (cond x IsSpent IsStuck)) (is ∙ none) in
    let f : Stuck ≡ Spent = sym s ∙ spent in absurd (cc)
stuck_by w (Some (Exit code)) b is none spent = absurd (cc)
stuck_by w (Some (Trap t)) b is none spent = absurd (cc)

pub unspent_stuck : (w : World) → some_ready w ≡ false → end_of_world w ≡ Spent → ⊥
unspent_stuck w none spent = stuck_by w w.ended (some_ready w) refl none spent

-- one that has ended isn't
over_unspent : (w : World) (e : Option Ended) → is_none e ≡ false → world_end (ending w e) ≡ Spent → ⊥
over_unspent w None over spent = absurd (cc)
over_unspent w (Some (Exit code)) over spent = absurd (cc)
over_unspent w (Some (Trap t)) over spent = absurd (cc)

pub ended_unspent : (w : World) → is_none w.ended ≡ false → end_of_world w ≡ Spent → ⊥
ended_unspent w over spent = over_unspent w w.ended over spent

-- a step that goes on has no other answer
pub going_is_no : (r x : StepEnd) → (Going ≡ x → ⊥) → r ≡ Going → r ≡ x → ⊥
going_is_no r x other going is = other (sym going ∙ is)

-- a cause in the last step is one in the run, where the count stayed before it
pub causes_from : (P Q : Type 0) (a b c : ℕ) → b ≡ a → Causes P b c → (Q → P) → (P → Q) → Causes Q a c
causes_from P Q a b c stayed cause named names = record {
  later = let later = cause.later in omega arith;
  rose = λ q. let rose : Rose b c = cause.rose (named q) in omega arith;
  kept = λ none. cause.kept (λ p. none (names p)) ∙ stayed;
}

-- a world that isn't left without a context behind a step, also where that wasn't done
pub lives_on : (p q : World) (k : ℕ) (r : StepEnd) (told left : Option (List ℕ)) → (is_undone r ≡ false → IsLiving q) → (is_undone r ≡ true → IsKept p q k told left) → IsLiving p → IsLiving q
lives_on p q k r told left done kept living =
    elim (is_undone r) as (λ b. (b ≡ false → IsLiving q) → (b ≡ true → IsKept p q k told left) → IsLiving q) [
      | true ↦ λ f g. subst (λ (w : World). IsLiving w) (sym (g refl).is) living
      | false ↦ λ f g. f refl
    ] done kept

-- ---- stuck

all_wait_by : (w : World) (e : Option Ended) (b : Bool) → w.ended ≡ e → some_ready w ≡ b → IsLiving w → Stuck ≡ world_end (cond (is_none e) (cond b IsSpent IsStuck) (ending w e)) → AllWait w
all_wait_by w None true ended ready living is = cc
all_wait_by w None false ended ready living is = record { none = ready; one = some_waits w living (ap is_none ended) ready }
all_wait_by w (Some (Exit code)) b ended ready living is = cc
all_wait_by w (Some (Trap t)) b ended ready living is = cc

ending_by : (w : World) (e : Option Ended) → ending w e ≡ cond (is_none e) (cond (some_ready w) IsSpent IsStuck) (ending w e)
ending_by w None = refl
ending_by w (Some (Exit code)) = refl
ending_by w (Some (Trap t)) = refl

pub all_wait : (w : World) → IsLiving w → Stuck ≡ end_of_world w → AllWait w
all_wait w living is = all_wait_by w w.ended (some_ready w) refl refl living (is ∙ ap world_end (ending_by w w.ended))
