-- How a run of a world goes on from step to step: what each step counts, what it appends and what it takes.
use Rattle.std.specs.Prelude.{◌≡◌, ◌<◌, ◌≤◌, ◌⊎◌, ℕ, zero, suc, ◌+◌, ◌-◌, Bool, true, false, ◌&&◌, List, ◌++◌, is_none, if◌then◌else◌}
use Rattle.std.proofs.Common.{inl, inr, refl, ap, sym, ◌∙◌, append_assoc, arith}
use Rattle.emu_model.specs.State.{IsPrefix}
use Rattle.emu_run.specs.RunLaws.{IsRest, rest_all, rest_trans, prefix_refl, prefix_trans, turn_turns}
use Rattle.emu_run.specs.Step.{accesses}
use Rattle.emu_run.specs.declared.thread.SchedulePlace.{SchedulePlace}
use Rattle.emu_run.specs.ThreadCall.{ThreadAction, fails, answers, starts, waits, wakes, clears, leaves, alone, action}
use Rattle.emu_run.specs.Worlds.{World, context, some_ready, parts_with, others_behind, without_monitors, taken_by_context}
use Rattle.emu_run.specs.Threads.{WorldStepped, WorldState, first_place, stepped_alone, thread_call_done, makes_call, with_world, one, pick, next_place, taken_by, stepped, goes_on, threads_from, threads}

-- the equations, for proofs
pub threads_from-zero : (schedule : List (ℕ × ℕ)) (p : SchedulePlace) (st : WorldState) → threads_from schedule p st 0 ≡ st
unfolding threads_from
threads_from-zero schedule p st = refl

pub threads_from-suc : (schedule : List (ℕ × ℕ)) (p : SchedulePlace) (st : WorldState) (n : ℕ) → threads_from schedule p st (suc n)
    ≡ (if goes_on st.world
    then threads_from schedule (next_place (stepped st (pick st.world schedule p)).world schedule p (pick st.world schedule p)) (stepped st (pick st.world schedule p)) n
    else st)
unfolding threads_from
threads_from-suc schedule p st n = refl

-- ---- each step counts one or ends, and leaves a rest of the input

abbrev pub CountsOrEnds : World → World → Type 0
CountsOrEnds old new = (is_none new.ended ≡ false) ⊎ (new.steps ≡ old.steps + 1)

pub record IsWorldTurn (w : World) (input : List ℕ) (t : WorldStepped) : Type 0 where
  pub counts : CountsOrEnds w t.world
  pub takes : IsRest input t.input

alone_turns : (w : World) (k : ℕ) (input : List ℕ) → IsWorldTurn w input (stepped_alone w k input)
alone_turns w k input = let t = turn_turns (parts_with w (context w k)) input in record { counts = t.counts; takes = t.takes }

done_turns : (a : ThreadAction) (w : World) (k : ℕ) (input : List ℕ) → IsWorldTurn w input (thread_call_done a w k input)
done_turns (fails e) w k input = record { counts = inr refl; takes = rest_all input }
done_turns (answers v) w k input = record { counts = inr refl; takes = rest_all input }
done_turns starts w k input = record { counts = inr refl; takes = rest_all input }
done_turns (waits a) w k input = record { counts = inr refl; takes = rest_all input }
done_turns (wakes a n) w k input = record { counts = inr refl; takes = rest_all input }
done_turns (clears a) w k input = record { counts = inr refl; takes = rest_all input }
done_turns leaves w k input = record { counts = inr refl; takes = rest_all input }
done_turns alone w k input = alone_turns w k input

pub one_turns : (w : World) (k : ℕ) (input : List ℕ) → IsWorldTurn w input (one w k input)
one_turns w k input =
    elim (makes_call (parts_with w (context w k))) as (λ b. IsWorldTurn w input (if b then with_world (λ v. taken_by_context k (without_monitors v)) (thread_call_done (action w k) w k input) else with_world (λ v. taken_by_context k (others_behind (accesses (parts_with w (context w k))) k v)) (stepped_alone w k input))) [
      | true ↦ let t = done_turns (action w k) w k input in record { counts = t.counts; takes = t.takes }
      | false ↦ let t = alone_turns w k input in record { counts = t.counts; takes = t.takes }
    ]

-- ---- a world only appends to its outputs, and takes from the front of its input

pub record Moves (old new : WorldState) : Type 0 where
  pub input : IsRest old.input new.input
  pub output : IsPrefix old.output new.output
  pub errors : IsPrefix old.errors new.errors

pub moves_not : (st : WorldState) → Moves st st
moves_not st = record { input = rest_all st.input; output = prefix_refl st.output; errors = prefix_refl st.errors }

pub moves_trans : (a b c : WorldState) → Moves a b → Moves b c → Moves a c
moves_trans a b c p q = record {
  input = rest_trans a.input b.input c.input p.input q.input;
  output = prefix_trans a.output b.output c.output p.output q.output;
  errors = prefix_trans a.errors b.errors c.errors p.errors q.errors;
}

pub stepped_moves : (st : WorldState) (k : ℕ) → Moves st (stepped st k)
stepped_moves st k = let t : WorldStepped = one st.world k st.input in record { input = (one_turns st.world k st.input).takes; output = (t.output, refl); errors = (t.errors, refl) }

-- ---- the equations of a run

module _ (schedule : List (ℕ × ℕ)) where
  -- the place behind the step that is next
  abbrev pub place_behind : SchedulePlace → WorldState → SchedulePlace
  place_behind p st = next_place (stepped st (pick st.world schedule p)).world schedule p (pick st.world schedule p)

  pub from_one : (p : SchedulePlace) (st : WorldState) (n : ℕ) → goes_on st.world ≡ true
      → threads_from schedule p st (suc n) ≡ threads_from schedule (place_behind p st) (stepped st (pick st.world schedule p)) n
  from_one p st n h =
      threads_from-suc schedule p st n ∙ ap (λ (b : Bool). if b then threads_from schedule (place_behind p st) (stepped st (pick st.world schedule p)) n else st) h

  pub from_over : (p : SchedulePlace) (st : WorldState) (n : ℕ) → goes_on st.world ≡ false → threads_from schedule p st n ≡ st
  from_over p st zero h = threads_from-zero schedule p st
  from_over p st (suc n) h =
      threads_from-suc schedule p st n ∙ ap (λ (b : Bool). if b then threads_from schedule (place_behind p st) (stepped st (pick st.world schedule p)) n else st) h

  -- what remains of a run, by its place
  abbrev pub rest_of : ℕ → SchedulePlace → WorldState → WorldState
  rest_of budget p st = threads_from schedule p st (budget - st.world.steps)

  pub rest_one : (budget : ℕ) (p : SchedulePlace) (st : WorldState) → goes_on st.world ≡ true → st.world.steps < budget
      → rest_of budget p st ≡ threads_from schedule (place_behind p st) (stepped st (pick st.world schedule p)) (budget - (st.world.steps + 1))
  rest_one budget p st h below = let e : budget - st.world.steps ≡ suc (budget - (st.world.steps + 1)) = omega arith in rw e (from_one p st _ h)

  -- a step that counted
  pub rest_on : (budget : ℕ) (p : SchedulePlace) (st : WorldState) → goes_on st.world ≡ true → st.world.steps < budget
      → (stepped st (pick st.world schedule p)).world.steps ≡ st.world.steps + 1 → rest_of budget p st ≡ rest_of budget (place_behind p st) (stepped st (pick st.world schedule p))
  rest_on budget p st h below e = rest_one budget p st h below ∙ ap (λ n. threads_from schedule (place_behind p st) (stepped st (pick st.world schedule p)) (budget - n)) (sym e)

  -- a step behind which the world doesn't go on
  pub rest_ended : (budget : ℕ) (p : SchedulePlace) (st : WorldState) → goes_on st.world ≡ true → st.world.steps < budget
      → goes_on (stepped st (pick st.world schedule p)).world ≡ false → rest_of budget p st ≡ stepped st (pick st.world schedule p)
  rest_ended budget p st h below e = rest_one budget p st h below ∙ from_over (place_behind p st) (stepped st (pick st.world schedule p)) _ e

  pub rest_spent : (budget : ℕ) (p : SchedulePlace) (st : WorldState) → budget ≤ st.world.steps → rest_of budget p st ≡ st
  rest_spent budget p st h = let e : budget - st.world.steps ≡ 0 = omega arith in rw e (threads_from-zero schedule p st)

  -- ---- a run moves on, and doesn't look at what was written

  pub from_moves : (n : ℕ) (p : SchedulePlace) (st : WorldState) → Moves st (threads_from schedule p st n)
  from_moves zero p st = rw (threads_from-zero schedule p st) (moves_not st)
  from_moves (suc n) p st =
      elim (goes_on st.world) as (λ b. goes_on st.world ≡ b → Moves st (threads_from schedule p st (suc n))) [
        | true ↦ λ e. rw (from_one p st n e) (moves_trans st (stepped st (pick st.world schedule p)) _ (stepped_moves st (pick st.world schedule p)) (from_moves n (place_behind p st) (stepped st (pick st.world schedule p))))
        | false ↦ λ e. rw (from_over p st (suc n) e) (moves_not st)
      ] refl

  pub rest_moves : (budget : ℕ) (p : SchedulePlace) (st : WorldState) → goes_on st.world ≡ true → st.world.steps < budget
      → Moves (stepped st (pick st.world schedule p)) (rest_of budget p st)
  rest_moves budget p st h below = rw (rest_one budget p st h below) (from_moves (budget - (st.world.steps + 1)) (place_behind p st) (stepped st (pick st.world schedule p)))

-- a state with these bytes in front of what it has written
abbrev pub behind : List ℕ → List ℕ → WorldState → WorldState
behind output errors st = record st { output = output ++ st.output; errors = errors ++ st.errors }

taken_behind : (o e : List ℕ) (st : WorldState) (t : WorldStepped) → taken_by (behind o e st) t ≡ behind o e (taken_by st t)
taken_behind o e st t = simp append_assoc

pub stepped_behind : (o e : List ℕ) (st : WorldState) (k : ℕ) → stepped (behind o e st) k ≡ behind o e (stepped st k)
stepped_behind o e st k = taken_behind o e st (one st.world k st.input)

pub from_behind : (schedule : List (ℕ × ℕ)) (o e : List ℕ) (n : ℕ) (p : SchedulePlace) (st : WorldState) → threads_from schedule p (behind o e st) n ≡ behind o e (threads_from schedule p st n)
from_behind schedule o e zero p st = threads_from-zero schedule p (behind o e st) ∙ ap (λ (s : WorldState). behind o e s) (sym (threads_from-zero schedule p st))
from_behind schedule o e (suc n) p st =
    elim (goes_on st.world) as (λ b. goes_on st.world ≡ b → threads_from schedule p (behind o e st) (suc n) ≡ behind o e (threads_from schedule p st (suc n))) [
      | true ↦ λ h.
          from_one schedule p (behind o e st) n h
          ∙ ap (λ (s : WorldState). threads_from schedule (place_behind schedule p st) s n) (stepped_behind o e st (pick st.world schedule p))
          ∙ from_behind schedule o e n (place_behind schedule p st) (stepped st (pick st.world schedule p))
          ∙ ap (λ (s : WorldState). behind o e s) (sym (from_one schedule p st n h))
      | false ↦ λ h. from_over schedule p (behind o e st) (suc n) h ∙ ap (λ (s : WorldState). behind o e s) (sym (from_over schedule p st (suc n) h))
    ] refl

pub rest_behind : (schedule : List (ℕ × ℕ)) (budget : ℕ) (p : SchedulePlace) (o e : List ℕ) (st : WorldState) → rest_of schedule budget p (behind o e st) ≡ behind o e (rest_of schedule budget p st)
rest_behind schedule budget p o e st = from_behind schedule o e (budget - st.world.steps) p st

-- ---- where a run stops

-- it has ended, no context is ready, or it has counted its budget
abbrev pub HasStopped : ℕ → WorldState → Type 0
HasStopped budget st = (goes_on st.world ≡ false) ⊎ (st.world.steps ≡ budget)

from_stops : (schedule : List (ℕ × ℕ)) (n budget : ℕ) (p : SchedulePlace) (st : WorldState) → st.world.steps + n ≡ budget → HasStopped budget (threads_from schedule p st n)
from_stops schedule zero budget p st e = rw (threads_from-zero schedule p st) (inr (omega arith))
from_stops schedule (suc n) budget p st e =
    let k : ℕ = pick st.world schedule p in
    elim (goes_on st.world) as (λ b. goes_on st.world ≡ b → HasStopped budget (threads_from schedule p st (suc n))) [
      | true ↦ λ h. rw (from_one schedule p st n h) (
          elim ((one_turns st.world k st.input).counts) as (λ _. HasStopped budget (threads_from schedule (place_behind schedule p st) (stepped st k) n)) [
            | inl over ↦
                let off : goes_on (stepped st k).world ≡ false = ap (λ (b : Bool). b && some_ready (stepped st k).world) over in
                rw (from_over schedule (place_behind schedule p st) (stepped st k) n off) (inl off)
            | inr one ↦ from_stops schedule n budget (place_behind schedule p st) (stepped st k) (omega arith)
          ])
      | false ↦ λ h. rw (from_over schedule p st (suc n) h) (inl h)
    ] refl

pub threads_stop : (schedule : List (ℕ × ℕ)) (budget : ℕ) (st : WorldState) → st.world.steps ≤ budget → HasStopped budget (threads schedule budget st)
threads_stop schedule budget st h = from_stops schedule (budget - st.world.steps) budget first_place st (omega arith)
