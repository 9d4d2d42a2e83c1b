-- What the parts of a run of contexts promise, put together: how their world stopped, its report, and its schedule.
use Rattle.std.proofs.Common.{◌≡◌, ◌≤◌, ℕ, ◌-◌, Bool, true, false, List, ◌++◌, Option, Some, Result, Ok, Err, refl, sym, ap, subst, ◌∙◌}
use Rattle.std.proofs.lemmas.Option.{IfSome_then}
use Rattle.io_gate.specs.Streams.{Causes, HasCause, Rose}
use Rattle.io_gate.specs.Pieces.{PutsAll}
use Rattle.command_model.specs.Refusals.{schedule_line}
use Rattle.command_model.specs.WorldReports.{contexts_lines, stop_text, world_report}
use Rattle.command_lines.specs.Outcome.{Outcome, ending_of_world, outcome_of_schedule, outcome_of_world}
use Rattle.command_lines.specs.declared.ending.Ending.{Ending}
use Rattle.command_lines.specs.declared.ending.Ending.TheVariants.{ScheduleRefused, ReadFault, WriteFault, ErrorsFault}
use Rattle.emu_run.specs.Reports.{after_steps}
use Rattle.emu_run.specs.RunLaws.{IsRest}
use Rattle.line_words.specs.Reading.{IsErrorOf}
use Rattle.guest_schedule.specs.Errors.{fault_in}
use Rattle.guest_schedule.specs.declared.reader.ScheduleError.{ScheduleError}
use Rattle.guest_schedule.specs.declared.reader.ScheduleError.TheVariants.{Refused}
use Rattle.guest_schedule.specs.declared.schedule.ScheduleFault.{ScheduleFault}
use Rattle.guest_threads.specs.Ends.{Becomes, Puts, TakesWithin, end_of_world, is_broken_off, world_end}
use Rattle.guest_threads.specs.declared.ends.WorldEnd.{WorldEnd}
use Rattle.guest_threads.specs.declared.ends.WorldEnd.TheVariants as worlds
use Rattle.emu_run.specs.declared.thread.WorldEnding.{WorldEnding}
use Rattle.emu_run.specs.declared.thread.WorldEnding.TheVariants as stops
use Rattle.emu_run.specs.ThreadLaws.{from_moves}
use Rattle.emu_run.specs.Threads.{with_input}
use Rattle.emu_run.specs.Threads.{WorldState, ending, first_place, threads}
use Rattle.emu_run.specs.Worlds.{World}
use Rattle.commands.specs.Endings.{ended_by, stop_by}
use Rattle.commands.specs.Promises.{is_failure}
use Rattle.commands.specs.Meets.{Now, now, Meets}
use Rattle.commands.proofs.Meetings.{IsStop, Stopped, broken_meets, line_meets, stopped_meets}

-- ---- how a world stopped

pub ends_as_world : (stop : WorldEnding) → IsStop (ending_of_world stop)
ends_as_world (stops.Exit code) = record { settles = refl; accepts = refl; whole = refl }
ends_as_world (stops.Trap trap pc) = record { settles = refl; accepts = refl; whole = refl }
ends_as_world stops.Spent = record { settles = refl; accepts = refl; whole = refl }
ends_as_world stops.Stuck = record { settles = refl; accepts = refl; whole = refl }

-- a run that stopped wasn't broken off, and stopped as its world says
pub stops_whole : (end : WorldEnd) (stop : WorldEnding) → Ok stop ≡ stop_by end → is_broken_off end ≡ false
stops_whole (worlds.Exit code) stop is = refl
stops_whole (worlds.Trap trap pc) stop is = refl
stops_whole worlds.Spent stop is = refl
stops_whole worlds.Stuck stop is = refl
stops_whole worlds.ReadFault stop is = cc
stops_whole worlds.WriteFault stop is = cc
stops_whole worlds.ErrorsFault stop is = cc

stop_of_end : (stop : WorldEnding) → stop_by (world_end stop) ≡ Ok stop
stop_of_end (stops.Exit code) = refl
stop_of_end (stops.Trap trap pc) = refl
stop_of_end stops.Spent = refl
stop_of_end stops.Stuck = refl

same_stop : (a b : WorldEnding) (r : Result WorldEnding Ending) → Ok a ≡ r → r ≡ Ok b → a ≡ b
same_stop a b r p q = cc

pub stop_is : (end : WorldEnd) (stop : WorldEnding) (w : World) → Ok stop ≡ stop_by end → end ≡ end_of_world w → stop ≡ ending w w.ended
stop_is end stop w is ends = same_stop stop (ending w w.ended) (stop_by end) is (ap stop_by ends ∙ stop_of_end (ending w w.ended))

-- one that was broken off ends with a failure
same_fault : (a b : Ending) (r : Result WorldEnding Ending) → Err a ≡ r → r ≡ Err b → a ≡ b
same_fault a b r p q = cc

pub stops_broken : (end : WorldEnd) (fault : Ending) → Err fault ≡ stop_by end → (is_broken_off end ≡ true) × (is_failure fault ≡ true)
stops_broken (worlds.Exit code) fault is = cc
stops_broken (worlds.Trap trap pc) fault is = cc
stops_broken worlds.Spent fault is = cc
stops_broken worlds.Stuck fault is = cc
stops_broken worlds.ReadFault fault is = (refl, ap is_failure (same_fault fault ReadFault (stop_by worlds.ReadFault) is refl))
stops_broken worlds.WriteFault fault is = (refl, ap is_failure (same_fault fault WriteFault (stop_by worlds.WriteFault) is refl))
stops_broken worlds.ErrorsFault fault is = (refl, ap is_failure (same_fault fault ErrorsFault (stop_by worlds.ErrorsFault) is refl))

-- the ending behind its report
pub ended_stop : {T E : Type 0} (put : Result T E) (stop : WorldEnding) (ending result : Ending) → ending ≡ ending_of_world stop → result ≡ ended_by put ending → result ≡ ended_by put (ending_of_world stop)
ended_stop put stop ending result is by = by ∙ ap (ended_by put) is

-- ---- the causes of faults, where the run stopped

pub fine_not : (stop : WorldEnding) (fault : Ending) → is_failure fault ≡ true → ending_of_world stop ≡ fault → ⊥
fine_not stop fault is e = let f : false ≡ true = sym (ends_as_world stop).whole ∙ ap is_failure e ∙ is in cc

apart : (stop : WorldEnding) (fault : Ending) (r : Result WorldEnding Ending) → Ok stop ≡ r → r ≡ Err fault → ⊥
apart stop fault r p q = cc

no_read : {T E : Type 0} (put : Result T E) (stop : WorldEnding) → ended_by put (ending_of_world stop) ≡ ReadFault → ⊥
no_read (Ok done) stop e = fine_not stop ReadFault refl e
no_read (Err failed) stop e = cc

no_write : {T E : Type 0} (put : Result T E) (stop : WorldEnding) → ended_by put (ending_of_world stop) ≡ WriteFault → ⊥
no_write (Ok done) stop e = fine_not stop WriteFault refl e
no_write (Err failed) stop e = cc

stopped_cause : (end by : WorldEnd) (stop : WorldEnding) (fault result : Ending) (a b : ℕ) → Ok stop ≡ stop_by end → stop_by by ≡ Err fault → (result ≡ fault → ⊥) → Causes (end ≡ by) a b → Causes (result ≡ fault) a b
stopped_cause end by stop fault result a b is faults none c = record {
  later = c.later;
  rose = λ e. absurd (none e);
  kept = λ _. c.kept (λ e. apart stop fault (stop_by end) is (ap stop_by e ∙ faults));
}

pub stopped_reads : {T E : Type 0} (end : WorldEnd) (stop : WorldEnding) (put : Result T E) (result : Ending) (a b : ℕ) → Ok stop ≡ stop_by end → result ≡ ended_by put (ending_of_world stop)
    → Causes (end ≡ worlds.ReadFault) a b → Causes (result ≡ ReadFault) a b
stopped_reads end stop put result a b is by c = stopped_cause end worlds.ReadFault stop ReadFault result a b is refl (λ e. no_read put stop (sym by ∙ e)) c

pub stopped_writes : {T E : Type 0} (end : WorldEnd) (stop : WorldEnding) (put : Result T E) (result : Ending) (a b : ℕ) → Ok stop ≡ stop_by end → result ≡ ended_by put (ending_of_world stop)
    → Causes (end ≡ worlds.WriteFault) a b → Causes (result ≡ WriteFault) a b
stopped_writes end stop put result a b is by c = stopped_cause end worlds.WriteFault stop WriteFault result a b is refl (λ e. no_write put stop (sym by ∙ e)) c

pub stopped_errors : {T E : Type 0} (end : WorldEnd) (stop : WorldEnding) (put : Result T E) (result : Ending) (a b n : ℕ) → Ok stop ≡ stop_by end → result ≡ ended_by put (ending_of_world stop)
    → Causes (end ≡ worlds.ErrorsFault) a b → HasCause b n put → Causes (result ≡ ErrorsFault) a n
stopped_errors end stop (Ok done) result a b n is by c h =
    let same : b ≡ a = c.kept (λ e. apart stop ErrorsFault (stop_by end) is (ap stop_by e)) in
    record { later = subst (λ (k : ℕ). k ≤ n) same h.later; rose = λ e. absurd (fine_not stop ErrorsFault refl (sym by ∙ e)); kept = λ _. h.kept ∙ same }
stopped_errors end stop (Err failed) result a b n is by c h =
    let same : b ≡ a = c.kept (λ e. apart stop ErrorsFault (stop_by end) is (ap stop_by e)) in
    record { later = subst (λ (k : ℕ). k ≤ n) same h.later; rose = λ _. subst (λ (k : ℕ). Rose k n) same h.failed; kept = λ none. absurd (none by) }

-- ---- the run and its report

abbrev stopped_at : WorldState → Stopped
stopped_at st = record { output = st.output; errors = st.errors; rest = st.input; text = world_report st.world; ending = ending_of_world (ending st.world st.world.ended) }

-- the lines of a world that stopped so are its report
report_is : (w : World) (stop : WorldEnding) → stop ≡ ending w w.ended → (stop_text stop ++ after_steps w.steps) ++ contexts_lines w ≡ world_report w
report_is w stop is = ap (λ (s : WorldEnding). (stop_text s ++ after_steps w.steps) ++ contexts_lines w) is

module _ (turns : List (ℕ × ℕ)) (budget : ℕ) (m n : World) (end : WorldEnd) where
  abbrev last : List ℕ → WorldState
  last i = threads turns budget (with_input m i)

  moves : (i : List ℕ) → IsRest i (last i).input
  moves i = (from_moves turns (budget - m.steps) first_place (with_input m i)).input

  stops_so : (i : List ℕ) → IsStop (stopped_at (last i)).ending
  stops_so i = ends_as_world (ending (last i).world (last i).world.ended)

  -- a run that was broken off
  pub broken_world : (i0 i1 o0 o1 e0 e1 : Option (List ℕ)) (fault : Ending) → Err fault ≡ stop_by end
      → TakesWithin (threads turns budget) m i0 i1 (is_broken_off end) → Puts (λ st. (threads turns budget st).output) m i0 o0 o1 (is_broken_off end)
      → Puts (λ st. (threads turns budget st).errors) m i0 e0 e1 (is_broken_off end)
      → Meets (λ i. Some (outcome_of_world i (threads turns budget (with_input m i)))) fault (now i0 o0 e0) (now i1 o1 e1)
  broken_world i0 i1 o0 o1 e0 e1 fault is takes outs errs =
      let b = stops_broken end fault is in
      broken_meets (λ i. stopped_at (last i)) moves stops_so i0 i1 o0 o1 e0 e1 fault
      (subst (λ (b : Bool). TakesWithin (threads turns budget) m i0 i1 b) b.0 takes)
      (subst (λ (b : Bool). Puts (λ st. (threads turns budget st).output) m i0 o0 o1 b) b.0 outs)
      (subst (λ (b : Bool). Puts (λ st. (threads turns budget st).errors) m i0 e0 e1 b) b.0 errs) b.1

  -- a run that stopped, and its report
  pub reported_world : {T E : Type 0} (i0 i1 o0 o1 e0 e1 e2 : Option (List ℕ)) (stop : WorldEnding) (result : Ending) (put : Result T E) → Ok stop ≡ stop_by end
      → Becomes (threads turns budget) m n i0 i1 (is_broken_off end) → Puts (λ st. (threads turns budget st).output) m i0 o0 o1 (is_broken_off end)
      → Puts (λ st. (threads turns budget st).errors) m i0 e0 e1 (is_broken_off end)
      → (is_broken_off end ≡ false → end ≡ end_of_world n) → PutsAll e1 e2 ((stop_text stop ++ after_steps n.steps) ++ contexts_lines n) put → result ≡ ended_by put (ending_of_world stop)
      → Meets (λ i. Some (outcome_of_world i (threads turns budget (with_input m i)))) result (now i0 o0 e0) (now i1 o1 e2)
  reported_world i0 i1 o0 o1 e0 e1 e2 stop result put is becomes outs errs ends puts by =
      let whole : is_broken_off end ≡ false = stops_whole end stop is in
      let of_world : stop ≡ ending n n.ended = stop_is end stop n is (ends whole) in
      subst (λ (r : Ending). Meets (λ i. Some (outcome_of_world i (threads turns budget (with_input m i)))) r (now i0 o0 e0) (now i1 o1 e2)) (sym by)
      (stopped_meets (λ i. stopped_at (last i)) moves stops_so i0 i1 o0 o1 e0 e1 e2 ((stop_text stop ++ after_steps n.steps) ++ contexts_lines n) (ending_of_world stop) put
      (IfSome_then i0 (subst (λ (b : Bool). Becomes (threads turns budget) m n i0 i1 b) whole becomes)
      (λ i b. (report_is n stop of_world ∙ ap world_report (b refl).0, ap ending_of_world (of_world ∙ ap (λ (x : World). ending x x.ended) (b refl).0), (b refl).1)))
      (subst (λ (b : Bool). Puts (λ st. (threads turns budget st).output) m i0 o0 o1 b) whole outs)
      (subst (λ (b : Bool). Puts (λ st. (threads turns budget st).errors) m i0 e0 e1 b) whole errs)
      (ends_as_world stop) puts)

-- ---- the schedule

pub is_refused : (r : Result (List (ℕ × ℕ)) ScheduleFault) (error : ScheduleError) (fault : ScheduleFault) → error ≡ Refused fault → IsErrorOf r (fault_in error) → r ≡ Err fault
is_refused r error fault is told = subst (λ (e : ScheduleError). IsErrorOf r (fault_in e)) is told

module _ (budget : ℕ) (opened : World) (r : Result (List (ℕ × ℕ)) ScheduleFault) (old : Now) where
  abbrev pub of_schedule : List ℕ → Option Outcome
  of_schedule i = Some (outcome_of_schedule i budget opened r)

  pub refused_schedule : {T E : Type 0} (fault : ScheduleFault) (new : Option (List ℕ)) (put : Result T E) (result : Ending) → r ≡ Err fault → result ≡ ended_by put (ScheduleRefused fault) → PutsAll old.errors new (schedule_line fault) put
      → Meets of_schedule result old (now old.input old.output new)
  refused_schedule fault new put result is by puts =
      subst (λ (x : Ending). Meets of_schedule x old (now old.input old.output new)) (sym by)
      (subst (λ (x : Result (List (ℕ × ℕ)) ScheduleFault). Meets (λ i. Some (outcome_of_schedule i budget opened x)) (ended_by put (ScheduleRefused fault)) old (now old.input old.output new)) (sym is)
      (line_meets (ScheduleRefused fault) (schedule_line fault) old.input old.output old.errors new put refl puts))

  pub followed_schedule : (turns : List (ℕ × ℕ)) (w : World) (new : Now) (result : Ending) → r ≡ Ok turns → w ≡ opened
      → Meets (λ i. Some (outcome_of_world i (threads turns budget (with_input w i)))) result old new → Meets of_schedule result old new
  followed_schedule turns w new result is of meets =
      subst (λ (x : Result (List (ℕ × ℕ)) ScheduleFault). Meets (λ i. Some (outcome_of_schedule i budget opened x)) result old new) (sym is)
      (subst (λ (x : World). Meets (λ i. Some (outcome_of_world i (threads turns budget (with_input x i)))) result old new) of meets)
