-- What a run of threads comes to without its report, and what is told of it, by the answer of its world.
use Rattle.std.proofs.Common.{◌≡◌, ℕ, ◌-◌, Bool, true, false, List, [], Option, Some, None, Result, Ok, Err, IfErr, IfOk}
use Rattle.std.proofs.Common.{IfSome, cond, refl, sym, ap, subst, ◌∙◌, append-nil}
use Rattle.std.proofs.lemmas.Option.{IfSome_then}
use Rattle.io_gate.specs.Pieces.{puts_nothing}
use Rattle.command_model.specs.WorldReports.{world_report}
use Rattle.command_lines.specs.Outcome.{ending_of_world}
use Rattle.command_lines.specs.declared.ending.Ending.{Ending}
use Rattle.command_lines.specs.declared.ending.Ending.TheVariants.{Exit, OutOfMemory, ScheduleRefused}
use Rattle.command_lines.specs.declared.ending.Ending.TheVariants.{FileFault, ReadFault, WriteFault, ErrorsFault}
use Rattle.elf_symbols.specs.declared.Symbol.{Symbol}
use Rattle.emu_model.specs.declared.trap.Ended.{Ended}
use Rattle.emu_model.specs.declared.trap.Ended.TheVariants.{Exit as Exited, Trap as Trapped}
use Rattle.emu_run.specs.RunLaws.{IsRest}
use Rattle.emu_run.specs.ThreadLaws.{from_moves}
use Rattle.emu_run.specs.Threads.{WorldState, ending, first_place, threads, with_input}
use Rattle.emu_run.specs.Worlds.{World, context, parts_with, some_ready}
use Rattle.emu_run.specs.declared.thread.WorldEnding.{WorldEnding}
use Rattle.emu_run.specs.declared.thread.WorldEnding.TheVariants as stops
use Rattle.emu_system.specs.declared.image.Segment.{Segment}
use Rattle.guest_schedule.specs.declared.schedule.ScheduleFault.{ScheduleFault}
use Rattle.guest_threads.specs.Ends.{Becomes, Puts, TakesWithin, end_of_world, is_broken_off}
use Rattle.guest_threads.specs.declared.ends.WorldEnd.{WorldEnd}
use Rattle.guest_threads.specs.declared.ends.WorldEnd.TheVariants as worlds
use Rattle.commands.specs.Endings.{stop_by}
use Rattle.commands.specs.Meets.{Now, now, Meets}
use Rattle.commands.specs.Promises.{is_failure}
use Rattle.commands.proofs.Meetings.{IsStop, Stopped, outcome_of_stop, broken_meets, stopped_meets}
use Rattle.commands.proofs.NamedFiles.{same_outcome}
use Rattle.commands.proofs.Worlds.{ends_as_world, stop_is, stops_broken, stops_whole}
use Rattle.emu_model.specs.State.{Parts}
use Rattle.tool_sites.specs.Explanation.{ended_text, explanation}
use Rattle.tool_texts.specs.Explanations.{stuck_line}
use Rattle.tool_run.specs.Stops.{GainsReport, HasStopped, IsTold, StopsWorld, is_stuck, world_stop}
use Rattle.tool_run.specs.Tells.{IsExplained, IsSilentExit, SeenStop, said_of}
use Rattle.tool_run.specs.Unreported.{unreported_schedule, unreported_world}
use Rattle.tool_run.proofs.Runs.{refused_meets}
use Rattle.tool_run.proofs.Still.{failed_stopped}

-- with no text behind it
abbrev stopped_at : WorldState → Stopped
stopped_at st = record {
  output = st.output;
  errors = st.errors;
  rest = st.input;
  text = [];
  ending = ending_of_world (ending st.world st.world.ended);
}

without_text : (i : List ℕ) (st : WorldState) → Some (outcome_of_stop i (stopped_at st)) ≡ Some (unreported_world i st)
without_text i st = ap (λ (xs : List ℕ). Some (record (unreported_world i st) { errors = xs })) (append-nil st.errors)

module _ (turns : List (ℕ × ℕ)) (budget : ℕ) (m n : World) (end : WorldEnd) where
  abbrev last : List ℕ → WorldState
  last i = threads turns budget (with_input m i)

  moves : (i : List ℕ) → IsRest i (last i).input
  moves i = (from_moves turns (budget - m.steps) first_place (with_input m i)).input

  stops_so : (i : List ℕ) → IsStop (stopped_at (last i)).ending
  stops_so i = ends_as_world (ending (last i).world (last i).world.ended)

  bare : (result : Ending) (old new : Now) → Meets (λ i. Some (outcome_of_stop i (stopped_at (last i)))) result old new
      → Meets (λ i. Some (unreported_world i (threads turns budget (with_input m i)))) result old new
  bare result old new meets =
      same_outcome (λ i. Some (outcome_of_stop i (stopped_at (last i)))) (λ i. Some (unreported_world i (threads turns
      budget (with_input m i)))) result old new (λ i. without_text i (last i)) meets

  -- a run that was broken off
  pub broken_world : (i0 i1 o0 o1 e0 e1 : Option (List ℕ)) (fault result : Ending) → Err fault ≡ stop_by end → result ≡
      fault
      → TakesWithin (threads turns budget) m i0 i1 (is_broken_off end) → Puts (λ st. (threads turns budget st).output) m
      i0 o0 o1 (is_broken_off end)
      → Puts (λ st. (threads turns budget st).errors) m i0 e0 e1 (is_broken_off end)
      → Meets (λ i. Some (unreported_world i (threads turns budget (with_input m i)))) result (now i0 o0 e0) (now i1 o1
      e1)
  broken_world i0 i1 o0 o1 e0 e1 fault result is by takes outs errs =
      let b = stops_broken end fault is in
      subst (λ (x : Ending). Meets (λ i. Some (unreported_world i (threads turns budget (with_input m i)))) x (now i0 o0
      e0) (now i1 o1 e1)) (sym by)
      (bare fault (now i0 o0 e0) (now i1 o1 e1) (broken_meets (λ i. stopped_at (last i)) moves stops_so i0 i1 o0 o1 e0
      e1 fault
      (subst (λ (b : Bool). TakesWithin (threads turns budget) m i0 i1 b) b.0 takes)
      (subst (λ (b : Bool). Puts (λ st. (threads turns budget st).output) m i0 o0 o1 b) b.0 outs)
      (subst (λ (b : Bool). Puts (λ st. (threads turns budget st).errors) m i0 e0 e1 b) b.0 errs) b.1))

  -- the stop is that of the world that is left
  pub stop_of_world : (stop : WorldEnding) → Ok stop ≡ stop_by end
      → (is_broken_off end ≡ false → end ≡ end_of_world n) →
      stop ≡ ending n n.ended
  stop_of_world stop is ends = stop_is end stop n is (ends (stops_whole end stop is))

  -- a run that stopped
  pub whole_world : (i0 i1 o0 o1 e0 e1 : Option (List ℕ)) (stop : WorldEnding) (result : Ending) → result ≡
      ending_of_world stop → Ok stop ≡ stop_by end
      → Becomes (threads turns budget) m n i0 i1 (is_broken_off end) → Puts (λ st. (threads turns budget st).output) m
      i0 o0 o1 (is_broken_off end)
      → Puts (λ st. (threads turns budget st).errors) m i0 e0 e1 (is_broken_off end)
      → (is_broken_off end ≡ false → end ≡ end_of_world n)
      → Meets (λ i. Some (unreported_world i (threads turns budget (with_input m i)))) result (now i0 o0 e0) (now i1 o1
      e1)
  whole_world i0 i1 o0 o1 e0 e1 stop result by is becomes outs errs ends =
      let whole : is_broken_off end ≡ false = stops_whole end stop is in
      let of_world : stop ≡ ending n n.ended = stop_of_world stop is ends in
      let put : Result ℕ ℕ = Ok 0 in
      subst (λ (x : Ending). Meets (λ i. Some (unreported_world i (threads turns budget (with_input m i)))) x (now i0 o0
      e0) (now i1 o1 e1)) (sym by)
      (bare (ending_of_world stop) (now i0 o0 e0) (now i1 o1 e1) (stopped_meets (λ i. stopped_at (last i)) moves
      stops_so i0 i1 o0 o1 e0 e1 e1 [] (ending_of_world stop) put
      (IfSome_then i0 (subst (λ (b : Bool). Becomes (threads turns budget) m n i0 i1 b) whole becomes)
      (λ i b. (refl, ap ending_of_world (of_world ∙ ap (λ (x : World). ending x x.ended) (b refl).0), (b refl).1)))
      (subst (λ (b : Bool). Puts (λ st. (threads turns budget st).output) m i0 o0 o1 b) whole outs)
      (subst (λ (b : Bool). Puts (λ st. (threads turns budget st).errors) m i0 e0 e1 b) whole errs)
      (ends_as_world stop) (puts_nothing ℕ ℕ e1 0)))

  -- what is told of it
  pub told_world : {T E : Type 0} (Q : E → Type 0) (bytes : T → List ℕ) (said : Result T E) (file : List ℕ) (segments :
      List Segment) (i0 i1 : Option (List ℕ)) (wanted failed kept : Bool)
      (old new : Option (List ℕ)) (stop : WorldEnding) (by result : Ending) (text : List ℕ)
      → Ok stop ≡ stop_by end → Becomes (threads turns budget) m n i0 i1 (is_broken_off end)
      → IfOk said (λ t. IsExplained (world_stop file segments n) (bytes t)) → IfOk said (λ t. (result ≡ by) × (text ≡
      bytes t))
      → IfErr said (λ e. (result ≡ OutOfMemory) × Q e) → kept ≡ failed → GainsReport wanted failed old new
      (world_report n)
      → IfSome i0 (λ i. HasStopped result → IsTold text wanted kept old new (world_stop file segments (threads turns
      budget (with_input m i)).world))
  told_world Q bytes (Ok t) file segments i0 i1 wanted failed kept old new stop by result text is becomes explained ok
      err same gained =
      IfSome_then i0 becomes (λ i b _. subst (λ (x : World). IsTold text wanted kept old new (world_stop file segments
      x)) (b (stops_whole end stop is)).0 (record {
        explained = subst (λ (xs : List ℕ). IsExplained (world_stop file segments n) xs) (sym ok.1) explained;
        report = subst (λ (f : Bool). GainsReport wanted f old new (world_report n)) (sym same) gained;
      }))
  told_world Q bytes (Err e) file segments i0 i1 wanted failed kept old new stop by result text is becomes explained ok
      err same gained = failed_stopped i0 _ result (ap is_failure err.0)

-- ---- what is said of a world

pub stuck_said : (found : List Symbol) (file : List ℕ) (segments : List Segment) (w : World) (stop : WorldEnding) → stop
    ≡ ending w w.ended → is_stuck stop ≡ true
    → stuck_line [] w.steps ≡ said_of found (world_stop file segments w)
stuck_said found file segments w stop of stuck =
    ap (λ (b : Bool). cond b (stuck_line [] w.steps) (explanation found segments (parts_with w (context w w.last)))) (sym
    (ap is_stuck (sym of) ∙ stuck))

pub other_said : (found : List Symbol) (file : List ℕ) (segments : List Segment) (w : World) (stop : WorldEnding) → stop
    ≡ ending w w.ended → is_stuck stop ≡ false
    → explanation found segments (parts_with w (context w w.last)) ≡ said_of found (world_stop file segments w)
other_said found file segments w stop of stuck =
    ap (λ (b : Bool). cond b (stuck_line [] w.steps) (explanation found segments (parts_with w (context w w.last)))) (sym
    (ap is_stuck (sym of) ∙ stuck))

-- ---- an exit

none_exit : (b : Bool) (code : ℕ) → ending_of_world (cond b stops.Spent stops.Stuck) ≡ Exit code → ⊥
none_exit true code exit = cc
none_exit false code exit = cc

silent_ended : (found : List Symbol) (segments : List Segment) (m : Parts) (w : World) (ended : Option Ended) (code : ℕ)
    → ending_of_world (ending w ended) ≡ Exit code
    → cond (is_stuck (ending w ended)) (stuck_line [] m.steps) (ended_text found segments m ended) ≡ []
silent_ended found segments m w None code exit = absurd (none_exit (some_ready w) code exit)
silent_ended found segments m w (Some (Exited c)) code exit = refl
silent_ended found segments m w (Some (Trapped t)) code exit = cc

-- nothing is said of a world that ended by an exit
pub world_exit : (file : List ℕ) (segments : List Segment) (w : World) (stop : WorldEnding) (said : List ℕ) → stop ≡
    ending w w.ended → IsExplained (world_stop file segments w) said → IsSilentExit (ending_of_world stop) said
world_exit file segments w stop said of e code exit =
    e.is ∙ silent_ended e.found segments (parts_with w (context w w.last)) w w.ended code (ap ending_of_world (sym of) ∙
    exit)

-- ---- the schedule

module _ (budget : ℕ) (w : World) (r : Result (List (ℕ × ℕ)) ScheduleFault) where
  pub refused_schedule : (fault : ScheduleFault) (result : Ending) (i o e : Option (List ℕ)) → r ≡ Err fault → result ≡
      ScheduleRefused fault → Meets (λ j. Some (unreported_schedule j budget w r)) result (now i o e) (now i o e)
  refused_schedule fault result i o e is by =
      subst (λ (x : Ending). Meets (λ j. Some (unreported_schedule j budget w r)) x (now i o e) (now i o e)) (sym by)
      (subst (λ (x : Result (List (ℕ × ℕ)) ScheduleFault). Meets (λ j. Some (unreported_schedule j budget w x))
      (ScheduleRefused fault) (now i o e) (now i o e)) (sym is) (refused_meets (ScheduleRefused fault) i o e refl))

  pub followed_schedule : (turns : List (ℕ × ℕ)) (v : World) (result : Ending) (old new : Now) → r ≡ Ok turns → v ≡ w
      → Meets (λ i. Some (unreported_world i (threads turns budget (with_input v i)))) result old new → Meets (λ j. Some
      (unreported_schedule j budget w r)) result old new
  followed_schedule turns v result old new is of meets =
      subst (λ (x : Result (List (ℕ × ℕ)) ScheduleFault). Meets (λ i. Some (unreported_schedule i budget w x)) result
      old new) (sym is)
      (subst (λ (x : World). Meets (λ i. Some (unreported_world i (threads turns budget (with_input x i)))) result old
      new) of meets)

  pub followed_stop : (P : SeenStop → Type 0) (file : List ℕ) (segments : List Segment) (turns : List (ℕ × ℕ)) (v :
      World) (o : Option (List ℕ)) (ending : Ending) → r ≡ Ok turns → v ≡ w
      → IfSome o (λ i. HasStopped ending → P (world_stop file segments (threads turns budget (with_input v i)).world))
      → IfSome o (λ i. HasStopped ending → StopsWorld P file segments budget w i r)
  followed_stop P file segments turns v o ending is of stopped = IfSome_then o stopped (λ i h stop.
      subst (λ (x : Result (List (ℕ × ℕ)) ScheduleFault). StopsWorld P file segments budget w i x) (sym is)
      (subst (λ (x : World). P (world_stop file segments (threads turns budget (with_input x i)).world)) of (h stop)))

-- ---- the faults of a run that was broken off

pub fault_reads : (end : WorldEnd) (fault : Ending) → Err fault ≡ stop_by end → fault ≡ ReadFault → end ≡
    worlds.ReadFault
fault_reads worlds.ReadFault fault is e = refl
fault_reads end fault is e = cc

pub fault_writes : (end : WorldEnd) (fault : Ending) → Err fault ≡ stop_by end → fault ≡ WriteFault → end ≡
    worlds.WriteFault
fault_writes worlds.WriteFault fault is e = refl
fault_writes end fault is e = cc

pub fault_errors : (end : WorldEnd) (fault : Ending) → Err fault ≡ stop_by end → fault ≡ ErrorsFault → end ≡
    worlds.ErrorsFault
fault_errors worlds.ErrorsFault fault is e = refl
fault_errors end fault is e = cc

pub fault_no_file : (end : WorldEnd) (fault : Ending) → Err fault ≡ stop_by end → fault ≡ FileFault → ⊥
fault_no_file worlds.Spent fault is e = cc
fault_no_file end fault is e = cc
