-- A run of a world under a schedule. `threads`, at the end, is the whole of it. It is this project's own choice, as
-- docs/MANUAL.md has it under "Threads" and "Schedules".
--
-- A schedule is a list of turns, each the place of a context among those that are ready, and a number of steps. A turn
-- stays with the context that it began with, and ends with its last step or where its context waits or is gone. After
-- the last turn the schedule begins again.
use Rattle.std.specs.Prelude.{ℕ, zero, suc, ◌+◌, ◌-◌, ◌%◌, Bool, true, false, not, ◌||◌, ◌&&◌, List, [], ◌++◌, get_or, length, Option, Some, None, is_none, nat_eq, if◌then◌else◌}
use Rattle.a64_insn.specs.declared.form.A64Form.TheVariants.{Except}
use Rattle.a64_insn.specs.declared.ops.ExceptOp.TheVariants.{Svc}
use Rattle.emu_model.specs.declared.access.Kind.TheVariants.{Fetch}
use Rattle.emu_model.specs.declared.trap.Ended.{Ended}
use Rattle.emu_model.specs.declared.trap.Ended.TheVariants.{Exit as Exited, Trap as Trapped}
use Rattle.emu_model.specs.Access.{refused, value}
use Rattle.emu_model.specs.State.{Parts}
use Rattle.emu_run.specs.declared.insn.Insn.{Insn}
use Rattle.emu_run.specs.declared.insn.Insn.TheVariants.{A64}
use Rattle.emu_run.specs.Step.{accesses, decode, step_from}
use Rattle.emu_system.specs.SystemCall.{Stepped, error_answer}
use Rattle.emu_run.specs.declared.thread.SchedulePlace.{SchedulePlace}
use Rattle.emu_run.specs.declared.thread.Standing.TheVariants.{Ready}
use Rattle.emu_run.specs.declared.thread.WorldEnding.{WorldEnding}
use Rattle.emu_run.specs.declared.thread.WorldEnding.TheVariants.{Exit, Trap, Spent, Stuck}
use Rattle.emu_run.specs.ThreadCall.{ThreadAction, fails, answers, starts, waits, wakes, clears, leaves, alone, action, answered, error_number, start_made, wait_made, wake_made, clear_made, leave_made}
use Rattle.emu_run.specs.Worlds.{World, context, is_ready, ready, some_ready, parts_with, apart, others_behind, without_monitors, taken_by_context}

-- ---- one step of a context

-- what a step makes of the world and of the input, and what it puts
pub record WorldStepped : Type 0 where
  pub world : World
  pub input : List ℕ
  pub output : List ℕ
  pub errors : List ℕ

abbrev pub quietly : World → List ℕ → WorldStepped
quietly world input = record { world = world; input = input; output = []; errors = [] }

-- the step of a machine alone
abbrev pub taken_apart : World → ℕ → Stepped → WorldStepped
taken_apart world k t =
    record { world = apart world k Ready t.parts; input = t.input; output = t.output; errors = t.errors }

abbrev pub stepped_alone : World → ℕ → List ℕ → WorldStepped
stepped_alone world k input = taken_apart world k (step_from (parts_with world (context world k)) input)

-- the step of a call
abbrev pub thread_call_done : ThreadAction → World → ℕ → List ℕ → WorldStepped
thread_call_done (fails e) world k input = quietly (answered world k (error_answer (error_number e))) input
thread_call_done (answers x) world k input = quietly (answered world k x) input
thread_call_done starts world k input = quietly (start_made world k) input
thread_call_done (waits a) world k input = quietly (wait_made world k a) input
thread_call_done (wakes a n) world k input = quietly (wake_made world k a n) input
thread_call_done (clears a) world k input = quietly (clear_made world k a) input
thread_call_done leaves world k input = quietly (leave_made world k) input
thread_call_done alone world k input = stepped_alone world k input

-- the word at the program counter can be fetched, and is svc
abbrev pub is_svc : Option Insn → Bool
is_svc (Some (A64 (Except Svc imm16))) = true
is_svc insn = false

abbrev pub makes_call : Parts → Bool
makes_call parts =
    nat_eq (parts.core.pc % 4) 0 && is_none (refused parts.memory parts.core.pc 4 Fetch)
    && is_svc (decode (value parts.memory parts.core.pc 4))

abbrev pub with_world : (World → World) → WorldStepped → WorldStepped
with_world change t = record t { world = change t.world }

-- one step of context k, which is ready, of a world that hasn't ended; a call empties all monitors, and any other step
-- those of the other contexts that it writes to
abbrev pub one : World → ℕ → List ℕ → WorldStepped
one world k input =
    if makes_call (parts_with world (context world k))
    then with_world (λ left. taken_by_context k (without_monitors left))
    (thread_call_done (action world k) world k input)
    else with_world (λ left. taken_by_context k (others_behind (accesses (parts_with world (context world k))) k left))
    (stepped_alone world k input)

-- ---- the schedule

abbrev pub first_place : SchedulePlace
first_place = record { turn = 0; used = 0; held = 0 }

abbrev pub turn_at : List (ℕ × ℕ) → ℕ → ℕ × ℕ
turn_at schedule turn = get_or schedule turn (0, 1)

-- the context of a place among those that are ready
abbrev pub ready_at : World → ℕ → ℕ
ready_at world place = get_or (ready world) (place % length (ready world)) 0

-- the context that takes the next step
abbrev pub pick : World → List (ℕ × ℕ) → SchedulePlace → ℕ
pick world schedule p = if nat_eq p.used 0 then ready_at world (turn_at schedule p.turn).0 else p.held

-- a step of context k that left this world was the last one of its turn
abbrev pub is_over : World → List (ℕ × ℕ) → SchedulePlace → ℕ → Bool
is_over world schedule p k = nat_eq (p.used + 1) (turn_at schedule p.turn).1 || not (is_ready (context world k))

abbrev pub next_turn : List (ℕ × ℕ) → ℕ → ℕ
next_turn schedule turn = if nat_eq (turn + 1) (length schedule) then 0 else turn + 1

-- the place behind such a step: in the same turn, which stays with context k, or at the beginning of the next
abbrev pub next_place : World → List (ℕ × ℕ) → SchedulePlace → ℕ → SchedulePlace
next_place world schedule p k =
    if is_over world schedule p k then record { turn = next_turn schedule p.turn; used = 0; held = 0 }
    else record { turn = p.turn; used = p.used + 1; held = k }

-- ---- a run

-- a world, with the bytes still to come, and those written so far to file 1 and to file 2
pub record WorldState : Type 0 where
  pub world : World
  pub input : List ℕ
  pub output : List ℕ
  pub errors : List ℕ

-- what is put comes behind what was written
abbrev pub taken_by : WorldState → WorldStepped → WorldState
taken_by st t =
    record { world = t.world; input = t.input; output = st.output ++ t.output; errors = st.errors ++ t.errors }

abbrev pub stepped : WorldState → ℕ → WorldState
stepped st k = taken_by st (one st.world k st.input)

-- it hasn't ended, and a context is ready
abbrev pub goes_on : World → Bool
goes_on world = is_none world.ended && some_ready world

-- at most so many steps from a place of the schedule on
unfoldable pub threads_from : List (ℕ × ℕ) → SchedulePlace → WorldState → ℕ → WorldState
threads_from schedule p st zero = st
threads_from schedule p st (suc n) =
    if goes_on st.world
    then threads_from schedule
    (next_place (stepped st (pick st.world schedule p)).world schedule p (pick st.world schedule p))
    (stepped st (pick st.world schedule p)) n
    else st

-- the run with a budget of steps, of which each counts one or ends the world
abbrev pub threads : List (ℕ × ℕ) → ℕ → WorldState → WorldState
threads schedule budget st = threads_from schedule first_place st (budget - st.world.steps)

-- how it ended; where no context is ready, a budget that is counted says nothing
abbrev pub ending : World → Option Ended → WorldEnding
ending world (Some (Exited code)) = Exit code
ending world (Some (Trapped t)) = Trap t (context world world.last).core.pc
ending world None = if some_ready world then Spent else Stuck

-- a world that has written nothing yet, with its input
abbrev pub with_input : World → List ℕ → WorldState
with_input world input = record { world = world; input = input; output = []; errors = [] }
