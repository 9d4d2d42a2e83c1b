-- A session whose commands only go forward, by the states alone: what the commands of a script without `back` make of a
-- machine. `ForwardLaws` says that it is the session.
use Rattle.std.specs.Prelude.{ℕ, zero, suc, ◌+◌, ◌-◌, min, List, [], ◌∷◌, ◌++◌, Option, Some, None, if◌then◌else◌}
use Rattle.emu_model.specs.State.{State}
use Rattle.emu_run.specs.Reports.{ending_line}
use Rattle.emu_run.specs.Step.{accesses, step}
use Rattle.emu_run.specs.Run.{goes_on, run}
use Rattle.dbg_model.specs.declared.script.Command.{Command}
use Rattle.dbg_model.specs.declared.script.Command.TheVariants.{Step, Go}
use Rattle.dbg_model.specs.declared.script.Stop.{Stop}
use Rattle.dbg_model.specs.Session.{Points, no_points, with_point, point_met, command_text, stepped_text, stop_line}

-- ---- what a command makes of a machine

abbrev pub printed : List ℕ → State → State
printed text st = record st { output = st.output ++ text }

-- how the machine ended, or that its budget is spent
abbrev pub ending_printed : State → State
ending_printed st = printed (ending_line st.parts st.parts.ended) st

abbrev pub stepped : ℕ → ℕ → State → State
stepped target budget st = let end = run st (min target budget) in printed (stepped_text target end.parts) end

-- where a point was met its line, else what comes of going on
abbrev pub stopped_or : Option Stop → State → State → State
stopped_or (Some stop) st rest = printed (stop_line stop st.parts) st
stopped_or None st rest = rest

-- at most so many steps, up to the end or to the first point that is met; the tests behind a step are: end, watch,
-- break, budget
unfoldable pub go : Points → State → ℕ → State
go points st zero = ending_printed st
go points st (suc k) =
    if goes_on st
    then stopped_or (point_met points (accesses st.parts) (step st).parts) (step st) (go points (step st) k)
    else ending_printed st

abbrev pub obeyed : Command → Points → ℕ → State → State
obeyed (Step n) points budget st = stepped (st.parts.steps + n) budget st
obeyed Go points budget st = go points st (budget - st.parts.steps)
obeyed command points budget st = printed (command_text command st.parts) st

-- ---- the commands one after the other

abbrev pub obeyed_all : List Command → Points → ℕ → State → State
obeyed_all [] points budget st = st
obeyed_all (command ∷ commands) points budget st =
    obeyed_all commands (with_point command points) budget (obeyed command points budget st)

-- a session with a budget of steps, at first without points
abbrev pub session : List Command → ℕ → State → State
session commands budget st = obeyed_all commands no_points budget st
