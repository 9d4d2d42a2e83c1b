-- The lines of a run's steps, as far as a window reaches.
use Rattle.std.specs.Prelude.{ℕ, zero, suc, ◌-◌, Bool, false, is_none, not, ◌&&◌, List, [], ◌++◌, nat_lt, if◌then◌else◌}
use Rattle.dbg_model.specs.Session.{step_line as stopped_line}
use Rattle.emu_model.specs.declared.access.Access.{Access}
use Rattle.emu_model.specs.State.{Parts}
use Rattle.emu_run.specs.Reports.{ending_line}
use Rattle.emu_run.specs.Step.{accesses, step_from}
use Rattle.trace_options.specs.declared.shown.Shown.{Shown}
use Rattle.trace_options.specs.declared.window.Stage.{Stage}
use Rattle.trace_options.specs.declared.window.Stage.TheVariants.{Waiting, Telling, Over}
use Rattle.trace_options.specs.declared.window.Window.{Window}
use Rattle.trace_options.specs.Windows.{behind, first_stage, is_over, is_in_range, stage_at}
use Rattle.trace_lines.specs.Lines.{traced_line}

-- ---- how far a trace has come

abbrev pub stage_before : Window → Stage → Parts → Stage
stage_before w stage m = stage_at w stage m.steps m.core.pc

-- ---- the lines

-- a step in the range is told; one that wasn't counted, as it trapped, isn't
abbrev pub is_told : Window → Parts → Parts → Bool
is_told w old new = is_in_range w.within old.core.pc && nat_lt old.steps new.steps

abbrev pub told_line : Shown → Window → Parts → Parts → List Access → List ℕ
told_line shown w old new touched = if is_told w old new then traced_line shown old new touched else []

-- the line of a step, where the trace tells steps
abbrev pub told_lines : Shown → Window → Stage → Parts → Parts → List Access → List ℕ
told_lines shown w (Waiting calls) old new touched = []
told_lines shown w (Telling left) old new touched = told_line shown w old new touched
told_lines shown w Over old new touched = []

-- one more step is taken: the machine hasn't ended, and the trace isn't over
abbrev pub goes_on : Window → Stage → Parts → Bool
goes_on w stage m = is_none m.ended && not (is_over (stage_before w stage m))

-- the lines of at most so many steps of a machine with this input, which stops at its end: each is that of the machine
-- before the step, of what the step makes of it, and of the accesses of the step
unfoldable pub lines_of_steps : Shown → Window → Stage → Parts → List ℕ → ℕ → List ℕ
lines_of_steps shown w stage m input zero = []
lines_of_steps shown w stage m input (suc n) =
    if goes_on w stage m
    then told_lines shown w (stage_before w stage m) m (step_from m input).parts (accesses m)
    ++ lines_of_steps shown w (behind (stage_before w stage m)) (step_from m input).parts (step_from m input).input n
    else []

-- the trace ended before the machine did, and within so many steps
unfoldable pub is_left : Window → Stage → Parts → List ℕ → ℕ → Bool
is_left w stage m input zero = false
is_left w stage m input (suc n) =
    if goes_on w stage m
    then is_left w (behind (stage_before w stage m)) (step_from m input).parts (step_from m input).input n
    else is_none m.ended

-- the machine where the trace ended
unfoldable pub machine_left : Window → Stage → Parts → List ℕ → ℕ → Parts
machine_left w stage m input zero = m
machine_left w stage m input (suc n) =
    if goes_on w stage m
    then machine_left w (behind (stage_before w stage m)) (step_from m input).parts (step_from m input).input n
    else m

-- ---- the whole text

-- the line behind them: as the debugger tells of steps where the window was left, and else as a run's ending is told
abbrev pub closing_line : Bool → Parts → List ℕ
closing_line left m = if left then stopped_line m.steps m.core.pc else ending_line m m.ended

-- of a run with a budget of steps
abbrev pub trace_text : Shown → Window → Parts → List ℕ → ℕ → List ℕ
trace_text shown w m input budget =
    lines_of_steps shown w (first_stage w) m input (budget - m.steps)
    ++ closing_line (is_left w (first_stage w) m input (budget - m.steps))
    (machine_left w (first_stage w) m input (budget - m.steps))
