-- What stops `go`, and the lines that say so.
use Rattle.std.specs.Prelude.{◌≡◌, ℕ, true, List, Option, Some, None, is_some, nat_le, if◌then◌else◌}
use Rattle.emu_model.specs.declared.access.Access.{Access}
use Rattle.emu_model.specs.State.{Parts}
use Rattle.emu_run.specs.Reports.{ending_line}
use Rattle.dbg_model.specs.declared.script.Command.{Command}
use Rattle.dbg_model.specs.declared.script.Command.TheVariants.{Step}
use Rattle.dbg_model.specs.declared.script.Stop.{Stop as Met}
use Rattle.dbg_model.specs.declared.script.Stop.TheVariants.{AtWatch, AtBreak}
use Rattle.dbg_model.specs.Session.{Points, break_line, point_met, command_text, step_line, watch_line}
use Rattle.dbg_core.specs.declared.points.Stop.{Stop}
use Rattle.dbg_core.specs.declared.points.Stop.TheVariants.{Ended, Watch, Break, Spent}

abbrev pub spent_met : ℕ → ℕ → Option Stop
spent_met steps budget = if nat_le budget steps then Some Spent else None

-- the watch or the break that is met, else what comes of the budget
abbrev pub met_or : Option Met → Option Stop → Option Stop
met_or (Some (AtWatch k)) rest = Some (Watch k)
met_or (Some AtBreak) rest = Some Break
met_or None rest = rest

-- The first of the four tests that holds of a machine behind a step that made these accesses: end, watch, break, budget.
abbrev pub first_met : Points → ℕ → List Access → Parts → Option Stop
first_met points budget made m = if is_some m.ended then Some Ended else met_or (point_met points made m) (spent_met m.steps budget)

-- a machine of which it is said that it has ended has
abbrev pub HasEnded : Stop → Parts → Type 0
HasEnded Ended m = is_some m.ended ≡ true
HasEnded (Watch k) m = Unit {0}
HasEnded Break m = Unit {0}
HasEnded Spent m = Unit {0}

abbrev pub line_of_stop : Stop → Parts → List ℕ
line_of_stop Ended m = ending_line m m.ended
line_of_stop (Watch k) m = watch_line k m.steps m.core.pc
line_of_stop Break m = break_line m.steps m.core.pc
line_of_stop Spent m = ending_line m None

-- what a command prints of a machine that counted each of its steps
abbrev pub shown_behind : Command → Parts → List ℕ
shown_behind (Step n) m = step_line m.steps m.core.pc
shown_behind command m = command_text command m
