-- A run: steps until the machine has ended or has counted its budget. That steps are counted against a budget is this
-- project's own choice, as docs/MANUAL.md has it under "Commands".
use Rattle.std.specs.Prelude.{ℕ, zero, suc, ◌-◌, Bool, is_none, if◌then◌else◌}
use Rattle.emu_model.specs.State.{State}
use Rattle.emu_run.specs.Step.{step}

-- the machine hasn't ended
abbrev pub goes_on : State → Bool
goes_on st = is_none st.parts.ended

-- the machine k steps on, or at its end where that comes before
unfoldable pub until_end : State → ℕ → State
until_end st zero = st
until_end st (suc k) = if goes_on st then until_end (step st) k else st

-- the run with a budget of steps, of which each counts one or ends the machine
abbrev pub run : State → ℕ → State
run st budget = until_end st (budget - st.parts.steps)
