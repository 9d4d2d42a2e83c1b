-- The accesses of the last step of a run.
use Rattle.std.specs.Prelude.{ℕ, zero, suc, ◌-◌, List, is_none, if◌then◌else◌}
use Rattle.emu_model.specs.declared.access.Access.{Access}
use Rattle.emu_model.specs.State.{Parts}
use Rattle.emu_run.specs.Step.{accesses, step_from}

-- those of the last of at most so many steps of a machine that stops at its end, and those from before where it takes none
unfoldable pub last_accesses : List Access → Parts → List ℕ → ℕ → List Access
last_accesses before m input zero = before
last_accesses before m input (suc k) = if is_none m.ended then last_accesses (accesses m) (step_from m input).parts (step_from m input).input k else before

-- the same of a run with a budget of steps
abbrev pub run_accesses : List Access → Parts → List ℕ → ℕ → List Access
run_accesses before m input budget = last_accesses before m input (budget - m.steps)
