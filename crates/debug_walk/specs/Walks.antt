-- Walks through the machines of a run: on to the first that meets a test, and back to the last that does.
--
-- A test is asked of a machine that a step led to: of the address of that step's instruction, of the machine, and of
-- the accesses of the step. Behind no step the address is the machine's own, and there are no accesses.
use Rattle.std.specs.Prelude.{ℕ, zero, suc, ◌+◌, ◌-◌, ◌^◌, min, max, Bool, true, false, List, [], Option, Some, None}
use Rattle.std.specs.Prelude.{unwrap_or, nat_le, if◌then◌else◌}
use Rattle.emu_model.specs.declared.access.Access.{Access}
use Rattle.emu_model.specs.declared.trap.Ended.{Ended}
use Rattle.emu_model.specs.declared.trap.Ended.TheVariants.{Exit, Trap}
use Rattle.emu_model.specs.State.{Parts, State}
use Rattle.emu_run.specs.Run.{goes_on, until_end}
use Rattle.emu_run.specs.Step.{accesses}
use Rattle.emu_machine.specs.Machines.{MachineState}
use Rattle.dbg_back.specs.Walks.{IsWalk}
use Rattle.dbg_back.specs.declared.trail.Trail.{Trail}
use Rattle.dbg_model.specs.Session.{Course, back_to, stepped, walked}

abbrev pub Tested : Type 0
Tested = ℕ → Parts → List Access → Bool

-- ---- on

-- of the first machine within so many steps that meets the test `found` of the course before its step; `unfound` of the
-- course behind all the steps, or at the end, where none does
unfoldable pub first_sought : {A : Type 0} → (Course → A) → (Course → A) → Tested → Course → ℕ → A
first_sought found unfound test c zero = unfound c
first_sought found unfound test c (suc n) =
    if goes_on c.state
    then (if test c.state.parts.core.pc (stepped c).state.parts (accesses c.state.parts)
    then found c else first_sought found unfound test (stepped c) n)
    else unfound c

-- that machine, or else the one behind the steps or at the end
abbrev pub sought : Tested → Course → ℕ → Course
sought test c n = first_sought stepped (λ d. d) test c n

-- whether there is one
abbrev pub is_sought : Tested → Course → ℕ → Bool
is_sought test c n = first_sought (λ d. true) (λ d. false) test c n

-- the accesses of the step that leads to it
abbrev pub made_before_sought : Tested → Course → ℕ → List Access
made_before_sought test c n = first_sought (λ d. accesses d.state.parts) (λ d. []) test c n

-- ---- back

-- the accesses of the step that led to the machine of the run from the start behind so many steps
abbrev pub made_before : State → ℕ → List Access
made_before start zero = []
made_before start (suc k) = accesses (until_end start k).parts

-- the test of the machine of the run from the start behind so many steps
abbrev pub is_met_at : Tested → State → ℕ → Bool
is_met_at test start zero = test start.parts.core.pc start.parts []
is_met_at test start (suc k) =
    test (until_end start k).parts.core.pc (until_end start (suc k)).parts (accesses (until_end start k).parts)

-- the last of the first n machines, from the one behind `least` steps on, that meets the test
unfoldable pub last_met : Tested → State → ℕ → ℕ → Option ℕ
last_met test start least zero = None
last_met test start least (suc n) =
    if nat_le least n
    then (if is_met_at test start n then Some n else last_met test start least n)
    else None

-- how many machines stand before one: one that a trap ended stands behind the one that has counted as many steps
abbrev pub trap_count : Option Ended → ℕ
trap_count None = 0
trap_count (Some (Exit code)) = 0
trap_count (Some (Trap trap)) = 1

-- 2^64 - 1 at most, the greatest number of steps that a machine counts
abbrev pub machines_before : Parts → ℕ
machines_before m = min (m.steps + trap_count m.ended) (2 ^ 64 - 1)

-- the first of the machines from the one behind `least` steps on that is asked where steps are taken again from one
-- that has counted so many: that one itself only where it has counted none, since it isn't known what led to it
abbrev pub first_asked : ℕ → ℕ → ℕ
first_asked least zero = least
first_asked least (suc counted) = max least (suc counted + 1)

-- up to the mark's own machine then none is asked yet; from the start on each is
abbrev pub unasked : ℕ → ℕ
unasked zero = 0
unasked (suc counted) = suc counted + 1

-- the machine of the run from the start behind k steps, at most as many as are counted
abbrev pub back_at : State → ℕ → Course → Course
back_at start k c = back_to start (c.state.parts.steps - k) c

-- back to the last machine that meets the test, or else to the one behind `least` steps
abbrev pub sought_back : Tested → State → ℕ → Course → Course
sought_back test start least c =
    back_at start (unwrap_or (last_met test start least (machines_before c.state.parts)) least) c

-- ---- to a step

-- back where no more steps than counted are asked for, and else on
abbrev pub at_step : State → ℕ → Course → Course
at_step start target c =
    if nat_le target c.state.parts.steps then back_at start target c
    else walked c (target - c.state.parts.steps)

-- ---- where a session's machine is

-- the machine is one that the run from the start passes, with the marks of a session that has come there
pub record IsOnWalk (start : State) (input : List ℕ) (m : MachineState) (t : Trail) : Type 0 where
  pub course : Course
  pub walk : IsWalk start input course m t

-- whatever the start of the session is, its machine is then one of the same run
pub record StaysOn (input : List ℕ) (old new : MachineState) (trail_old trail_new : Trail) : Type 0 where
  pub stays : (start : State) → IsOnWalk start input old trail_old → IsOnWalk start input new trail_new
