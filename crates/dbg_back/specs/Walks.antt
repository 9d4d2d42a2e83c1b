-- A machine with marks on its way through a session that may go back, and what calls make of it and of the sinks.
use Rattle.std.specs.Prelude.{◌≡◌, ◌≤◌, ◌⊎◌, ℕ, ◌-◌, min, Bool, true, false, List, length, drop, get_or, Option, Some, None, is_none, is_some, IfSome, nat_lt, if◌then◌else◌}
use Rattle.emu_model.specs.Marks.{Marks}
use Rattle.emu_model.specs.State.{Parts, State}
use Rattle.emu_run.specs.Run.{goes_on, run, until_end}
use Rattle.emu_system.specs.Gained.{Gains}
use Rattle.emu_machine.specs.Machines.{MachineState, Saved, saved_of}
use Rattle.dbg_model.specs.CourseLaws.{IsOn}
use Rattle.dbg_model.specs.Session.{Course, walked, moved_to}
use Rattle.dbg_back.specs.declared.trail.Trail.{Trail}

-- ---- marks

-- what mark k keeps, by the pages and the rest that the machine has of its marks: the machine of the run from the start
-- behind so many steps, and its place in the input
pub record IsMark (start : State) (input : List ℕ) (marks : Marks) (saved : List Saved) (k steps place : ℕ) : Type 0 where
  pub pages : get_or marks k None ≡ Some (until_end start steps).parts.memory.pages
  pub rest : (d : Saved) → get_or saved k d ≡ saved_of (until_end start steps).parts
  pub going : goes_on (until_end start steps) ≡ true
  pub counted : (until_end start steps).parts.steps ≡ steps
  pub left : drop place input ≡ (until_end start steps).input
  pub within : place ≤ length input

-- the first mark keeps the start
pub record AreMarks (start : State) (input : List ℕ) (marks : Marks) (saved : List Saved) (steps places : List ℕ) : Type 0 where
  pub count : length marks ≡ 16
  pub count_saved : length saved ≡ 16
  pub count_steps : length steps ≡ 16
  pub count_places : length places ≡ 16
  pub first : is_some (get_or marks 0 None) ≡ true
  pub start_steps : get_or steps 0 0 ≡ 0
  pub each : (k : ℕ) → is_some (get_or marks k None) ≡ true → IsMark start input marks saved k (get_or steps k 0) (get_or places k 0)

-- ---- where the machine is

-- a machine and its place in the input, as in a state
pub record IsIn (st : State) (input : List ℕ) (m : MachineState) (place : ℕ) : Type 0 where
  pub parts : m.parts ≡ st.parts
  pub failed : m.failed ≡ false
  pub left : drop place input ≡ st.input
  pub within : place ≤ length input

-- the same in a session that has come so far from a start, with the marks that it keeps
pub record IsWalk (start : State) (input : List ℕ) (c : Course) (m : MachineState) (t : Trail) : Type 0 where
  pub here : IsIn c.state input m t.place
  pub on : IsOn start c.state
  pub top : t.top ≡ c.top
  pub below : c.state.parts.steps ≤ c.top
  pub none : start.parts.steps ≡ 0
  pub marks : AreMarks start input m.marks m.saved t.steps t.places

-- in some session
pub record CanWalk (input : List ℕ) (m : MachineState) (t : Trail) : Type 0 where
  pub start : State
  pub course : Course
  pub walk : IsWalk start input course m t

-- the machine that it went back to, from which on it takes steps up to `target`
pub record IsTurned (target : ℕ) (start : State) (input : List ℕ) (c : Course) (m : MachineState) (t : Trail) : Type 0 where
  pub count : ℕ
  pub before : count ≤ target
  pub counted : (until_end start count).parts.steps ≡ count
  pub walk : IsWalk start input (record { state = moved_to (until_end start count) c.state; top = c.top }) m t

abbrev pub Turns : ℕ → MachineState → MachineState → Trail → Trail → Type 0
Turns target old new trail_old trail_new =
    (start : State) (input : List ℕ) (c : Course) → IsWalk start input c old trail_old → target ≤ c.state.parts.steps → IsTurned target start input c new trail_new

-- ---- what calls make of it

-- the bytes that a sink gained behind those that it had when the session began, where it tells them
abbrev pub Gained : Option (List ℕ) → Bool → Option (List ℕ) → List ℕ → Type 0
Gained had broken held bytes = IfSome had (λ before. Gains broken held before bytes)

-- a run of the machine up to so many steps
pub record Runs (until : ℕ) (input : List ℕ) (old new : MachineState) (place_old place_new : ℕ) (held_old held_new errs_old errs_new : Option (List ℕ)) (broken : Bool) : Type 0 where
  pub here : (st : State) → IsIn st input old place_old → broken ≡ false → IsIn (run st until) input new place_new
  pub output : (st : State) (had : Option (List ℕ)) → IsIn st input old place_old → Gained had false held_old st.output → Gained had broken held_new (run st until).output
  pub errors : (st : State) (had : Option (List ℕ)) → IsIn st input old place_old → Gained had false errs_old st.errors → Gained had broken errs_new (run st until).errors

-- it has ended, or has counted so many steps
abbrev pub Stopped : ℕ → Parts → Type 0
Stopped until m = (is_none m.ended ≡ false) ⊎ (m.steps ≡ until)

-- f of the start makes of the course of the session what the call makes of the machine, and of the sinks as far as it
-- came
pub record Does (f : State → Course → Course) (input : List ℕ) (old new : MachineState) (trail_old trail_new : Trail) (held_old held_new errs_old errs_new : Option (List ℕ)) (broken : Bool) : Type 0 where
  pub walks : (start : State) (c : Course) → IsWalk start input c old trail_old → broken ≡ false → IsWalk start input (f start c) new trail_new
  pub output : (start : State) (c : Course) (had : Option (List ℕ)) → IsWalk start input c old trail_old → Gained had false held_old c.state.output → Gained had broken held_new (f start c).state.output
  pub errors : (start : State) (c : Course) (had : Option (List ℕ)) → IsWalk start input c old trail_old → Gained had false errs_old c.state.errors → Gained had broken errs_new (f start c).state.errors

-- steps up to `until`, but no further than the furthest count where the course is below it
abbrev pub part_end : Course → ℕ → ℕ
part_end c until = if nat_lt c.state.parts.steps c.top then min until c.top else until

abbrev pub advanced : ℕ → Course → Course
advanced until c = walked c (part_end c until - c.state.parts.steps)
