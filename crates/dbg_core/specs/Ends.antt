-- How a session ends, and what a part of it makes of a machine and of its streams.
use Rattle.std.specs.Prelude.{◌≡◌, ◌<◌, ◌⊎◌, ℕ, Bool, true, false, List, ◌++◌, length, take, is_none, Option, Some, IfSome, Result, Ok, Err}
use Rattle.emu_model.specs.State.{Parts, State}
use Rattle.io_gate.specs.declared.streams.Failed.{Failed}
use Rattle.emu_system.specs.Start.{with_input}
use Rattle.emu_run.specs.Run.{until_end}
use Rattle.emu_machine.specs.Ends.{Becomes, TakesWithin, Puts, IsKept}
use Rattle.emu_machine.specs.Machines.{MachineState, MakesWrite}
use Rattle.emu_machine.specs.declared.ends.RunEnd.{RunEnd}
use Rattle.emu_machine.specs.declared.ends.RunEnd.TheVariants as runs
use Rattle.emu_machine.specs.declared.ends.StepEnd.{StepEnd}
use Rattle.emu_machine.specs.declared.ends.StepEnd.TheVariants as steps
use Rattle.dbg_model.specs.declared.script.Command.{Command}
use Rattle.dbg_model.specs.declared.script.Command.TheVariants.{Break, Watch}
use Rattle.dbg_model.specs.Session.{Points}
use Rattle.dbg_model.specs.Forward.{session}
use Rattle.dbg_core.specs.declared.ends.SessionEnd.{SessionEnd}
use Rattle.dbg_core.specs.declared.ends.SessionEnd.TheVariants.{Done, ReadFault, WriteFault, ErrorsFault}

-- a stream failed, so the session was broken off
abbrev pub is_fault : SessionEnd → Bool
is_fault Done = false
is_fault ReadFault = true
is_fault WriteFault = true
is_fault ErrorsFault = true

-- the answer of a part of a session by that of a run
abbrev pub end_of_run : RunEnd → SessionEnd
end_of_run (runs.Exit code) = Done
end_of_run (runs.Trap trap) = Done
end_of_run runs.Spent = Done
end_of_run runs.ReadFault = ReadFault
end_of_run runs.WriteFault = WriteFault
end_of_run runs.ErrorsFault = ErrorsFault

-- by that of a step
abbrev pub end_of_step : StepEnd → SessionEnd
end_of_step steps.Going = Done
end_of_step (steps.Exit code) = Done
end_of_step (steps.Trap trap) = Done
end_of_step steps.ReadFault = ReadFault
end_of_step steps.WriteFault = WriteFault
end_of_step steps.ErrorsFault = ErrorsFault

-- and by that of a line that was put to the output
abbrev pub end_of_put : Result (Unit {0}) Failed → SessionEnd
end_of_put (Ok done) = Done
end_of_put (Err failed) = WriteFault

-- f is what was made of the machine and of its streams
pub record Obeys (f : State → State) (old new : Parts) (told left held_old held_new errs_old errs_new : Option (List ℕ)) (end : SessionEnd) : Type 0 where
  pub state : Becomes f old new told left (is_fault end)
  pub input : TakesWithin f old told left (is_fault end)
  pub output : Puts (λ st. (f st).output) old told held_old held_new (is_fault end)
  pub errors : Puts (λ st. (f st).errors) old told errs_old errs_new (is_fault end)

-- ---- what a session that was broken off leaves of the machine

-- Some steps lead to where one was broken off. The machine stands before that step, except that bytes which its call took are stored.
pub record Halts (start : State) (now : Parts) (left : Option (List ℕ)) : Type 0 where
  pub steps : ℕ
  pub kept : IsKept (until_end start steps).parts now (Some (until_end start steps).input) left

-- What a part of a session leaves of the machine: what f makes of it, unless a step was broken off, also where a line of the part couldn't be put. A
-- step is broken off only within a budget, of a machine that goes on; where it was to write to the output, its call says so.
pub record LeavesMachine (f : State → State) (budget : ℕ) (old : Parts) (new : MachineState) (told left : Option (List ℕ)) (end : SessionEnd) : Type 0 where
  pub whole : Becomes f old new.parts told left new.failed
  pub halted : IfSome told (λ bytes. new.failed ≡ true → Halts (with_input old bytes) new.parts left)
  pub line : new.failed ≡ false → is_fault end ≡ true → end ≡ WriteFault
  pub write_named : new.failed ≡ true → end ≡ WriteFault → MakesWrite new.parts 1
  pub unspent : new.failed ≡ true → new.parts.steps < budget
  pub unended : new.failed ≡ true → is_none new.parts.ended ≡ true

-- Where a session of these commands has left the machine and the input: as its first commands leave them, or, where a step was broken off, some steps
-- behind them and before that step, except that bytes which its call took are stored.
pub record StandsIn (commands : List Command) (budget : ℕ) (start : State) (now : MachineState) (left : Option (List ℕ)) : Type 0 where
  pub first : ℕ
  pub whole : now.failed ≡ false → (now.parts ≡ (session (take first commands) budget start).parts) × (left ≡ Some (session (take first commands) budget start).input)
  pub halted : now.failed ≡ true → Halts (session (take first commands) budget start) now.parts left

-- ---- what a sink that didn't fail has gained then

-- Some steps lead to where one was broken off, and a sink has gained just the bytes of what leads there.
pub record HaltsWith (put : State → List ℕ) (start : State) (now : Parts) (left held_old held_new : Option (List ℕ)) : Type 0 where
  pub steps : ℕ
  pub kept : IsKept (until_end start steps).parts now (Some (until_end start steps).input) left
  pub gained : IfSome held_old (λ had. held_new ≡ Some (had ++ put (until_end start steps)))

-- A part of a session loses no byte of a sink that didn't fail: where a step was broken off, the sink has all that the steps before it put; where a line
-- of the part couldn't be put, the errors have all that f puts.
pub record Spares (f : State → State) (old : Parts) (new : MachineState) (told left ho hn eo en : Option (List ℕ)) (end : SessionEnd) : Type 0 where
  pub output : (end ≡ ReadFault) ⊎ (end ≡ ErrorsFault) → IfSome told (λ bytes. HaltsWith (λ st. st.output) (with_input old bytes) new.parts left ho hn)
  pub errors : new.failed ≡ true → (end ≡ ReadFault) ⊎ (end ≡ WriteFault) → IfSome told (λ bytes. HaltsWith (λ st. st.errors) (with_input old bytes) new.parts left eo en)
  pub line : new.failed ≡ false → Puts (λ st. (f st).errors) old told eo en false

-- Where a session was broken off, a sink has gained just the bytes that its first commands put, and, where it was in a step, those of the steps behind them:
-- the machine stands where these lead.
pub record StandsWith (put : State → List ℕ) (commands : List Command) (budget : ℕ) (start : State) (now : MachineState) (left held_old held_new : Option (List ℕ)) : Type 0 where
  pub first : ℕ
  pub steps : ℕ
  pub whole : now.failed ≡ false → (steps ≡ 0) × (now.parts ≡ (session (take first commands) budget start).parts)
  pub kept : now.failed ≡ true → IsKept (until_end (session (take first commands) budget start) steps).parts now.parts (Some (until_end (session (take first commands) budget start) steps).input) left
  pub gained : IfSome held_old (λ had. held_new ≡ Some (had ++ put (until_end (session (take first commands) budget start) steps)))

-- one more point may be added by a command
abbrev pub TakesPoint : Points → Command → Type 0
TakesPoint points (Break address) = length points.breaks < 64
TakesPoint points (Watch address count) = length points.watches < 64
TakesPoint points command = Unit {0}
