-- How a step and a run end, and what they make of the machine and of its streams.
use Rattle.std.specs.Prelude.{◌≡◌, ◌≤◌, ℕ, ◌+◌, ◌-◌, Bool, true, false, List, length, drop, Option, Some, None, IfSome, MatchBool}
use Rattle.emu_model.specs.declared.trap.Ended.{Ended}
use Rattle.emu_model.specs.declared.trap.Ended.TheVariants.{Exit, Trap}
use Rattle.emu_model.specs.Access.{address}
use Rattle.emu_model.specs.State.{Parts, State}
use Rattle.emu_system.specs.Start.{with_input}
use Rattle.emu_system.specs.SystemCall.{action, went_on}
use Rattle.linux_calls.specs.declared.end.CallEnd.{CallEnd}
use Rattle.linux_calls.specs.declared.end.CallEnd.TheVariants.{Returned, Exit as CallExit, ReadFault as CallReadFault, WriteFault as CallWriteFault, ErrorsFault as CallErrorsFault}
use Rattle.linux_calls.specs.Ends.{OfInput, Stores}
use Rattle.emu_system.specs.Gained.{Gains}
use Rattle.emu_machine.specs.declared.ends.StepEnd.{StepEnd}
use Rattle.emu_machine.specs.declared.ends.StepEnd.TheVariants.{Going, Exit as StepExit, Trap as StepTrap, ReadFault as StepReadFault, WriteFault as StepWriteFault, ErrorsFault as StepErrorsFault}
use Rattle.emu_machine.specs.declared.ends.RunEnd.{RunEnd}
use Rattle.emu_machine.specs.declared.ends.RunEnd.TheVariants.{Exit as RunExit, Trap as RunTrap, Spent, ReadFault, WriteFault, ErrorsFault}
use Rattle.emu_machine.specs.Machines.{is_at_call}

-- ---- the answers

-- the answer of a step that was done
abbrev pub step_end : Option Ended → StepEnd
step_end None = Going
step_end (Some (Exit code)) = StepExit code
step_end (Some (Trap t)) = StepTrap t

-- the answer of a run whose steps were done
abbrev pub run_end : Option Ended → RunEnd
run_end None = Spent
run_end (Some (Exit code)) = RunExit code
run_end (Some (Trap t)) = RunTrap t

-- the answer of a run by that of its last step
abbrev pub run_end_of : StepEnd → RunEnd
run_end_of Going = Spent
run_end_of (StepExit code) = RunExit code
run_end_of (StepTrap t) = RunTrap t
run_end_of StepReadFault = ReadFault
run_end_of StepWriteFault = WriteFault
run_end_of StepErrorsFault = ErrorsFault

-- a stream failed, so the step wasn't done
abbrev pub is_undone : StepEnd → Bool
is_undone Going = false
is_undone (StepExit _) = false
is_undone (StepTrap _) = false
is_undone StepReadFault = true
is_undone StepWriteFault = true
is_undone StepErrorsFault = true

-- and it was a sink
abbrev pub is_unput : StepEnd → Bool
is_unput Going = false
is_unput (StepExit _) = false
is_unput (StepTrap _) = false
is_unput StepReadFault = false
is_unput StepWriteFault = true
is_unput StepErrorsFault = true

-- the last step wasn't done
abbrev pub is_broken_off : RunEnd → Bool
is_broken_off (RunExit _) = false
is_broken_off (RunTrap _) = false
is_broken_off Spent = false
is_broken_off ReadFault = true
is_broken_off WriteFault = true
is_broken_off ErrorsFault = true

-- ---- a step that makes a call, by how the call ended

abbrev pub step_by : CallEnd → StepEnd
step_by Returned = Going
step_by (CallExit code) = StepExit code
step_by CallReadFault = StepReadFault
step_by CallWriteFault = StepWriteFault
step_by CallErrorsFault = StepErrorsFault

-- the machine goes on behind a call that returned, and a call that wasn't done leaves it as it is
abbrev pub left_by : CallEnd → Parts → Parts
left_by Returned m = went_on m m.core m.vectors m.memory (address (m.core.pc + 4))
left_by (CallExit code) m = record m { steps = m.steps + 1; ended = Some (Exit code) }
left_by CallReadFault m = m
left_by CallWriteFault m = m
left_by CallErrorsFault m = m

-- a machine whose last step wasn't done stands before the call that it made, and the bytes that were taken are stored
pub record IsKept (old new : Parts) (told left : Option (List ℕ)) : Type 0 where
  pub is : new ≡ record old { memory = new.memory }
  pub stored : Stores (action old) old.memory new.memory told left

-- ---- what f makes of a machine and of its streams. A call is broken off where a step of it wasn't done.

-- where the input told its bytes: the machine is what f makes of it, and what f leaves of the input is left
abbrev pub Becomes : (State → State) → Parts → Parts → Option (List ℕ) → Option (List ℕ) → Bool → Type 0
Becomes f old new told left broken = IfSome told (λ bytes. broken ≡ false → (new ≡ (f (with_input old bytes)).parts) × (left ≡ Some (f (with_input old bytes)).input))

-- where the input tells its bytes; a step that isn't at a call, or is at one that takes none, doesn't look at them
abbrev pub OfStep : Parts → Option (List ℕ) → (List ℕ → Type 0) → Type 0
OfStep m told P = MatchBool (is_at_call m) (OfInput (action m) told P) ((bytes : List ℕ) → P bytes)

-- a rest of these bytes is left, and at least so many of them
pub record LeftOf (bytes : List ℕ) (least : ℕ) (left : Option (List ℕ)) : Type 0 where
  pub taken : ℕ
  pub most : taken ≤ length bytes - least
  pub is : left ≡ Some (drop taken bytes)

-- where the input told its bytes, and the call was broken off: no more was taken than f takes
abbrev pub TakesWithin : (State → State) → Parts → Option (List ℕ) → Option (List ℕ) → Bool → Type 0
TakesWithin f old told left broken = IfSome told (λ bytes. broken ≡ true → LeftOf bytes (length (f (with_input old bytes)).input) left)

-- where the sink told what it held: it gained the bytes that f puts to it, whatever the input has
abbrev pub PutsAlways : (State → List ℕ) → Parts → Option (List ℕ) → Option (List ℕ) → Bool → Type 0
PutsAlways put_by_f old held_old held_new broken = (bytes : List ℕ) → IfSome held_old (λ had. Gains broken held_new had (put_by_f (with_input old bytes)))

-- where the input told its bytes, and the sink what it held: the sink gained the bytes that f puts to it
abbrev pub Puts : (State → List ℕ) → Parts → Option (List ℕ) → Option (List ℕ) → Option (List ℕ) → Bool → Type 0
Puts put_by_f old told held_old held_new broken = IfSome told (λ bytes. IfSome held_old (λ had. Gains broken held_new had (put_by_f (with_input old bytes))))
