-- How a run of a world ends, and what it makes of the world and of its streams.
use Rattle.std.specs.Prelude.{◌≡◌, ◌≤◌, ◌<◌, ℕ, ◌+◌, Bool, true, false, ◌||◌, is_some, List, length, Option, Some, IfSome, nat_eq}
use Rattle.std.specs.List.{list_any}
use Rattle.guest_contexts.specs.Standings.{AreReady, has_monitor}
use Rattle.std.specs.Coded.{Coded, code_by, coded×, coded_bool}
use Rattle.std.proofs.Common.{refl}
use Rattle.emu_model.specs.State.{Parts}
use Rattle.emu_run.specs.Codes.{coded_world}
use Rattle.emu_system.specs.Gained.{Gains}
use Rattle.emu_system.specs.SystemCall.{action}
use Rattle.emu_machine.specs.declared.ends.StepEnd.{StepEnd}
use Rattle.emu_machine.specs.declared.ends.StepEnd.TheVariants.{Going, Exit as StepExit, Trap as StepTrap, ReadFault as StepReadFault, WriteFault as StepWriteFault, ErrorsFault as StepErrorsFault}
use Rattle.emu_machine.specs.Ends.{LeftOf}
use Rattle.linux_calls.specs.Ends.{Stores}
use Rattle.emu_run.specs.declared.thread.WorldEnding.{WorldEnding}
use Rattle.emu_run.specs.declared.thread.WorldEnding.TheVariants.{Exit as Exited, Trap as Trapped, Spent as IsSpent, Stuck as IsStuck}
use Rattle.emu_run.specs.declared.thread.SchedulePlace.{SchedulePlace}
use Rattle.emu_run.specs.declared.thread.Standing.TheVariants.{Ready}
use Rattle.emu_run.specs.Worlds.{World, Context, context, parts_with, some_ready}
use Rattle.emu_run.specs.Living.{some_waiting}
use Rattle.emu_run.specs.Threads.{WorldState, ending, pick, turn_at, with_input}
use Rattle.guest_threads.specs.declared.ends.WorldEnd.{WorldEnd}
use Rattle.guest_threads.specs.declared.ends.WorldEnd.TheVariants.{Exit, Trap, Spent, Stuck, ReadFault, WriteFault, ErrorsFault}

-- a world, and whether a stream has failed in a step, which ends it
pub record WorldHeld : Type 0 where
  pub world : World
  pub failed : Bool

abbrev pub coded_held : Coded WorldHeld
coded_held = code_by (World × Bool) (coded× coded_world coded_bool) (λ h. (h.world, h.failed)) (λ t. record { world = t.0; failed = t.1 }) (λ _. refl)

abbrev pub has_ended : WorldHeld → Bool
has_ended h = is_some h.world.ended || h.failed

-- the machine has the registers of one of the contexts, there is room for 64, and what is known of the contexts is so
pub record IsInside (place : ℕ) (contexts : List Context) (capacity spares : ℕ) (numbers : List ℕ) (unwatched : Bool) : Type 0 where
  pub last : place < length contexts
  pub most : length contexts ≤ 64
  pub room : 64 ≤ capacity
  pub spare : 64 ≤ length contexts + spares
  pub ready : AreReady contexts numbers
  pub quiet : unwatched ≡ true → list_any has_monitor contexts ≡ false

-- ---- the answers

abbrev pub world_end : WorldEnding → WorldEnd
world_end (Exited code) = Exit code
world_end (Trapped t pc) = Trap t pc
world_end IsSpent = Spent
world_end IsStuck = Stuck

abbrev pub end_of_world : World → WorldEnd
end_of_world w = world_end (ending w w.ended)

-- the answer of a run whose last step ended so
abbrev pub world_end_of : World → StepEnd → WorldEnd
world_end_of w Going = end_of_world w
world_end_of w (StepExit code) = Exit code
world_end_of w (StepTrap t) = Trap t (context w w.last).core.pc
world_end_of w StepReadFault = ReadFault
world_end_of w StepWriteFault = WriteFault
world_end_of w StepErrorsFault = ErrorsFault

-- the last step wasn't done
abbrev pub is_broken_off : WorldEnd → Bool
is_broken_off (Exit _) = false
is_broken_off (Trap _ _) = false
is_broken_off Spent = false
is_broken_off Stuck = false
is_broken_off ReadFault = true
is_broken_off WriteFault = true
is_broken_off ErrorsFault = true

-- the machine of the context that took the last step
abbrev pub last_machine : World → Parts
last_machine w = parts_with w (context w w.last)

-- no context is ready, and one waits
pub record AllWait (w : World) : Type 0 where
  pub none : some_ready w ≡ false
  pub one : some_waiting w ≡ true

-- ---- a place in a schedule

-- the context is one of the world's, and ready
pub record IsReadyAt (w : World) (k : ℕ) : Type 0 where
  pub within : k < length w.contexts
  pub ready : (context w k).standing ≡ Ready

-- a turn isn't over, and where it has begun its context is ready
pub record IsPlace (w : World) (schedule : List (ℕ × ℕ)) (p : SchedulePlace) : Type 0 where
  pub turn : p.turn < length schedule
  pub used : p.used < (turn_at schedule p.turn).1
  pub held : nat_eq p.used 0 ≡ false → IsReadyAt w p.held

-- the context takes the next step
pub record IsPicked (w : World) (schedule : List (ℕ × ℕ)) (p : SchedulePlace) (k : ℕ) : Type 0 where
  pub is : k ≡ pick w schedule p
  pub at : IsReadyAt w k
  pub some : some_ready w ≡ true

-- a world whose last step, of context k, wasn't done stands before the call that it made, and the bytes that were taken are stored
pub record IsKept (old new : World) (k : ℕ) (told left : Option (List ℕ)) : Type 0 where
  pub is : new ≡ record old { memory = new.memory; last = k }
  pub stored : Stores (action (parts_with old (context old k))) old.memory new.memory told left

-- the same of a world that stood so, and whose context of the step is now the last
abbrev pub IsKeptAt : WorldState → World → Option (List ℕ) → Type 0
IsKeptAt st new left = IsKept st.world new new.last (Some st.input) left

-- ---- what f makes of a world and of its streams. It is broken off where a step of it wasn't done.

-- where the input told its bytes: the world is what f makes of it, and what f leaves of the input is left
abbrev pub Becomes : (WorldState → WorldState) → World → World → Option (List ℕ) → Option (List ℕ) → Bool → Type 0
Becomes f old new told left broken = IfSome told (λ bytes. broken ≡ false → (new ≡ (f (with_input old bytes)).world) × (left ≡ Some (f (with_input old bytes)).input))

-- where the input told its bytes, and the run was broken off: no more was taken than f takes
abbrev pub TakesWithin : (WorldState → WorldState) → World → Option (List ℕ) → Option (List ℕ) → Bool → Type 0
TakesWithin f old told left broken = IfSome told (λ bytes. broken ≡ true → LeftOf bytes (length (f (with_input old bytes)).input) left)

-- where the sink told what it held: it gained the bytes that f puts to it, whatever the input has
abbrev pub PutsAlways : (WorldState → List ℕ) → World → Option (List ℕ) → Option (List ℕ) → Bool → Type 0
PutsAlways put_by_f old held_old held_new broken = (bytes : List ℕ) → IfSome held_old (λ had. Gains broken held_new had (put_by_f (with_input old bytes)))

-- where the input told its bytes, and the sink what it held: the sink gained the bytes that f puts to it
abbrev pub Puts : (WorldState → List ℕ) → World → Option (List ℕ) → Option (List ℕ) → Option (List ℕ) → Bool → Type 0
Puts put_by_f old told held_old held_new broken = IfSome told (λ bytes. IfSome held_old (λ had. Gains broken held_new had (put_by_f (with_input old bytes))))
