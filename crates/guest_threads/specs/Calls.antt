-- A context that takes a step, and what the calls that speak of contexts make of a world.
use Rattle.std.specs.Prelude.{◌≡◌, ◌<◌, ℕ, ◌-◌, ◌^◌, ◌&&◌, ◌||◌, Bool, false, not, nat_eq, bit_and, is_some, List, length}
use Rattle.emu_model.specs.declared.access.Kind.TheVariants.{Write}
use Rattle.emu_model.specs.Access.{refused}
use Rattle.emu_model.specs.State.{Core}
use Rattle.emu_system.specs.SystemCall.{call_argument}
use Rattle.emu_machine.specs.declared.ends.StepEnd.{StepEnd}
use Rattle.emu_machine.specs.Ends.{step_end}
use Rattle.emu_run.specs.declared.thread.Standing.TheVariants.{Ready}
use Rattle.emu_run.specs.ThreadCall.{ThreadAction, has_flag, known_flags, needed_flags, sets_parent}
use Rattle.emu_run.specs.Threads.{thread_call_done, quietly}
use Rattle.emu_run.specs.Worlds.{World, context}
use Rattle.guest_threads.specs.Ends.{WorldHeld, has_ended}

-- the context whose registers the machine has is one of the world's and ready, and the world hasn't ended
pub record IsCalling (h : WorldHeld) : Type 0 where
  pub going : has_ended h ≡ false
  pub room : h.world.steps < 2 ^ 64 - 1
  pub within : h.world.last < length h.world.contexts
  pub ready : (context h.world h.world.last).standing ≡ Ready

-- the call of this context comes to that action, which is done; no byte of a stream moves
pub record IsMade (a : ThreadAction) (old new : WorldHeld) (answer : StepEnd) : Type 0 where
  pub done : (input : List ℕ) → thread_call_done a old.world old.world.last input ≡ quietly new.world input
  pub last : new.world.last ≡ old.world.last
  pub failed : new.failed ≡ old.failed
  pub end : answer ≡ step_end new.world.ended

-- the parent's word is to be stored, and may not be
abbrev pub is_parent_refused : Core → World → Bool
is_parent_refused c w = sets_parent (call_argument c 0) && is_some (refused w.memory (call_argument c 2) 4 Write)

-- a flag isn't there that is asked for, or one is that isn't known
abbrev pub are_unknown : ℕ → Bool
are_unknown flags = not (has_flag needed_flags flags) || not (nat_eq (bit_and flags (2 ^ 64 - 1 - known_flags)) 0)
