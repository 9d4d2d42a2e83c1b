-- What a call makes of all that it sees, once its action is known.
use Rattle.std.specs.Prelude.{◌≡◌, ℕ, true, false, List, Option, Some, IfSome}
use Rattle.io_gate.specs.Streams.{Causes}
use Rattle.emu_model.specs.declared.program_break.Break.{Break}
use Rattle.emu_model.specs.Access.{Memory}
use Rattle.emu_model.specs.State.{Core, Vectors, Parts}
use Rattle.emu_model.specs.SoundState.{IsSoundBreak}
use Rattle.emu_system.specs.SystemCall.{Action, call_done}
use Rattle.linux_calls.specs.declared.end.CallEnd.{CallEnd}
use Rattle.linux_calls.specs.declared.end.CallEnd.TheVariants.{ReadFault, WriteFault, ErrorsFault}
use Rattle.linux_calls.specs.Ends.{OfInput, Stores, behind, caller, does_put, does_take, end_of, is_fault, is_put_fault}
use Rattle.linux_calls.specs.Names.{NamesRead, NamesWrite}
use Rattle.emu_system.specs.Gained.{Gains}

-- the parts of a machine, what is left of the input, and what the sinks hold
pub record Around : Type 0 where
  pub core : Core
  pub vectors : Vectors
  pub memory : Memory
  pub brk : Break
  pub left : Option (List ℕ)
  pub output : Option (List ℕ)
  pub errors : Option (List ℕ)

abbrev pub caller_of : Around → Parts
caller_of a = caller a.core a.vectors a.memory a.brk

pub record IsDone (action : Action) (old new : Around) (same_input same_output same_errors : Type 0) (call_end : CallEnd) : Type 0 where
  pub state : OfInput action old.left (λ bytes. is_fault call_end ≡ false → behind call_end new.core new.vectors new.memory new.brk ≡ (call_done action (caller_of old) bytes).parts)
  pub input : IfSome old.left (λ bytes. is_fault call_end ≡ false → new.left ≡ Some (call_done action (caller_of old) bytes).input)
  pub output : (bytes : List ℕ) → IfSome old.output (λ had. Gains (is_fault call_end) new.output had (call_done action (caller_of old) bytes).output)
  pub errors : (bytes : List ℕ) → IfSome old.errors (λ had. Gains (is_fault call_end) new.errors had (call_done action (caller_of old) bytes).errors)
  pub end : is_fault call_end ≡ false → call_end ≡ end_of action
  pub sound : IsSoundBreak new.brk
  pub kept : is_fault call_end ≡ true → (new.core ≡ old.core) × (new.vectors ≡ old.vectors) × (new.brk ≡ old.brk)
  pub stored : is_fault call_end ≡ true → Stores action old.memory new.memory old.left new.left
  pub untaken : does_take action ≡ false → same_input
  pub output_kept : does_put 1 action ≡ false → same_output
  pub errors_kept : does_put 2 action ≡ false → same_errors

-- How a call ended, by the streams' counts of faults before it and behind it: a fault comes only where the call names the stream
-- and its count rose. A call that a sink broke off stored nothing.
pub record IsAccounted (call_end : CallEnd) (core : Core) (old new : Memory) (read_before read_behind written_before written_behind errors_before errors_behind : ℕ) : Type 0 where
  pub unstored : is_put_fault call_end ≡ true → new ≡ old
  pub read_cause : Causes (call_end ≡ ReadFault) read_before read_behind
  pub write_cause : Causes (call_end ≡ WriteFault) written_before written_behind
  pub errors_cause : Causes (call_end ≡ ErrorsFault) errors_before errors_behind
  pub read_named : call_end ≡ ReadFault → NamesRead core
  pub write_named : call_end ≡ WriteFault → NamesWrite core 1
  pub errors_named : call_end ≡ ErrorsFault → NamesWrite core 2
