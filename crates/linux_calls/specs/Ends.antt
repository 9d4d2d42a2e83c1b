-- How a call ends, and what it leaves of the machine and its streams.
use Rattle.std.specs.Prelude.{◌≡◌, ℕ, ◌+◌, Bool, true, false, nat_eq, List, Option, Some, None, IfSome}
use Rattle.emu_model.specs.declared.program_break.Break.{Break}
use Rattle.emu_model.specs.declared.trap.Ended.TheVariants.{Exit as Exited}
use Rattle.emu_model.specs.Access.{Memory, address}
use Rattle.emu_model.specs.State.{Core, Vectors, Parts}
use Rattle.emu_system.specs.SystemCall.{Action, takes, puts, exits, went_on}
use Rattle.linux_calls.specs.declared.end.CallEnd.{CallEnd}
use Rattle.linux_calls.specs.declared.end.CallEnd.TheVariants.{Returned, Exit, ReadFault, WriteFault, ErrorsFault}
use Rattle.linux_calls.specs.Replies.{HasBrokenOff}

-- the call wasn't done
abbrev pub is_fault : CallEnd → Bool
is_fault Returned = false
is_fault (Exit code) = false
is_fault ReadFault = true
is_fault WriteFault = true
is_fault ErrorsFault = true

-- a sink failed
abbrev pub is_put_fault : CallEnd → Bool
is_put_fault Returned = false
is_put_fault (Exit code) = false
is_put_fault ReadFault = false
is_put_fault WriteFault = true
is_put_fault ErrorsFault = true

-- how a call ends that was done
abbrev pub end_of : Action → CallEnd
end_of (exits code) = Exit code
end_of action = Returned

-- a machine that makes a call
abbrev pub caller : Core → Vectors → Memory → Break → Parts
caller c v m brk = record { core = c; vectors = v; memory = m; brk = brk; steps = 0; ended = None }

-- a machine behind its call, with the step counted
abbrev pub behind : CallEnd → Core → Vectors → Memory → Break → Parts
behind Returned c v m brk = went_on (caller c v m brk) c v m (address (c.pc + 4))
behind (Exit code) c v m brk = record { core = c; vectors = v; memory = m; brk = brk; steps = 1; ended = Some (Exited code) }
behind end c v m brk = caller c v m brk

-- where the input tells its bytes; a call that takes none doesn't look at them
abbrev pub OfInput : Action → Option (List ℕ) → (List ℕ → Type 0) → Type 0
OfInput (takes ranges) told P = IfSome told P
OfInput action told P = (bytes : List ℕ) → P bytes

-- a call that was broken off: the bytes that it had taken are stored, and a call that puts leaves the memory as it was
abbrev pub Stores : Action → Memory → Memory → Option (List ℕ) → Option (List ℕ) → Type 0
Stores (takes ranges) m now told left = HasBrokenOff (takes ranges) m now told left
Stores (puts file ranges) m now told left = now ≡ m
Stores action m now told left = ⊥

-- it takes bytes of the input
abbrev pub does_take : Action → Bool
does_take (takes ranges) = true
does_take action = false

-- it puts bytes to this file
abbrev pub does_put : ℕ → Action → Bool
does_put file (puts to ranges) = nat_eq to file
does_put file action = false
