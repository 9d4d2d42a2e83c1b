-- What a call puts to the sinks.
use Rattle.std.specs.Prelude.{◌≡◌, ℕ, Bool, nat_eq, if◌then◌else◌, List, Option, IfSome, Result, IfOk, IfErr, is_err, MatchBool}
use Rattle.emu_model.specs.Access.{Memory}
use Rattle.emu_system.specs.Gained.{Gains}
use Rattle.emu_system.specs.SystemCall.{Action, puts, range_bytes, total}
use Rattle.linux_calls.specs.declared.end.CallEnd.{CallEnd}
use Rattle.linux_calls.specs.declared.end.CallEnd.TheVariants.{WriteFault, ErrorsFault}
use Rattle.linux_calls.specs.declared.reply.Reply.{Reply}
use Rattle.linux_calls.specs.declared.reply.Reply.TheVariants.{Answer}
use Rattle.linux_calls.specs.Replies.{replied}

-- where it tells what it held, the sink of a file gained the bytes that go there; any other is as it was
abbrev pub PutsTo : ℕ → Action → Memory → Option (List ℕ) → Option (List ℕ) → Type 0 → Bool → Type 0
PutsTo file (puts to ranges) m held now untouched broken = MatchBool (nat_eq to file) (IfSome held (λ had. Gains broken now had (range_bytes m ranges))) untouched
PutsTo file action m held now untouched broken = untouched

-- the number of all bytes is answered
abbrev pub HasPut : Action → Reply → Type 0
HasPut (puts to ranges) reply = reply ≡ Answer (total ranges)
HasPut action reply = action ≡ replied reply

-- the output is file 1, and the stream of errors file 2
abbrev pub fault_of : ℕ → CallEnd
fault_of file = if nat_eq file 1 then WriteFault else ErrorsFault

abbrev pub FailsAt : Action → CallEnd → Type 0
FailsAt (puts to ranges) end = end ≡ fault_of to
FailsAt action end = ⊥

-- a call that puts bytes came to its end, or failed at a sink; any other put none
pub record HasWritten (action : Action) (m : Memory) (output_had output_has : Option (List ℕ)) (same_output : Type 0) (errors_had errors_has : Option (List ℕ)) (same_errors : Type 0) (result : Result Reply CallEnd) : Type 0 where
  pub replied : IfOk result (HasPut action)
  pub failed : IfErr result (FailsAt action)
  pub output : PutsTo 1 action m output_had output_has same_output (is_err result)
  pub errors : PutsTo 2 action m errors_had errors_has same_errors (is_err result)
