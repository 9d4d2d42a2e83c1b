-- Replies of calls, and what a call that moves no byte and sets no length leaves.
use Rattle.std.specs.Prelude.{◌≡◌, ◌≤◌, ℕ, List, Option, Some, IfSome, drop, length, min}
use Rattle.emu_model.specs.declared.program_break.Break.{Break}
use Rattle.emu_model.specs.Access.{Memory}
use Rattle.emu_system.specs.SystemCall.{Action, fails, answers, maps, moves_break, sets_length, takes, puts, exits, error_answer, with_ranges, error_number, total}
use Rattle.linux_calls.specs.declared.reply.Reply.{Reply}
use Rattle.linux_calls.specs.declared.reply.Reply.TheVariants.{Answer, Error}
use Rattle.linux_calls.specs.Taken.{Takes}

abbrev pub value_of : Reply → ℕ
value_of (Answer v) = v
value_of (Error e) = error_answer (error_number e)

-- what a call came to that replied so, and did nothing else
abbrev pub replied : Reply → Action
replied (Answer v) = answers v
replied (Error e) = fails e

-- a call that moves no byte and sets no length did what it came to
abbrev pub HasDone : Action → Memory → Break → Memory → Break → Reply → Type 0
HasDone (fails e) m brk now now_brk reply = (reply ≡ Error e) × (now ≡ m) × (now_brk ≡ brk)
HasDone (answers v) m brk now now_brk reply = (reply ≡ Answer v) × (now ≡ m) × (now_brk ≡ brk)
HasDone (maps memory v) m brk now now_brk reply = (reply ≡ Answer v) × (now ≡ memory) × (now_brk ≡ brk)
HasDone (moves_break memory to) m brk now now_brk reply = (reply ≡ Answer to) × (now ≡ memory) × (now_brk ≡ record { start = brk.start; now = to })
HasDone (sets_length bits) m brk now now_brk reply = ⊥
HasDone (takes ranges) m brk now now_brk reply = ⊥
HasDone (puts file ranges) m brk now now_brk reply = ⊥
HasDone (exits code) m brk now now_brk reply = ⊥

-- a call that takes bytes came to its end; any other took none
abbrev pub HasTaken : Action → Memory → Memory → Option (List ℕ) → Option (List ℕ) → Type 0 → Reply → Type 0
HasTaken (takes ranges) m now told left untouched reply =
    IfSome told (λ bytes. (reply ≡ Answer (min (total ranges) (length bytes))) × (now ≡ with_ranges m ranges bytes) × (left ≡ Some (drop (total ranges) bytes)))
HasTaken action m now told left untouched reply = (action ≡ replied reply) × (now ≡ m) × untouched

-- a call that takes bytes was broken off: the bytes that it had taken are stored
abbrev pub HasBrokenOff : Action → Memory → Memory → Option (List ℕ) → Option (List ℕ) → Type 0
HasBrokenOff (takes ranges) m now told left = (count : ℕ) × (few : count ≤ total ranges) × Takes count (with_ranges m ranges) now told left
HasBrokenOff action m now told left = ⊥
