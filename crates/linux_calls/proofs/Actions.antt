-- What a call comes to by its tests, and what it then takes.
use Rattle.std.proofs.Common.{◌≡◌, ℕ, Bool, List, [], length, take, drop, min, Option, Some, None, IfSome, Ok, nat_eq, if◌then◌else◌, eq-eqb, refl, sym, ap, subst, ◌∙◌, append-nil}
use Rattle.std.proofs.lemmas.List.{drop_min, take_min}
use Rattle.emu_model.specs.declared.program_break.Break.{Break}
use Rattle.emu_model.specs.Access.{Memory}
use Rattle.emu_model.specs.State.{Core}
use Rattle.emu_system.specs.declared.system_call.Errno.TheVariants.{EBADF}
use Rattle.emu_system.specs.declared.system_call.Range.{Range}
use Rattle.emu_system.specs.SystemCall.{Action, fails, takes, file_of, with_ranges, total}
use Rattle.linux_calls.specs.declared.reply.Reply.{Reply}
use Rattle.linux_calls.specs.declared.reply.Reply.TheVariants.{Answer, Error}
use Rattle.linux_calls.specs.Replies.{HasDone, HasTaken, replied}
use Rattle.linux_calls.specs.Taken.{Took}
use Rattle.linux_calls.proofs.Filled.{filled_split}

-- what holds of an action and a memory holds of the same
pub as_action : (P : Action → Memory → Type 0) (a b : Action) (m n : Memory) → a ≡ b → m ≡ n → P a m → P b n
as_action P a b m n e f p = subst (P b) f (subst (λ (a : Action). P a m) e p)

-- the input's file
pub of_input : (c : Core) (file : ℕ) (a b : Action) → file ≡ file_of c → file ≡ 0 → a ≡ b → a ≡ (if nat_eq (file_of c) 0 then b else fails EBADF)
of_input c file a b is zero same = same ∙ sym (ap (λ (t : Bool). if t then b else fails EBADF) (eq-eqb (file_of c) 0 (sym is ∙ zero)))

-- a call that moved nothing
pub taken_nothing : (reply : Reply) (a : Action) (m now : Memory) (told left : Option (List ℕ)) (untouched : Type 0) → replied reply ≡ a → now ≡ m → untouched → HasTaken a m now told left untouched reply
taken_nothing (Answer v) a m now told left untouched is same same_stream = subst (λ (a : Action). HasTaken a m now told left untouched (Answer v)) is (refl, same, same_stream)
taken_nothing (Error e) a m now told left untouched is same same_stream = subst (λ (a : Action). HasTaken a m now told left untouched (Error e)) is (refl, same, same_stream)

-- no more is stored than there is room for
filled_all : (rs : List Range) (m : Memory) (bytes : List ℕ) → with_ranges m rs (take (total rs) bytes) ≡ with_ranges m rs bytes
filled_all rs m bytes = sym (ap (λ rs. with_ranges m rs bytes) (sym (append-nil rs)) ∙ filled_split rs [] m bytes)

pub taken_whole : {E : Type 0} (rs : List Range) (m now : Memory) (n : ℕ) (told left : Option (List ℕ)) (untouched : Type 0) → Took {E = E} (total rs) (with_ranges m rs) now told left (Ok n) → IfSome told (λ bytes. n ≡ min (total rs) (length bytes)) → HasTaken (takes rs) m now told left untouched (Answer n)
taken_whole rs m now n None left untouched t all = tt
taken_whole rs m now n (Some bytes) left untouched t all =
    let count : t.count ≡ min (total rs) (length bytes) = sym t.answer ∙ all in (
      ap Answer all,
      t.takes.memory
          ∙ ap (λ (l : List ℕ). with_ranges m rs l) (t.takes.first.0 ∙ ap (λ k. take k bytes) count ∙ take_min (total rs) bytes)
          ∙ filled_all rs m bytes,
      t.takes.first.1 ∙ ap (λ k. Some (drop k bytes)) count ∙ ap Some (drop_min (total rs) bytes),
    )

-- a call that changed nothing
pub done_nothing : (reply : Reply) (a : Action) (m : Memory) (brk : Break) → a ≡ replied reply → HasDone a m brk m brk reply
done_nothing (Answer v) a m brk is = subst (λ (a : Action). HasDone a m brk m brk (Answer v)) (sym is) (refl, refl, refl)
done_nothing (Error e) a m brk is = subst (λ (a : Action). HasDone a m brk m brk (Error e)) (sym is) (refl, refl, refl)
