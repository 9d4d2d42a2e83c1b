-- What a call puts by its tests.
use Rattle.std.proofs.Common.{◌≡◌, ℕ, Bool, true, List, ◌++◌, take, Option, Some, None, IfSome, MatchBool, Ok, nat_eq, if◌then◌else◌, refl, sym, ap, subst, ◌∙◌}
use Rattle.emu_model.specs.Access.{Memory}
use Rattle.emu_model.specs.State.{Core}
use Rattle.emu_system.specs.declared.system_call.Errno.TheVariants.{EBADF}
use Rattle.emu_system.specs.declared.system_call.Range.{Range}
use Rattle.emu_system.specs.SystemCall.{Action, fails, puts, file_of, range_bytes, is_sink}
use Rattle.linux_calls.specs.declared.reply.Reply.{Reply}
use Rattle.linux_calls.specs.declared.reply.Reply.TheVariants.{Answer, Error}
use Rattle.emu_system.specs.Gained.{Gains}
use Rattle.emu_system.specs.GainedLaws.{put_first}
use Rattle.linux_calls.specs.Puts.{HasWritten, PutsTo}
use Rattle.linux_calls.specs.Replies.{replied}

-- a sink's file
pub of_sink : (c : Core) (file : ℕ) (a b : Action) → file ≡ file_of c → true ≡ is_sink file → a ≡ b → a ≡ (if is_sink (file_of c) then b else fails EBADF)
of_sink c file a b is sink same = same ∙ sym (ap (λ (t : Bool). if t then b else fails EBADF) (ap is_sink (sym is) ∙ sym sink))

-- a call that put nothing
module _ (m : Memory) (ho ho' : Option (List ℕ)) (same_o : Type 0) (he he' : Option (List ℕ)) (same_e : Type 0) where
  nothing : (reply : Reply) → same_o → same_e → HasWritten (replied reply) m ho ho' same_o he he' same_e (Ok reply)
  nothing (Answer v) o e = record { replied = refl; failed = tt; output = o; errors = e }
  nothing (Error x) o e = record { replied = refl; failed = tt; output = o; errors = e }

  pub written_nothing : (reply : Reply) (a : Action) → replied reply ≡ a → same_o → same_e → HasWritten a m ho ho' same_o he he' same_e (Ok reply)
  written_nothing reply a is o e = subst (λ (a : Action). HasWritten a m ho ho' same_o he he' same_e (Ok reply)) is (nothing reply o e)

pub gained_first : (held now : Option (List ℕ)) (bytes : List ℕ) → IfSome held (λ had. (n : ℕ) × (now ≡ Some (had ++ take n bytes))) → IfSome held (λ had. Gains true now had bytes)
gained_first None now bytes p = tt
gained_first (Some had) now bytes p = put_first now had bytes p

-- a sink that failed
pub put_broken : (file to : ℕ) (ranges : List Range) (m : Memory) (held now : Option (List ℕ)) (untouched : Type 0) → nat_eq to file ≡ true → IfSome held (λ had. (n : ℕ) × (now ≡ Some (had ++ take n (range_bytes m ranges)))) → PutsTo file (puts to ranges) m held now untouched true
put_broken file to ranges m held now untouched is p =
    subst (λ (b : Bool). MatchBool b (IfSome held (λ had. Gains true now had (range_bytes m ranges))) untouched) (sym is) (gained_first held now (range_bytes m ranges) p)
