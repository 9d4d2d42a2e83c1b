-- The causes of endings: which fault of a stream an ending has behind it, and which endings it can't be.
use Rattle.std.proofs.Common.{◌≡◌, ℕ, List, Option, true, false, Result, Ok, Err, refl, sym, ap, subst, ◌∙◌, arith}
use Rattle.io_gate.specs.Streams.{HasCause, Causes}
use Rattle.command_lines.specs.Outcome.{Files}
use Rattle.command_lines.specs.declared.ending.Ending.{Ending}
use Rattle.command_lines.specs.declared.ending.Ending.TheVariants.{Done, FileFault, ReadFault, WriteFault, ErrorsFault, OutOfMemory}
use Rattle.emu_machine.specs.declared.ends.RunEnd.{RunEnd}
use Rattle.emu_machine.specs.declared.ends.RunEnd.TheVariants as runs
use Rattle.commands.specs.Endings.{done_by, ended_by, ending_by}
use Rattle.commands.specs.Promises.{is_failure, is_silent}
use Rattle.commands.specs.Reading.{EndsUnread}

-- ---- causes

-- a stream that nothing was asked of
pub no_cause : {P : Type 0} (n : ℕ) → (P → ⊥) → Causes P n n
no_cause n never = record { later = omega arith; rose = λ p. absurd (never p); kept = λ _. refl }

-- P and Q are the same fault
pub cause_as : {P Q : Type 0} (a b : ℕ) → (Q → P) → (P → Q) → Causes P a b → Causes Q a b
cause_as a b from to has = record { later = has.later; rose = λ q. has.rose (from q); kept = λ none. has.kept (λ p. none (to p)) }

-- neither P nor Q
pub cause_of_none : {P Q : Type 0} (a b : ℕ) → (P → ⊥) → (Q → ⊥) → Causes P a b → Causes Q a b
cause_of_none a b no_p no_q has = cause_as a b (λ q. absurd (no_q q)) (λ p. absurd (no_p p)) has

-- behind a step that did without the fault
pub cause_behind : {P Q : Type 0} (a b c : ℕ) → (P → ⊥) → Causes P a b → Causes Q b c → Causes Q a c
cause_behind {Q = Q} a b c no_p first has = subst (λ (n : ℕ). Causes Q n c) (first.kept no_p) has

-- ---- behind a line on the errors, and behind the whole output

-- the ending is the command's own, or a fault of the errors
pub ended_other : {T E : Type 0} (put : Result T E) (ending result x : Ending) → result ≡ ended_by put ending → (ErrorsFault ≡ x → ⊥) → (ending ≡ x → ⊥) → result ≡ x → ⊥
ended_other (Ok done) ending result x by fault own e = own (sym by ∙ e)
ended_other (Err failed) ending result x by fault own e = fault (sym by ∙ e)

pub ended_cause : {T E : Type 0} (a b : ℕ) (put : Result T E) (ending result : Ending) → result ≡ ended_by put ending → (ending ≡ ErrorsFault → ⊥) → HasCause a b put → Causes (result ≡ ErrorsFault) a b
ended_cause a b (Ok done) ending result by own has = record { later = has.later; rose = λ e. absurd (own (sym by ∙ e)); kept = λ _. has.kept }
ended_cause a b (Err failed) ending result by own has = record { later = has.later; rose = λ _. has.failed; kept = λ none. absurd (none by) }

-- an ending that puts a line isn't silent
pub ended_loud : {T E : Type 0} (put : Result T E) (ending result : Ending) → result ≡ ended_by put ending → is_silent ending ≡ false → is_silent result ≡ true → ⊥
ended_loud (Ok done) ending result by loud silent = let t : false ≡ true = sym loud ∙ sym (ap is_silent by) ∙ silent in cc
ended_loud (Err failed) ending result by loud silent = let t : false ≡ true = sym (ap is_silent by) ∙ silent in cc

-- the whole output was put, or there is a fault of the output
pub done_other : {T E : Type 0} (put : Result T E) (result x : Ending) → result ≡ done_by put → (WriteFault ≡ x → ⊥) → (Done ≡ x → ⊥) → result ≡ x → ⊥
done_other (Ok done) result x by fault own e = own (sym by ∙ e)
done_other (Err failed) result x by fault own e = fault (sym by ∙ e)

pub done_cause : {T E : Type 0} (a b : ℕ) (put : Result T E) (result : Ending) → result ≡ done_by put → HasCause a b put → Causes (result ≡ WriteFault) a b
done_cause a b (Ok done) result by has = record { later = has.later; rose = λ e. absurd (let t : Done ≡ WriteFault = sym by ∙ e in cc); kept = λ _. has.kept }
done_cause a b (Err failed) result by has = record { later = has.later; rose = λ _. has.failed; kept = λ none. absurd (none by) }

-- ---- of a run

pub run_reads : (end : RunEnd) (pc : ℕ) → ending_by end pc ≡ ReadFault → end ≡ runs.ReadFault
run_reads runs.ReadFault pc e = refl
run_reads end pc e = cc

pub run_writes : (end : RunEnd) (pc : ℕ) → ending_by end pc ≡ WriteFault → end ≡ runs.WriteFault
run_writes runs.WriteFault pc e = refl
run_writes end pc e = cc

pub run_fails : (end : RunEnd) (pc : ℕ) → ending_by end pc ≡ ErrorsFault → end ≡ runs.ErrorsFault
run_fails runs.ErrorsFault pc e = refl
run_fails end pc e = cc

pub run_no_file : (end : RunEnd) (pc : ℕ) → ending_by end pc ≡ FileFault → ⊥
run_no_file runs.Spent pc e = cc
run_no_file end pc e = cc

pub run_no_memory : (end : RunEnd) (pc : ℕ) → ending_by end pc ≡ OutOfMemory → ⊥
run_no_memory runs.Spent pc e = cc
run_no_memory end pc e = cc

-- a fault of a stream is a failure
pub not_failed : (ending x : Ending) → is_failure ending ≡ false → is_failure x ≡ true → ending ≡ x → ⊥
not_failed ending x sound fault e = let t : false ≡ true = sym sound ∙ ap is_failure e ∙ fault in cc

-- ---- of a file that isn't read

-- the endings without a file's bytes aren't faults of the input or of the output
pub unread_no_read : (told : Option Files) (name : List ℕ) (ending : Ending) → EndsUnread told name ending → ending ≡ ReadFault → ⊥
unread_no_read told name ending unread e = subst (λ (x : Ending). EndsUnread told name x) e unread

pub unread_no_write : (told : Option Files) (name : List ℕ) (ending : Ending) → EndsUnread told name ending → ending ≡ WriteFault → ⊥
unread_no_write told name ending unread e = subst (λ (x : Ending). EndsUnread told name x) e unread

same_ending : {T : Type 0} (r : Result T Ending) (a b : Ending) → r ≡ Err a → r ≡ Err b → a ≡ b
same_ending r a b p q = cc

-- its fault of the errors is the ending's
pub unread_cause : {T : Type 0} (a b : ℕ) (r : Result T Ending) (ending x : Ending) → r ≡ Err ending → Causes (r ≡ Err x) a b → Causes (ending ≡ x) a b
unread_cause a b r ending x is has = cause_as a b (λ e. is ∙ ap (λ (y : Ending). Err y) e) (λ e. same_ending r ending x is e) has

-- and the other way round
pub err_cause : {T : Type 0} (a b : ℕ) (r : Result T Ending) (ending x : Ending) → r ≡ Err ending → Causes (ending ≡ x) a b → Causes (r ≡ Err x) a b
err_cause a b r ending x is has = cause_as a b (λ e. same_ending r ending x is e) (λ e. is ∙ ap (λ (y : Ending). Err y) e) has
