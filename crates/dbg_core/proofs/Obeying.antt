-- What the clauses of runs, steps and lines say of the commands of a session.
use Rattle.std.proofs.Common.{◌≡◌, ◌≤◌, ℕ, Bool, true, false, List, take, drop, Option, Some, None, is_none, is_some, ◌||◌, ◌-◌, Result, Ok, Err, IfSome, refl, sym, ap, subst, ◌∙◌, arith}
use Rattle.std.proofs.lemmas.List.{take-append-drop}
use Rattle.io_gate.specs.declared.streams.Failed.{Failed}
use Rattle.io_gate.specs.Streams.{Causes, HasCause}
use Rattle.io_gate.specs.Pieces.{PutsAll}
use Rattle.emu_model.specs.declared.trap.Ended.{Ended}
use Rattle.emu_model.specs.declared.trap.Ended.TheVariants.{Exit, Trap as Trapped}
use Rattle.emu_model.specs.State.{Parts, State}
use Rattle.emu_system.specs.Start.{with_input}
use Rattle.emu_run.specs.Run.{run}
use Rattle.emu_run.specs.RunLaws.{run_spent, until_end_over}
use Rattle.emu_system.specs.Gained.{Gains}
use Rattle.linux_calls.specs.Names.{NamesRead}
use Rattle.emu_machine.specs.Ends.{IsKept, is_broken_off, is_undone, is_unput, step_end}
use Rattle.emu_machine.specs.Machines.{MachineState, MakesRead, MakesWrite, has_ended}
use Rattle.emu_machine.specs.declared.ends.RunEnd.{RunEnd}
use Rattle.emu_machine.specs.declared.ends.RunEnd.TheVariants as runs
use Rattle.emu_machine.specs.declared.ends.StepEnd.{StepEnd}
use Rattle.emu_machine.specs.declared.ends.StepEnd.TheVariants as steps
use Rattle.dbg_core.specs.declared.ends.SessionEnd.{SessionEnd}
use Rattle.dbg_core.specs.declared.ends.SessionEnd.TheVariants.{Done, ReadFault, WriteFault, ErrorsFault}
use Rattle.dbg_core.specs.Ends.{Obeys, is_fault, end_of_run, end_of_step, end_of_put}
use Rattle.emu_machine.proofs.Composed.{Moving, Comes, comes_by, comes_cut, comes_then, comes_same, comes_still, comes_when, gains_none}
use Rattle.emu_machine.proofs.Runs.{goes}
use Rattle.dbg_core.proofs.Sessions.{prints, prints_blind, prints_moving}

-- ---- the clauses, whether the input tells its bytes or not

pub comes_of : (f : State → State) (p q : Parts) (told left hp hq ep eq : Option (List ℕ)) (end : SessionEnd) → Obeys f p q told left hp hq ep eq end → Comes f p q told left hp hq ep eq (is_fault end)
comes_of f p q told left hp hq ep eq end o = comes_by f p q told left hp hq ep eq (is_fault end) (is_fault end) refl o.state o.input o.output o.errors

pub obeys_of : (f : State → State) (p q : Parts) (told left hp hq ep eq : Option (List ℕ)) (end : SessionEnd) → Comes f p q told left hp hq ep eq (is_fault end) → Obeys f p q told left hp hq ep eq end
obeys_of f p q None left hp hq ep eq end c = record { state = tt; input = tt; output = tt; errors = tt }
obeys_of f p q (Some bytes) left hp hq ep eq end c = record { state = c.state; input = c.input; output = c.output; errors = c.errors }

-- ---- a line

gains_all : (hp hq : Option (List ℕ)) (text : List ℕ) (done : Unit {0}) → PutsAll {E = Failed} hp hq text (Ok done) → IfSome hp (λ had. Gains false hq had text)
gains_all None hq text done puts = tt
gains_all (Some had) hq text done puts = puts

gains_some : (hp hq : Option (List ℕ)) (text : List ℕ) (failed : Failed) → PutsAll {T = Unit {0}} hp hq text (Err failed) → IfSome hp (λ had. Gains true hq had text)
gains_some None hq text failed puts = tt
gains_some (Some had) hq text failed puts = record { gained = take puts.0 text; is = puts.1; first = (drop puts.0 text, sym (take-append-drop puts.0 text)) }

pub comes_put : (text : Parts → List ℕ) (p : Parts) (told hp hq errs : Option (List ℕ)) (put : Result (Unit {0}) Failed) → PutsAll hp hq (text p) put
    → Comes (prints text) p p told told hp hq errs errs (is_fault (end_of_put put))
comes_put text p None hp hq errs put puts = tt
comes_put text p (Some bytes) hp hq errs (Ok done) puts = record {
  state = λ _. (refl, refl);
  input = λ (h : false ≡ true). cc;
  output = gains_all hp hq (text p) done puts;
  errors = gains_none false errs;
}
comes_put text p (Some bytes) hp hq errs (Err failed) puts = record {
  state = λ (h : true ≡ false). cc;
  input = λ _. record { taken = 0; most = omega arith; is = refl };
  output = gains_some hp hq (text p) failed puts;
  errors = gains_none true errs;
}

-- ---- the answers

pub not_done : (end : SessionEnd) → (end ≡ Done → ⊥) → is_fault end ≡ true
not_done Done other = absurd (other refl)
not_done ReadFault other = refl
not_done WriteFault other = refl
not_done ErrorsFault other = refl

pub fault_of_run : (end : RunEnd) → is_broken_off end ≡ is_fault (end_of_run end)
fault_of_run (runs.Exit code) = refl
fault_of_run (runs.Trap trap) = refl
fault_of_run runs.Spent = refl
fault_of_run runs.ReadFault = refl
fault_of_run runs.WriteFault = refl
fault_of_run runs.ErrorsFault = refl

pub fault_of_step : (end : StepEnd) → is_undone end ≡ is_fault (end_of_step end)
fault_of_step steps.Going = refl
fault_of_step (steps.Exit code) = refl
fault_of_step (steps.Trap trap) = refl
fault_of_step steps.ReadFault = refl
fault_of_step steps.WriteFault = refl
fault_of_step steps.ErrorsFault = refl

-- ---- the causes

-- a cause by another name
pub causes_as : (P Q : Type 0) (a b : ℕ) → (P → Q) → (Q → P) → Causes P a b → Causes Q a b
causes_as P Q a b to from cause = record { later = cause.later; rose = λ q. cause.rose (from q); kept = λ none. cause.kept (λ p. none (to p)) }

-- no cause, where the count stayed
pub causes_none : (P : Type 0) (a b : ℕ) → b ≡ a → (P → ⊥) → Causes P a b
causes_none P a b stayed none = record { later = omega (arith, stayed); rose = λ p. absurd (none p); kept = λ _. stayed }

-- a cause in what follows, where the count stayed before it
pub causes_later : (P : Type 0) (a b c : ℕ) → b ≡ a → Causes P b c → Causes P a c
causes_later P a b c stayed cause = subst (λ (n : ℕ). Causes P n c) stayed cause

pub causes_put : (put : Result (Unit {0}) Failed) (a b : ℕ) → HasCause a b put → Causes (end_of_put put ≡ WriteFault) a b
causes_put (Ok done) a b cause = record { later = cause.later; rose = λ (h : Done ≡ WriteFault). cc; kept = λ _. cause.kept }
causes_put (Err failed) a b cause = record { later = cause.later; rose = λ _. cause.failed; kept = λ none. absurd (none refl) }

pub put_reads_none : (put : Result (Unit {0}) Failed) → end_of_put put ≡ ReadFault → ⊥
put_reads_none (Ok done) = λ (h : Done ≡ ReadFault). cc
put_reads_none (Err failed) = λ (h : WriteFault ≡ ReadFault). cc

pub put_errs_none : (put : Result (Unit {0}) Failed) → end_of_put put ≡ ErrorsFault → ⊥
put_errs_none (Ok done) = λ (h : Done ≡ ErrorsFault). cc
put_errs_none (Err failed) = λ (h : WriteFault ≡ ErrorsFault). cc

-- the answer of a run, by that of the part of a session
abbrev pub run_of : SessionEnd → RunEnd → RunEnd
run_of Done end = end
run_of ReadFault end = runs.ReadFault
run_of WriteFault end = runs.WriteFault
run_of ErrorsFault end = runs.ErrorsFault

back_of_run : (end : RunEnd) → run_of (end_of_run end) end ≡ end
back_of_run (runs.Exit code) = refl
back_of_run (runs.Trap trap) = refl
back_of_run runs.Spent = refl
back_of_run runs.ReadFault = refl
back_of_run runs.WriteFault = refl
back_of_run runs.ErrorsFault = refl

pub last_run : (end : RunEnd) (x : SessionEnd) → end_of_run end ≡ x → end ≡ run_of x end
last_run end x is = sym (back_of_run end) ∙ ap (λ (y : SessionEnd). run_of y end) is

-- and of a step
abbrev pub step_of : SessionEnd → StepEnd → StepEnd
step_of Done end = end
step_of ReadFault end = steps.ReadFault
step_of WriteFault end = steps.WriteFault
step_of ErrorsFault end = steps.ErrorsFault

back_of_step : (end : StepEnd) → step_of (end_of_step end) end ≡ end
back_of_step steps.Going = refl
back_of_step (steps.Exit code) = refl
back_of_step (steps.Trap trap) = refl
back_of_step steps.ReadFault = refl
back_of_step steps.WriteFault = refl
back_of_step steps.ErrorsFault = refl

pub last_step : (end : StepEnd) (x : SessionEnd) → end_of_step end ≡ x → end ≡ step_of x end
last_step end x is = sym (back_of_step end) ∙ ap (λ (y : SessionEnd). step_of y end) is

-- ---- parts of a session, one after the other

module _ (p q : Parts) (told left hp hq ep eq : Option (List ℕ)) where
  pub obeys_as : (f : State → State) (end result : SessionEnd) → result ≡ end → Obeys f p q told left hp hq ep eq end → Obeys f p q told left hp hq ep eq result
  obeys_as f end result is o = subst (λ (e : SessionEnd). Obeys f p q told left hp hq ep eq e) (sym is) o

  pub obeys_same : (f g : State → State) (end : SessionEnd) → ((input : List ℕ) → f (with_input p input) ≡ g (with_input p input)) → Obeys f p q told left hp hq ep eq end → Obeys g p q told left hp hq ep eq end
  obeys_same f g end same o = obeys_of g p q told left hp hq ep eq end (comes_same f g p q told left hp hq ep eq (is_fault end) same (comes_of f p q told left hp hq ep eq end o))

  -- broken off in h
  pub obeys_cut : (h r : State → State) (end : SessionEnd) → Moving r → (end ≡ Done → ⊥) → Obeys h p q told left hp hq ep eq end → Obeys (λ st. r (h st)) p q told left hp hq ep eq end
  obeys_cut h r end moving other o =
      let b : is_fault end ≡ true = not_done end other in
      obeys_of (λ st. r (h st)) p q told left hp hq ep eq end (comes_when (λ st. r (h st)) p q told left hp hq ep eq true (is_fault end) (sym b)
      (comes_cut h (λ st. r (h st)) p q told left hp hq ep eq (λ input. moving (h (with_input p input))) (comes_when h p q told left hp hq ep eq (is_fault end) true b (comes_of h p q told left hp hq ep eq end o))))

  -- a line behind h
  pub obeys_line : (h : State → State) (text : Parts → List ℕ) (hu : Option (List ℕ)) (end : SessionEnd) (put : Result (Unit {0}) Failed) → Moving h → end ≡ Done → Obeys h p q told left hp hq ep eq end
      → PutsAll hq hu (text q) put → Obeys (λ st. prints text (h st)) p q told left hp hu ep eq (end_of_put put)
  obeys_line h text hu end put moving done o puts =
      obeys_of (λ st. prints text (h st)) p q told left hp hu ep eq (end_of_put put)
      (comes_then h (prints text) p q q told left left hp hq hu ep eq eq (is_fault (end_of_put put)) (prints_blind text) moving (prints_moving text)
      (comes_when h p q told left hp hq ep eq (is_fault end) false (ap is_fault done) (comes_of h p q told left hp hq ep eq end o))
      (comes_put text q left hq hu eq put puts))

-- a line alone
pub obeys_put : (text : Parts → List ℕ) (p : Parts) (told hp hq errs : Option (List ℕ)) (put : Result (Unit {0}) Failed) → PutsAll hp hq (text p) put → Obeys (prints text) p p told told hp hq errs errs (end_of_put put)
obeys_put text p told hp hq errs put puts = obeys_of (prints text) p p told told hp hq errs errs (end_of_put put) (comes_put text p told hp hq errs put puts)

-- nothing was done, where that is what f makes
pub obeys_still : (f : State → State) (p : Parts) (told held errs : Option (List ℕ)) → ((input : List ℕ) → f (with_input p input) ≡ with_input p input) → Obeys f p p told told held held errs errs Done
obeys_still f p told held errs same =
    obeys_of f p p told told held held errs errs Done (comes_same (λ st. st) f p p told told held held errs errs false (λ input. sym (same input)) (comes_still p told held errs))

-- a run of a machine that has ended, or has counted as many steps
pub run_over : (p : Parts) (target : ℕ) → is_none p.ended ≡ false → (input : List ℕ) → run (with_input p input) target ≡ with_input p input
run_over p target over input = until_end_over (with_input p input) (target - p.steps) over

pub run_counted : (p : Parts) (target : ℕ) → target ≤ p.steps → (input : List ℕ) → run (with_input p input) target ≡ with_input p input
run_counted p target counted input = run_spent (with_input p input) target counted

over_at : (e : Option Ended) (failed : Bool) → failed ≡ false → (is_some e || failed) ≡ true → is_none e ≡ false
over_at None failed fine ended = let h : true ≡ false = sym ended ∙ fine in cc
over_at (Some x) failed fine ended = refl

-- the machine has ended, where no stream failed
pub over_by : (m : MachineState) → m.failed ≡ false → has_ended m ≡ true → is_none m.parts.ended ≡ false
over_by m fine ended = over_at m.parts.ended m.failed fine ended

pub going_by : (m : MachineState) → has_ended m ≡ false → is_none m.parts.ended ≡ true
going_by m going = goes m.parts.ended m.failed going

-- ---- the calls that faults name

-- a step that wasn't done left all but the memory
pub read_named : (end : StepEnd) (old new : Parts) (left_old left_new : Option (List ℕ)) → end_of_step end ≡ ReadFault → (end ≡ steps.ReadFault → MakesRead old) → (is_undone end ≡ true → IsKept old new left_old left_new) → NamesRead new.core
read_named end old new left_old left_new is named kept =
    let e = last_step end ReadFault is in
    subst (λ (m : Parts). NamesRead m.core) (sym (kept (ap is_undone e)).is) (named e).names

pub errors_named : (end : StepEnd) (old new : Parts) → end_of_step end ≡ ErrorsFault → (end ≡ steps.ErrorsFault → MakesWrite old 2) → (is_unput end ≡ true → new ≡ old) → MakesWrite new 2
errors_named end old new is named kept =
    let e = last_step end ErrorsFault is in
    subst (λ (m : Parts). MakesWrite m 2) (sym (kept (ap is_unput e))) (named e)

-- ---- the answer behind a line, where no stream failed before it

module _ (put : Result (Unit {0}) Failed) (result : SessionEnd) (is : result ≡ end_of_put put) where
  pub put_read : (a b : ℕ) → b ≡ a → Causes (result ≡ ReadFault) a b
  put_read a b stayed = causes_none (result ≡ ReadFault) a b stayed (λ h. put_reads_none put (sym is ∙ h))

  pub put_errs : (a b : ℕ) → b ≡ a → Causes (result ≡ ErrorsFault) a b
  put_errs a b stayed = causes_none (result ≡ ErrorsFault) a b stayed (λ h. put_errs_none put (sym is ∙ h))

  pub put_write : (a b c : ℕ) → b ≡ a → HasCause b c put → Causes (result ≡ WriteFault) a c
  put_write a b c stayed cause =
      causes_later (result ≡ WriteFault) a b c stayed (causes_as (end_of_put put ≡ WriteFault) (result ≡ WriteFault) b c (λ h. is ∙ h) (λ h. sym is ∙ h) (causes_put put b c cause))

  pub no_read : (X : Type 0) → result ≡ ReadFault → X
  no_read X h = absurd (put_reads_none put (sym is ∙ h))

  pub no_errs : (X : Type 0) → result ≡ ErrorsFault → X
  no_errs X h = absurd (put_errs_none put (sym is ∙ h))

-- ---- a step by its answer

pub still_going : (e : Option Ended) (r : StepEnd) → r ≡ step_end e → r ≡ steps.Going → is_none e ≡ true
still_going None r end going = refl
still_going (Some (Exit code)) r end going = let h : steps.Exit code ≡ steps.Going = sym end ∙ going in cc
still_going (Some (Trapped trap)) r end going = let h : steps.Trap trap ≡ steps.Going = sym end ∙ going in cc

not_ended_at : (e : Option Ended) (failed : Bool) → is_none e ≡ true → failed ≡ false → (is_some e || failed) ≡ false
not_ended_at None failed going fine = fine
not_ended_at (Some x) failed going fine = cc

-- a machine that goes on hasn't ended
pub not_ended : (m : MachineState) → is_none m.parts.ended ≡ true → m.failed ≡ false → has_ended m ≡ false
not_ended m going fine = not_ended_at m.parts.ended m.failed going fine
