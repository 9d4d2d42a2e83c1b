-- What sinks gained, and then gained more.
use Rattle.std.proofs.Common.{◌≡◌, ℕ, Bool, true, false, List, [], ◌++◌, take, drop, Option, Some, None, IfSome, Result, Ok, Err, refl, sym, ap, subst, ◌∙◌, append_assoc, append-nil, arith}
use Rattle.std.proofs.lemmas.List.{take-append-drop}
use Rattle.io_gate.specs.declared.streams.Failed.{Failed}
use Rattle.io_gate.specs.Streams.{Causes, HasCause, Rose}
use Rattle.io_gate.specs.Pieces.{PutsAll}
use Rattle.emu_model.specs.State.{IsPrefix}
use Rattle.emu_run.specs.RunLaws.{prefix_trans}
use Rattle.emu_system.specs.Gained.{Gains}
use Rattle.dbg_core.proofs.Obeying.{causes_as, causes_none, causes_later}
use Rattle.emu_machine.specs.Ends.{is_broken_off}
use Rattle.emu_machine.specs.declared.ends.RunEnd.{RunEnd}
use Rattle.emu_machine.specs.declared.ends.RunEnd.TheVariants as runs
use Rattle.dbg_back.specs.declared.ends.BackEnd.{BackEnd}
use Rattle.dbg_back.specs.declared.ends.BackEnd.TheVariants.{Done, WriteFault, ErrorsFault}
use Rattle.dbg_back.specs.Ends.{end_of_put, end_of_run, is_fault}
use Rattle.dbg_back.specs.Walks.{Gained}

-- ---- bytes behind bytes

all_gained : (b : Bool) (held : Option (List ℕ)) (had so_far more : List ℕ) → Gains b held (had ++ so_far) more → Gains b held had (so_far ++ more)
all_gained false held had so_far more g = g ∙ ap (λ (l : List ℕ). Some l) (append_assoc had so_far more)
all_gained true held had so_far more g = record {
  gained = so_far ++ g.gained;
  is = g.is ∙ ap (λ (l : List ℕ). Some l) (append_assoc had so_far g.gained);
  first = (g.first.0, ap (λ (l : List ℕ). so_far ++ l) g.first.1 ∙ sym (append_assoc so_far g.gained g.first.0));
}

pub gained_more : (b : Bool) (had held_old held_new : Option (List ℕ)) (before more : List ℕ) → Gained had false held_old before → IfSome held_old (λ h. Gains b held_new h more) → Gained had b held_new (before ++ more)
gained_more b None held_old held_new before more p q = tt
gained_more b (Some h) held_old held_new before more p q =
    all_gained b held_new h before more (subst (λ (x : Option (List ℕ)). IfSome x (λ y. Gains b held_new y more)) p q)

-- the first of some bytes are the first of more
pub gained_first : (had held : Option (List ℕ)) (some more : List ℕ) → IsPrefix some more → Gained had true held some → Gained had true held more
gained_first None held some more p g = tt
gained_first (Some h) held some more p g = record { gained = g.gained; is = g.is; first = prefix_trans g.gained some more g.first p }

pub gained_as : (had : Option (List ℕ)) (b : Bool) (held : Option (List ℕ)) (some more : List ℕ) → some ≡ more → Gained had b held some → Gained had b held more
gained_as had b held some more is g = subst (λ (l : List ℕ). Gained had b held l) is g

pub gained_when : (had : Option (List ℕ)) (b c : Bool) (held : Option (List ℕ)) (bytes : List ℕ) → b ≡ c → Gained had b held bytes → Gained had c held bytes
gained_when had b c held bytes is g = subst (λ (x : Bool). Gained had x held bytes) is g

-- nothing yet
pub gained_none : (had : Option (List ℕ)) → Gained had false had []
gained_none None = tt
gained_none (Some h) = ap (λ (l : List ℕ). Some l) (sym (append-nil h))

-- ---- a line

line_gained : (hp hq : Option (List ℕ)) (text : List ℕ) (put : Result (Unit {0}) Failed) → PutsAll hp hq text put → IfSome hp (λ h. Gains (is_fault (end_of_put put)) hq h text)
line_gained None hq text put puts = tt
line_gained (Some h) hq text (Ok done) puts = puts
line_gained (Some h) hq text (Err failed) puts = record { gained = take puts.0 text; is = puts.1; first = (drop puts.0 text, sym (take-append-drop puts.0 text)) }

pub gained_put : (had hp hq : Option (List ℕ)) (before text : List ℕ) (put : Result (Unit {0}) Failed) → Gained had false hp before → PutsAll hp hq text put → Gained had (is_fault (end_of_put put)) hq (before ++ text)
gained_put had hp hq before text put g puts = gained_more (is_fault (end_of_put put)) had hp hq before text g (line_gained hp hq text put puts)

-- ---- the answers

pub not_done : (end : BackEnd) → (end ≡ Done → ⊥) → is_fault end ≡ true
not_done Done other = absurd (other refl)
not_done WriteFault other = refl
not_done ErrorsFault other = refl

pub fault_of_run : (end : RunEnd) → (end ≡ runs.ReadFault → ⊥) → is_broken_off end ≡ is_fault (end_of_run end)
fault_of_run (runs.Exit code) other = refl
fault_of_run (runs.Trap trap) other = refl
fault_of_run runs.Spent other = refl
fault_of_run runs.ReadFault other = absurd (other refl)
fault_of_run runs.WriteFault other = refl
fault_of_run runs.ErrorsFault other = refl

-- no fault is none of the two
pub no_fault : (end x : BackEnd) → is_fault end ≡ false → is_fault x ≡ true → end ≡ x → ⊥
no_fault end x fine broken is = let both : true ≡ false = sym broken ∙ ap is_fault (sym is) ∙ fine in cc

-- what never fails never answers so
pub no_rise : Rose 0 0 → ⊥
no_rise h = omega arith

pub never_rose : (P : Type 0) → Causes P 0 0 → P → ⊥
never_rose P cause p = no_rise (cause.rose p)

-- sinks that never fail leave no fault
pub dropped_fine : (end : BackEnd) → Causes (end ≡ WriteFault) 0 0 → Causes (end ≡ ErrorsFault) 0 0 → is_fault end ≡ false
dropped_fine Done write errs = refl
dropped_fine WriteFault write errs = absurd (never_rose (WriteFault ≡ WriteFault) write refl)
dropped_fine ErrorsFault write errs = absurd (never_rose (ErrorsFault ≡ ErrorsFault) errs refl)

-- the answer of a run by that of the part of a session
abbrev pub run_of : BackEnd → RunEnd → RunEnd
run_of Done end = end
run_of WriteFault end = runs.WriteFault
run_of ErrorsFault end = runs.ErrorsFault

back_of_run : (end : RunEnd) → run_of (end_of_run end) end ≡ end
back_of_run (runs.Exit code) = refl
back_of_run (runs.Trap trap) = refl
back_of_run runs.Spent = refl
back_of_run runs.ReadFault = refl
back_of_run runs.WriteFault = refl
back_of_run runs.ErrorsFault = refl

pub last_run : (end : RunEnd) (x : BackEnd) → end_of_run end ≡ x → end ≡ run_of x end
last_run end x is = sym (back_of_run end) ∙ ap (λ (y : BackEnd). run_of y end) is

-- ---- the causes

causes_put : (put : Result (Unit {0}) Failed) (a b : ℕ) → HasCause a b put → Causes (end_of_put put ≡ WriteFault) a b
causes_put (Ok done) a b cause = record { later = cause.later; rose = λ (h : Done ≡ WriteFault). cc; kept = λ _. cause.kept }
causes_put (Err failed) a b cause = record { later = cause.later; rose = λ _. cause.failed; kept = λ none. absurd (none refl) }

put_errs_none : (put : Result (Unit {0}) Failed) → end_of_put put ≡ ErrorsFault → ⊥
put_errs_none (Ok done) = λ (h : Done ≡ ErrorsFault). cc
put_errs_none (Err failed) = λ (h : WriteFault ≡ ErrorsFault). cc

-- behind a line, where no sink failed before it
module _ (put : Result (Unit {0}) Failed) (result : BackEnd) (is : result ≡ end_of_put put) where
  pub put_write : (a b c : ℕ) → b ≡ a → HasCause b c put → Causes (result ≡ WriteFault) a c
  put_write a b c stayed cause =
      causes_later (result ≡ WriteFault) a b c stayed (causes_as (end_of_put put ≡ WriteFault) (result ≡ WriteFault) b c (λ h. is ∙ h) (λ h. sym is ∙ h) (causes_put put b c cause))

  pub no_errs : result ≡ ErrorsFault → ⊥
  no_errs h = put_errs_none put (sym is ∙ h)

  pub put_errs : (a b : ℕ) → b ≡ a → Causes (result ≡ ErrorsFault) a b
  put_errs a b stayed = causes_none (result ≡ ErrorsFault) a b stayed no_errs
