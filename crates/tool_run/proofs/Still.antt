-- Endings before anything was run, and failures: nothing is told of a stop.
use Rattle.std.proofs.Common.{◌≡◌, ℕ, Bool, true, false, List, Option, Some, None, Result, Ok, Err, IfErr, IfOk}
use Rattle.std.proofs.Common.{IfSome, refl, sym, ap, ◌∙◌, arith}
use Rattle.command_lines.specs.Outcome.{Files, ending_of, ending_of_world}
use Rattle.command_lines.specs.declared.ending.Ending.{Ending}
use Rattle.command_lines.specs.declared.ending.Ending.TheVariants.{Exit, Trap, Spent, Stuck, ReadFault, WriteFault}
use Rattle.command_lines.specs.declared.ending.Ending.TheVariants.{ErrorsFault, OutOfMemory}
use Rattle.emu_model.specs.State.{Parts}
use Rattle.emu_model.specs.declared.trap.Ended.{Ended}
use Rattle.emu_model.specs.declared.trap.Ended.TheVariants.{Exit as Exited, Trap as Trapped}
use Rattle.emu_run.specs.declared.thread.WorldEnding.{WorldEnding}
use Rattle.emu_run.specs.declared.thread.WorldEnding.TheVariants as stops
use Rattle.commands.specs.Endings.{ended_by}
use Rattle.commands.specs.Promises.{is_failure, settled_ending}
use Rattle.commands.proofs.Meetings.{told}
use Rattle.commands.proofs.NamedFiles.{told_so}
use Rattle.tool_run.specs.Caused.{Faults, IsCaused}
use Rattle.tool_run.specs.Still.{WithoutReport, is_still, is_unreported}
use Rattle.tool_run.specs.Stops.{HasStopped}
use Rattle.tool_run.specs.Tells.{IsSilentExit}

still_not : (ending x : Ending) → is_still ending ≡ true → is_still x ≡ false → ending ≡ x → ⊥
still_not ending x still other e = let t : true ≡ false = sym still ∙ ap is_still e ∙ other in cc

still_settled : (ending : Ending) → is_still ending ≡ true → settled_ending ending ≡ None → ⊥
still_settled (Exit code) still stop = cc
still_settled (Trap t pc) still stop = cc
still_settled Spent still stop = cc
still_settled Stuck still stop = cc
still_settled ending still stop = cc

pub failed_no_stop : (ending : Ending) → is_failure ending ≡ true → HasStopped ending → ⊥
failed_no_stop (Exit code) failed stop = cc
failed_no_stop (Trap t pc) failed stop = cc
failed_no_stop Spent failed stop = cc
failed_no_stop Stuck failed stop = cc
failed_no_stop ending failed stop = cc

pub stop_fine : (ending : Ending) → HasStopped ending → is_failure ending ≡ false
stop_fine (Exit code) stop = refl
stop_fine (Trap t pc) stop = refl
stop_fine Spent stop = refl
stop_fine Stuck stop = refl
stop_fine ending stop = cc

pub still_exit : (ending result : Ending) (said : List ℕ) → is_still ending ≡ true → result ≡ ending → IsSilentExit
    result said
still_exit ending result said still by code is = absurd (still_not ending (Exit code) still refl (sym by ∙ is))

pub still_stopped : (o : Option (List ℕ)) (P : List ℕ → Type 0) (ending result : Ending) → is_still ending ≡ true →
    result ≡ ending → IfSome o (λ i. HasStopped result → P i)
still_stopped o P ending result still by = told o (λ i stop. absurd (still_settled ending still (ap settled_ending
    (sym by) ∙ stop)))

pub still_line : (named : Option Files) (o : Option (List ℕ)) (P : Files → List ℕ → Type 0) (ending result : Ending) →
    is_still ending ≡ true → result ≡ ending → IfSome named (λ files. IfSome o (λ i. HasStopped result → P files i))
still_line named o P ending result still by = told_so named _ (λ files. still_stopped o (P files) ending result still
    by)

pub failed_stopped : (o : Option (List ℕ)) (P : List ℕ → Type 0) (ending : Ending) → is_failure ending ≡ true → IfSome
    o (λ i. HasStopped ending → P i)
failed_stopped o P ending failed = told o (λ i stop. absurd (failed_no_stop ending failed stop))

pub still_caused : (ending result : Ending) (failed : Bool) (f : Faults) → is_still ending ≡ true → result ≡ ending →
    failed ≡ false → IsCaused result failed f f
still_caused ending result failed f still by none = record {
  read = λ e. absurd (still_not ending ReadFault still refl (sym by ∙ e));
  write = λ e. absurd (still_not ending WriteFault still refl (sym by ∙ e));
  errors = λ e. absurd (still_not ending ErrorsFault still refl (sym by ∙ e));
  later = omega arith;
  registers = λ e. absurd (let t : false ≡ true = sym none ∙ e in cc);
}

-- ---- where no report is put

-- a sink that wasn't touched
pub untouched : {T : Type 0} (wanted : Bool) (ending : Ending) (x : T) → WithoutReport wanted ending (x ≡ x)
untouched wanted ending x = record { unwanted = λ _. refl; unreported = λ _. refl }

pub run_reported : (m : Parts) (ended : Option Ended) → is_unreported (ending_of m ended) ≡ false
run_reported m None = refl
run_reported m (Some (Exited code)) = refl
run_reported m (Some (Trapped t)) = refl

pub world_reported : (stop : WorldEnding) → is_unreported (ending_of_world stop) ≡ false
world_reported (stops.Exit code) = refl
world_reported (stops.Trap t pc) = refl
world_reported stops.Spent = refl
world_reported stops.Stuck = refl

explained_reported : {T E : Type 0} (P : T → Type 0) (Q : E → Type 0) (said : Result T E) (ending result : Ending) →
    IfOk
    said (λ t. (result ≡ ending) × P t) → IfErr said (λ e. (result ≡ OutOfMemory) × Q e) → is_unreported ending ≡ false
    → is_unreported result ≡ false
explained_reported P Q (Ok t) ending result ok err fine = ap is_unreported ok.0 ∙ fine
explained_reported P Q (Err e) ending result ok err fine = ap is_unreported err.0

-- a run that stopped, with its explanation or the want of memory for that
pub stopped_report : {T E : Type 0} (P : T → Type 0) (Q : E → Type 0) (said : Result T E) (wanted : Bool) (ending result
    : Ending) (S : Type 0) → IfOk said (λ t. (result ≡ ending) × P t) → IfErr said (λ e. (result ≡ OutOfMemory) × Q e)
    → is_unreported ending ≡ false → (wanted ≡ false → S) → WithoutReport wanted result S
stopped_report P Q said wanted ending result S ok err fine unwanted = record {
  unwanted = unwanted;
  unreported = λ e. absurd (let t : false ≡ true = sym (explained_reported P Q said ending result ok err fine) ∙ e in
      cc);
}

-- behind a line that was put
pub ended_unreported : {T E : Type 0} (put : Result T E) (ending result : Ending) → result ≡ ended_by put ending →
    is_unreported result ≡ true → is_unreported ending ≡ true
ended_unreported (Ok done) ending result by e = sym (ap is_unreported by) ∙ e
ended_unreported (Err failed) ending result by e = absurd (let t : false ≡ true = sym (ap is_unreported by) ∙ e in cc)
