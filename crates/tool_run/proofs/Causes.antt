-- The causes of endings, and of which nothing is said.
use Rattle.std.proofs.Common.{◌≡◌, ◌≤◌, ◌⊎◌, arith, ℕ, Bool, true, false, List, [], Option, Some, None, Result, Ok}
use Rattle.std.proofs.Common.{Err, IfErr, IfOk, inl, inr, refl, sym, ap, subst, ◌∙◌}
use Rattle.io_gate.specs.Streams.{HasCause, Rose}
use Rattle.elf_symbols.specs.declared.Symbol.{Symbol}
use Rattle.elf_symbols.specs.Order.{AreSymbolsOf}
use Rattle.emu_model.specs.State.{Parts}
use Rattle.emu_model.specs.declared.trap.Ended.{Ended}
use Rattle.emu_model.specs.declared.trap.Ended.TheVariants.{Exit as Exited, Trap as Trapped}
use Rattle.emu_system.specs.declared.image.Segment.{Segment}
use Rattle.command_lines.specs.Outcome.{ending_of}
use Rattle.command_lines.specs.declared.ending.Ending.{Ending}
use Rattle.command_lines.specs.declared.ending.Ending.TheVariants.{Exit, ErrorsFault, OutOfMemory}
use Rattle.commands.specs.Endings.{ended_by}
use Rattle.commands.specs.Promises.{is_failure}
use Rattle.commands.proofs.Causing.{not_failed}
use Rattle.tool_sites.specs.Explanation.{hinted_text}
use Rattle.tool_run.specs.Stops.{alone_stop}
use Rattle.tool_run.specs.Tells.{IsExplained, IsSilentExit, SeenStop, said_of}

-- an ending that isn't an exit
pub loud : (ending : Ending) (said : List ℕ) → ((code : ℕ) → ending ≡ Exit code → ⊥) → IsSilentExit ending said
loud ending said never code is = absurd (never code is)

exit_text : (symbols : List Symbol) (segments : List Segment) (m : Parts) (ended : Option Ended) (code : ℕ) →
    ending_of m ended ≡ Exit code → hinted_text symbols segments m ended ≡ []
exit_text symbols segments m None code is = cc
exit_text symbols segments m (Some (Exited c)) code is = refl
exit_text symbols segments m (Some (Trapped t)) code is = cc

-- nothing is said of a machine that ended by an exit
pub explained_exit : (file : List ℕ) (segments : List Segment) (m : Parts) (said : List ℕ) (ending : Ending) → ending
    ≡ ending_of m m.ended → IsExplained (alone_stop file segments m) said → IsSilentExit ending said
explained_exit file segments m said ending is e code exit = e.is ∙ exit_text e.found segments m m.ended code (sym is ∙
    exit)

-- an ending behind a line is the command's own, or a fault of the errors
pub ended_exit : {T E : Type 0} (put : Result T E) (ending result : Ending) (said : List ℕ) → result ≡ ended_by put
    ending → IsSilentExit ending said → IsSilentExit result said
ended_exit (Ok done) ending result said by silent code is = silent code (sym by ∙ is)
ended_exit (Err failed) ending result said by silent code is = absurd (let e : ErrorsFault ≡ Exit code = sym by ∙ is
    in cc)

pub ended_own : {T E : Type 0} (put : Result T E) (ending result x : Ending) → result ≡ ended_by put ending →
    (ErrorsFault ≡ x → ⊥) → result ≡ x → ending ≡ x
ended_own (Ok done) ending result x by other is = sym by ∙ is
ended_own (Err failed) ending result x by other is = absurd (other (sym by ∙ is))

-- ---- a run with its explanation, or the want of memory for that

explained_ends : {T E : Type 0} (P : T → Type 0) (Q : E → Type 0) (said : Result T E) (ending result : Ending) → IfOk
    said (λ t. (result ≡ ending) × P t) → IfErr said (λ e. (result ≡ OutOfMemory) × Q e)
    → (result ≡ ending) ⊎ (result ≡ OutOfMemory)
explained_ends P Q (Ok t) ending result ok err = inl ok.0
explained_ends P Q (Err e) ending result ok err = inr err.0

-- it has no fault of a stream or of a file
pub explained_other : {T E : Type 0} (P : T → Type 0) (Q : E → Type 0) (said : Result T E) (ending result x : Ending)
    → IfOk said (λ t. (result ≡ ending) × P t) → IfErr said (λ e. (result ≡ OutOfMemory) × Q e)
    → is_failure ending ≡ false → is_failure x ≡ true → (OutOfMemory ≡ x → ⊥) → result ≡ x → ⊥
explained_other P Q said ending result x ok err fine failure other is = elim (explained_ends P Q said ending result ok
    err) [
      | inl own ↦ not_failed ending x fine failure (sym own ∙ is)
      | inr wanting ↦ other (sym wanting ∙ is)
    ]

-- where it is silent of an exit with the ending of the run, it is with the want of memory
pub explained_silent : {T E : Type 0} (bytes : T → List ℕ) (said : Result T E) (stop : SeenStop) (ending result :
    Ending) (text : List ℕ)
    → ((t : List ℕ) → IsExplained stop t → IsSilentExit ending t) → IfOk said (λ t. IsExplained stop (bytes t)) → IfOk
    said (λ t. (result ≡ ending) × (text ≡ bytes t))
    → IfErr said (λ _. (result ≡ OutOfMemory) × (text ≡ [])) → IsSilentExit result text
explained_silent bytes (Ok t) stop ending result text silent explained ok err code exit = ok.1 ∙ silent (bytes t)
    explained code (sym ok.0 ∙ exit)
explained_silent bytes (Err e) stop ending result text silent explained ok err code exit = err.1

-- ---- other endings

pub is_other : (ending result x : Ending) → result ≡ ending → (ending ≡ x → ⊥) → result ≡ x → ⊥
is_other ending result x by other is = other (sym by ∙ is)

pub rose_more : (a b d : ℕ) → a ≤ b → Rose b d → Rose a d
rose_more a b d le rose = omega arith

-- the count of the errors rose by the run and stayed so, or rose by what was put
pub errors_risen : {T E : Type 0} (a b d : ℕ) (put : Result T E) (ending result : Ending) → result ≡ ended_by put
    ending → (ending ≡ ErrorsFault → Rose a b) → a ≤ b → HasCause b d put → result ≡ ErrorsFault → Rose a d
errors_risen a b d (Ok done) ending result by own later has is = subst (λ (n : ℕ). Rose a n) (sym has.kept) (own (sym
    by ∙ is))
errors_risen a b d (Err failed) ending result by own later has is = rose_more a b d later has.failed

pub later_twice : {T E : Type 0} (a b d : ℕ) (put : Result T E) → a ≤ b → HasCause b d put → a ≤ d
later_twice a b d put first has = let second : b ≤ d = has.later in omega arith

-- what is hushed is silent
pub hushed_exit : (quiet : Bool) (ending : Ending) (text said : List ℕ) → (quiet ≡ true → said ≡ []) → (quiet ≡ false
    → said ≡ text) → IsSilentExit ending text → IsSilentExit ending said
hushed_exit true ending text said hush aloud silent code is = hush refl
hushed_exit false ending text said hush aloud silent code is = aloud refl ∙ silent code is

-- the text by the symbols of a file explains
pub explained_by : {T E : Type 0} (bytes : T → List ℕ) (stop : SeenStop) (found read : List Symbol) (said : Result T E)
    → read ≡ found → AreSymbolsOf stop.file found → IfOk said (λ t. bytes t ≡ said_of read stop) → IfOk said (λ t.
    IsExplained stop (bytes t))
explained_by bytes stop found read (Ok t) same theirs is =
    record { found = found; theirs = theirs; is = is ∙ ap (λ (xs : List Symbol). said_of xs stop) same }
explained_by bytes stop found read (Err e) same theirs is = tt

-- the same of a line that is what is said
pub explained_as : {T E : Type 0} (bytes : T → List ℕ) (stop : SeenStop) (found read : List Symbol) (line : List ℕ)
    (said : Result T E)
    → read ≡ found → AreSymbolsOf stop.file found → IfOk said (λ t. bytes t ≡ line) → line ≡ said_of read stop → IfOk
    said (λ t. IsExplained stop (bytes t))
explained_as bytes stop found read line (Ok t) same theirs is so =
    record { found = found; theirs = theirs; is = is ∙ so ∙ ap (λ (xs : List Symbol). said_of xs stop) same }
explained_as bytes stop found read line (Err e) same theirs is so = tt

-- what is said of a failure isn't said of an exit
pub failure_exit : (ending : Ending) (said text : List ℕ) → (is_failure ending ≡ false → text ≡ said) → IsSilentExit
    ending said → IsSilentExit ending text
failure_exit ending said text kept silent code is = kept (ap is_failure is) ∙ silent code is
