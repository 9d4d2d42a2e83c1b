-- What a run comes to without its report, by the answer of its machine.
use Rattle.std.proofs.Common.{◌≡◌, ℕ, ◌-◌, Bool, true, false, List, [], Option, Some, None, Result, Ok, Err}
use Rattle.std.proofs.Common.{IfErr, IfOk, IfSome, refl, sym, ap, subst, ◌∙◌, append-nil}
use Rattle.std.proofs.lemmas.Option.{IfSome_then}
use Rattle.io_gate.specs.Pieces.{puts_nothing}
use Rattle.emu_model.specs.State.{Parts, State}
use Rattle.emu_model.specs.declared.trap.Ended.{Ended}
use Rattle.emu_model.specs.declared.trap.Ended.TheVariants.{Exit as Exited, Trap as Trapped}
use Rattle.emu_system.specs.Image.{Image}
use Rattle.emu_system.specs.Start.{opening, with_input}
use Rattle.emu_system.specs.declared.image.ElfFault.{ElfFault}
use Rattle.emu_run.specs.Run.{run}
use Rattle.emu_run.specs.RunLaws.{IsRest, until_end_moves}
use Rattle.emu_machine.specs.Ends.{Becomes, TakesWithin, Puts, run_end, is_broken_off}
use Rattle.emu_machine.specs.declared.ends.RunEnd.{RunEnd}
use Rattle.command_lines.specs.Outcome.{Outcome, Files, ending_of, file_at, refusal}
use Rattle.command_model.specs.CommandLine.{line}
use Rattle.command_model.specs.declared.command_line.Line.{Line}
use Rattle.command_model.specs.declared.command_line.WordsFault.{WordsFault}
use Rattle.command_lines.specs.declared.ending.Ending.{Ending}
use Rattle.command_lines.specs.declared.ending.Ending.TheVariants.{ImageRefused, OutOfMemory, WordsRefused}
use Rattle.commands.specs.Endings.{ending_by}
use Rattle.commands.specs.Meets.{Now, now, Meets}
use Rattle.commands.specs.Promises.{is_failure}
use Rattle.commands.proofs.Meetings.{IsStop, Stopped, outcome_of_stop, broken_meets, line_meets, nothing_meets}
use Rattle.commands.proofs.Meetings.{stopped_meets}
use Rattle.commands.proofs.NamedFiles.{same_outcome, told_so}
use Rattle.commands.proofs.RunEnds.{broken_is, ending_is}
use Rattle.commands.specs.Programs.{arguments_of}
use Rattle.commands.specs.declared.program.Program.{Program}
use Rattle.tool_run.specs.Seconds.{of_image, of_second, program_line}
use Rattle.tool_run.specs.Unreported.{unreported, unreported_from, unreported_line, unreported_over, unreported_run}
use Rattle.tool_run.specs.Unreported.{with_read}
use Rattle.tool_run.proofs.Tellings.{failed_meets}

-- the state in which the run of a machine with this input stops
abbrev stop : Parts → ℕ → List ℕ → State
stop m budget i = run (with_input m i) budget

-- with no text behind it
abbrev stopped_at : State → Stopped
stopped_at st = record {
  output = st.output;
  errors = st.errors;
  rest = st.input;
  text = [];
  ending = ending_of
      st.parts st.parts.ended;
}

without_text : (i : List ℕ) (st : State) → Some (outcome_of_stop i (stopped_at st)) ≡ Some (unreported_run i st)
without_text i st = ap (λ (xs : List ℕ). Some (record (unreported_run i st) { errors = xs })) (append-nil st.errors)

ends_as_run : (m : Parts) (ended : Option Ended) → IsStop (ending_of m ended)
ends_as_run m None = record { settles = refl; accepts = refl; whole = refl }
ends_as_run m (Some (Exited code)) = record { settles = refl; accepts = refl; whole = refl }
ends_as_run m (Some (Trapped trap)) = record { settles = refl; accepts = refl; whole = refl }

module _ (m n : Parts) (budget : ℕ) (end : RunEnd) (pc : ℕ) where
  moves : (i : List ℕ) → IsRest i (stop m budget i).input
  moves i = (until_end_moves (with_input m i) (budget - m.steps)).input

  stops : (i : List ℕ) → IsStop (stopped_at (stop m budget i)).ending
  stops i = ends_as_run (stop m budget i).parts (stop m budget i).parts.ended

  bare : (ending : Ending) (old new : Now) → Meets (λ i. Some (outcome_of_stop i (stopped_at (stop m budget i))))
      ending old new
      → Meets (λ i. Some (unreported_run i (run (with_input m i) budget))) ending old new
  bare ending old new meets =
      same_outcome (λ i. Some (outcome_of_stop i (stopped_at (stop m budget i)))) (λ i. Some (unreported_run i (run
      (with_input m i) budget))) ending old new
      (λ i. without_text i (stop m budget i)) meets

  -- a run that was broken off
  pub broken_run : (i0 i1 o0 o1 e0 e1 : Option (List ℕ)) (ending : Ending) → ending ≡ ending_by end pc → is_failure
      ending ≡ true
      → TakesWithin (λ st. run st budget) m i0 i1 (is_broken_off end) → Puts (λ st. (run st budget).output) m i0 o0 o1
      (is_broken_off end) → Puts (λ st. (run st budget).errors) m i0 e0 e1 (is_broken_off end)
      → Meets (λ i. Some (unreported_run i (run (with_input m i) budget))) ending (now i0 o0 e0) (now i1 o1 e1)
  broken_run i0 i1 o0 o1 e0 e1 ending is failed takes outs errs =
      let broken : is_broken_off end ≡ true = sym (broken_is end pc) ∙ ap is_failure (sym is) ∙ failed in
      bare ending (now i0 o0 e0) (now i1 o1 e1) (broken_meets (λ i. stopped_at (stop m budget i)) moves stops i0 i1 o0
      o1 e0 e1 ending
      (subst (λ (b : Bool). TakesWithin (λ st. run st budget) m i0 i1 b) broken takes)
      (subst (λ (b : Bool). Puts (λ st. (run st budget).output) m i0 o0 o1 b) broken outs)
      (subst (λ (b : Bool). Puts (λ st. (run st budget).errors) m i0 e0 e1 b) broken errs) failed)

  -- the ending of a run that stopped is that of its machine
  pub ending_stopped : (ending : Ending) → ending ≡ ending_by end pc → is_failure ending ≡ false → (is_broken_off end
      ≡ false → end ≡ run_end n.ended) → pc ≡ n.core.pc → ending ≡ ending_of n n.ended
  ending_stopped ending is fine ends at =
      let whole : is_broken_off end ≡ false = sym (broken_is end pc) ∙ ap is_failure (sym is) ∙ fine in
      is ∙ ap (λ (x : RunEnd). ending_by x pc) (ends whole) ∙ ap (λ (a : ℕ). ending_by (run_end n.ended) a) at ∙
      ending_is n n.ended

  -- a run that stopped
  pub whole_run : (i0 i1 o0 o1 e0 e1 : Option (List ℕ)) (ending : Ending) → ending ≡ ending_by end pc → is_failure
      ending ≡ false
      → Becomes (λ st. run st budget) m n i0 i1 (is_broken_off end) → Puts (λ st. (run st budget).output) m i0 o0 o1
      (is_broken_off end) → Puts (λ st. (run st budget).errors) m i0 e0 e1 (is_broken_off end)
      → (is_broken_off end ≡ false → end ≡ run_end n.ended) → pc ≡ n.core.pc
      → Meets (λ i. Some (unreported_run i (run (with_input m i) budget))) ending (now i0 o0 e0) (now i1 o1 e1)
  whole_run i0 i1 o0 o1 e0 e1 ending is fine becomes outs errs ends at =
      let whole : is_broken_off end ≡ false = sym (broken_is end pc) ∙ ap is_failure (sym is) ∙ fine in
      let of_machine : ending ≡ ending_of n n.ended = ending_stopped ending is fine ends at in
      let put : Result ℕ ℕ = Ok 0 in
      bare ending (now i0 o0 e0) (now i1 o1 e1) (stopped_meets (λ i. stopped_at (stop m budget i)) moves stops i0 i1
      o0 o1 e0 e1 e1 [] ending put
      (IfSome_then i0 (subst (λ (b : Bool). Becomes (λ st. run st budget) m n i0 i1 b) whole becomes)
      (λ i b. (refl, of_machine ∙ ap (λ (x : Parts). ending_of x x.ended) (b refl).0, (b refl).1)))
      (subst (λ (b : Bool). Puts (λ st. (run st budget).output) m i0 o0 o1 b) whole outs)
      (subst (λ (b : Bool). Puts (λ st. (run st budget).errors) m i0 e0 e1 b) whole errs)
      (subst (λ (e : Ending). IsStop e) (sym of_machine) (ends_as_run n n.ended)) (puts_nothing ℕ ℕ e1 0))

-- ---- what is refused

-- an image, or why there is none
abbrev Loaded : Type 0
Loaded = Result Image ElfFault

-- a refusal of which svemu's line is left out
pub refused_meets : (ending : Ending) (i o e : Option (List ℕ)) → is_failure ending ≡ false → Meets (λ _. Some
    (refusal ending [])) ending (now i o e) (now i o e)
refused_meets ending i o e fine = let put : Result ℕ ℕ = Ok 0 in line_meets ending [] i o e e put fine (puts_nothing ℕ
    ℕ e 0)

module _ (second : Option ℕ) (text bytes : List ℕ) (words : List (List ℕ)) (p : Program) (r : Loaded) where
  pub refused_image : (fault : ElfFault) (i o e : Option (List ℕ)) (result : Ending) → Err fault ≡ r → result ≡
      ImageRefused fault
      → Meets (of_image second text bytes words p r) result (now i o e) (now i o e)
  refused_image fault i o e result is by =
      subst (λ (x : Ending). Meets (of_image second text bytes words p r) x (now i o e) (now i o e)) (sym by)
      (subst (λ (x : Result Image ElfFault). Meets (of_image second text bytes words p x)
      (ImageRefused fault) (now i o e) (now i o e)) is
      (refused_meets (ImageRefused fault) i o e refl))

  pub opened_image : (image : Image) (m : Parts) (old new : Now) (result : Ending) → Ok image ≡ r → m ≡ opening bytes
      image (arguments_of words p) p.length p.pages
      → Meets (λ i. Some (unreported_from second text i p.budget m)) result old new → Meets (of_image second text bytes
      words p r) result old new
  opened_image image m old new result is of meets =
      subst (λ (x : Result Image ElfFault). Meets (of_image second text bytes words p x) result old new) is
      (subst (λ (x : Parts). Meets (λ i. Some (unreported_from second text i p.budget x)) result old new) of meets)

-- a program with a second file, by its line
program_over : (words : List (List ℕ)) (p : Program) (second : Option ℕ) (files : Files) (i : List ℕ)
    → with_read (file_at words files p.file) (λ bytes. of_second second bytes words p files i) ≡ unreported_over words
    (program_line p second) files i
program_over words p None files i = refl
program_over words p (Some place) files i = refl

pub met_line : (words : List (List ℕ)) (p : Program) (second : Option ℕ) (told : Option Files) (result : Ending) (old
    new : Now)
    → IfSome told (λ files. Meets (λ i. with_read (file_at words files p.file) (λ bytes. of_second second bytes words p
    files i)) result old new)
    → IfSome told (λ files. Meets (unreported_over words (program_line p second) files) result old new)
met_line words p second told result old new meets = IfSome_then told meets (λ files m. same_outcome (λ i. with_read
    (file_at words files p.file) (λ bytes. of_second second bytes words p files i)) (unreported_over words
    (program_line p second) files) result old new (program_over words p second files) m)

-- a refused line
pub refused_line : (words : List (List ℕ)) (told : Option Files) (fault : WordsFault) (i o e : Option (List ℕ))
    (result : Ending) → Err fault ≡ line words → result ≡ WordsRefused fault
    → IfSome told (λ files. Meets (unreported words files) result (now i o e) (now i o e))
refused_line words told fault i o e result is by = told_so told _ (λ files.
    subst (λ (x : Ending). Meets (unreported words files) x (now i o e) (now i o e)) (sym by)
    (subst (λ (r : Result Line WordsFault). Meets (λ j. unreported_line words files j r) (WordsRefused fault) (now i o
    e) (now i o e)) is
    (refused_meets (WordsRefused fault) i o e refl)))

-- nothing was done, since something failed
pub failed_line : (told : Option Files) (outcome : Files → List ℕ → Option Outcome) (i o e : Option (List ℕ)) (result
    : Ending) → is_failure result ≡ true
    → IfSome told (λ files. Meets (outcome files) result (now i o e) (now i o e))
failed_line told outcome i o e result failed = told_so told _ (λ files. nothing_meets (outcome files) result i o e
    failed)

-- another ending that is the same
pub same_ending : (told : Option Files) (outcome : Files → List ℕ → Option Outcome) (ending result : Ending) (old new
    : Now) → result ≡ ending
    → IfSome told (λ files. Meets (outcome files) ending old new) → IfSome told (λ files. Meets (outcome files) result
    old new)
same_ending told outcome ending result old new by meets = subst (λ (x : Ending). IfSome told (λ files. Meets (outcome
    files) x old new)) (sym by) meets

-- ---- a run with its explanation, or the want of memory for that

pub explained_meets : {T E : Type 0} (P : T → Type 0) (Q : E → Type 0) (said : Result T E) (outcome : List ℕ → Option
    Outcome) (ending result : Ending) (old new : Now)
    → IfOk said (λ t. (result ≡ ending) × P t) → IfErr said (λ e. (result ≡ OutOfMemory) × Q e) → Meets outcome ending
    old new → Meets outcome result old new
explained_meets P Q (Ok t) outcome ending result old new ok err meets = subst (λ (x : Ending). Meets outcome x old new)
    (sym ok.0) meets
explained_meets P Q (Err e) outcome ending result old new ok err meets =
    subst (λ (x : Ending). Meets outcome x old new) (sym err.0) (failed_meets outcome ending OutOfMemory old new refl
    meets)
