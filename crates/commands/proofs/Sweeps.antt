-- What the parts of a sweep promise, put together: the input, the runs over it, and the image.
use Rattle.std.proofs.Common.{◌≡◌, ℕ, ◌+◌, Bool, true, false, cond, List, [], ◌++◌, length, Option, Some, None, Result, Ok, Err, IfSome, refl, sym, subst, append-nil}
use Rattle.std.proofs.lemmas.Option.{IfSome_then}
use Rattle.io_gate.specs.Pieces.{PutsAll}
use Rattle.emu_system.specs.Gained.{Gains}
use Rattle.emu_system.specs.GainedLaws.{put_first}
use Rattle.emu_system.specs.Image.{Image}
use Rattle.emu_system.specs.declared.image.ElfFault.{ElfFault}
use Rattle.command_model.specs.Refusals.{image_line, too_long_line}
use Rattle.command_model.specs.Sweep.{Sweep, fits, stream_limit, sweep_text, text_before}
use Rattle.command_lines.specs.Outcome.{Outcome, outcome_of_lengths, outcome_of_sweep, outcome_of_swept, too_long_stream}
use Rattle.command_lines.specs.declared.ending.Ending.{Ending}
use Rattle.command_lines.specs.declared.ending.Ending.TheVariants.{Done, ImageRefused, TooLong, ErrorsFault}
use Rattle.commands.specs.Endings.{ended_by}
use Rattle.commands.specs.Promises.{is_failure, is_refusal, settled_reader}
use Rattle.commands.specs.Meets.{now, MeetsSweep, Now}
use Rattle.commands.specs.Sweeping.{Writes}
use Rattle.commands.proofs.Meetings.{line_meets, never, no_first, none_gained}
use Rattle.commands.proofs.Settled.{refused_either}

-- ---- the runs over an input

-- too long, behind its line on the errors
pub too_long_writes : {T E : Type 0} (s : Sweep) (o0 o1 e0 e1 : Option (List ℕ)) (put : Result T E) (ending : Ending) → fits s ≡ false → IfSome o0 (λ had. o1 ≡ Some (had ++ text_before s)) → PutsAll e0 e1 (too_long_line stream_limit) put
    → ending ≡ ended_by put (TooLong stream_limit) → Writes (outcome_of_sweep s) ending o0 o1 e0 e1
too_long_writes s o0 o1 e0 e1 (Ok done) ending unfit lines puts by =
    subst (λ (x : Ending). Writes (outcome_of_sweep s) x o0 o1 e0 e1) (sym by)
    (subst (λ (b : Bool). Writes (cond b (record { ending = Done; output = sweep_text s; errors = []; taken = length s.input }) (too_long_stream (text_before s) (length s.input))) (TooLong stream_limit) o0 o1 e0 e1) (sym unfit)
    (record { ends = λ _. refl; output = lines; errors = puts }))
too_long_writes s o0 o1 e0 e1 (Err failed) ending unfit lines puts by =
    subst (λ (x : Ending). Writes (outcome_of_sweep s) x o0 o1 e0 e1) (sym by)
    (subst (λ (b : Bool). Writes (cond b (record { ending = Done; output = sweep_text s; errors = []; taken = length s.input }) (too_long_stream (text_before s) (length s.input))) ErrorsFault o0 o1 e0 e1) (sym unfit)
    (record {
      ends = λ fine. never ErrorsFault refl fine;
      output = IfSome_then o0 lines (λ had is. record { gained = text_before s; is = is; first = ([], sym (append-nil (text_before s))) });
      errors = IfSome_then e0 puts (λ had p. put_first e1 had (too_long_line stream_limit) p);
    }))

-- the whole text
pub whole_writes : (s : Sweep) (o0 o1 e : Option (List ℕ)) → fits s ≡ true → IfSome o0 (λ had. o1 ≡ Some (had ++ sweep_text s)) → Writes (outcome_of_sweep s) Done o0 o1 e e
whole_writes s o0 o1 e fit lines =
    subst (λ (b : Bool). Writes (cond b (record { ending = Done; output = sweep_text s; errors = []; taken = length s.input }) (too_long_stream (text_before s) (length s.input))) Done o0 o1 e e) (sym fit)
    (record { ends = λ _. refl; output = lines; errors = none_gained false e })

-- whatever the outcome, its output is the lines before the first length at which a stream is too long
output_is : (s : Sweep) → (fits s ≡ true → text_before s ≡ sweep_text s) → (outcome_of_sweep s).output ≡ text_before s
output_is s whole =
    elim (fits s) as (λ b. (b ≡ true → text_before s ≡ sweep_text s) → (cond b (record { ending = Done; output = sweep_text s; errors = []; taken = length s.input }) (too_long_stream (text_before s) (length s.input))).output ≡ text_before s) [
      | true ↦ λ w. sym (w refl)
      | false ↦ λ _. refl
    ] whole

-- the output failed, or memory was wanting
pub broken_writes : (s : Sweep) (o0 o1 e : Option (List ℕ)) (ending : Ending) → is_failure ending ≡ true → (fits s ≡ true → text_before s ≡ sweep_text s)
    → IfSome o0 (λ had. Gains true o1 had (text_before s)) → Writes (outcome_of_sweep s) ending o0 o1 e e
broken_writes s o0 o1 e ending failed whole lines = record {
  ends = λ fine. never ending failed fine;
  output = subst (λ (b : Bool). IfSome o0 (λ had. Gains b o1 had (outcome_of_sweep s).output)) (sym failed) (subst (λ (xs : List ℕ). IfSome o0 (λ had. Gains true o1 had xs)) (sym (output_is s whole)) lines);
  errors = no_first ending e (outcome_of_sweep s).errors failed;
}

taken_is : (s : Sweep) → (outcome_of_sweep s).taken ≡ length s.input
taken_is s = elim (fits s) as (λ b. (cond b (record { ending = Done; output = sweep_text s; errors = []; taken = length s.input }) (too_long_stream (text_before s) (length s.input))).taken ≡ length s.input) [
  | true ↦ refl
  | false ↦ refl
]

sweep_settled : (s : Sweep) → settled_reader (outcome_of_sweep s).ending ≡ None
sweep_settled s = elim (fits s) as (λ b. settled_reader (cond b (record { ending = Done; output = sweep_text s; errors = []; taken = length s.input }) (too_long_stream (text_before s) (length s.input))).ending ≡ None) [
  | true ↦ refl
  | false ↦ refl
]

sweep_refuses_none : (s : Sweep) → is_refusal (outcome_of_sweep s).ending ≡ false
sweep_refuses_none s = elim (fits s) as (λ b. is_refusal (cond b (record { ending = Done; output = sweep_text s; errors = []; taken = length s.input }) (too_long_stream (text_before s) (length s.input))).ending ≡ false) [
  | true ↦ refl
  | false ↦ refl
]

-- ---- the input

module _ (file : List ℕ) (args : List (List ℕ)) (budget pages : ℕ) (image : Image) where
  abbrev pub of_input : List ℕ → Outcome
  of_input i = outcome_of_lengths file args i budget pages image

  abbrev pub over_input : List ℕ → Sweep
  over_input i = record { file = file; image = image; args = args; pages = pages; budget = budget; input = i }

  abbrev pub lines_over : List ℕ → Outcome
  lines_over i = outcome_of_sweep (over_input i)

  pub takes_all : (i : List ℕ) → (lines_over i).taken ≡ length i
  takes_all i = taken_is (over_input i)

  pub settles_as : (i : List ℕ) → settled_reader (lines_over i).ending ≡ None
  settles_as i = sweep_settled (over_input i)

  pub accepts_it : (i : List ℕ) → is_refusal (lines_over i).ending ≡ false
  accepts_it i = sweep_refuses_none (over_input i)

-- ---- the image

module _ (file : List ℕ) (args : List (List ℕ)) (budget pages : ℕ) (r : Result Image ElfFault) (old : Now) where
  abbrev pub of_swept : List ℕ → Option Outcome
  of_swept i = Some (outcome_of_swept file args i budget pages r)

  pub refused_swept : {T E : Type 0} (fault : ElfFault) (new : Option (List ℕ)) (put : Result T E) (result : Ending) → Err fault ≡ r → result ≡ ended_by put (ImageRefused fault) → PutsAll old.errors new (image_line fault) put
      → MeetsSweep of_swept result old (now old.input old.output new)
  refused_swept fault new put result is by puts =
      subst (λ (x : Ending). MeetsSweep of_swept x old (now old.input old.output new)) (sym by)
      (subst (λ (x : Result Image ElfFault). MeetsSweep (λ i. Some (outcome_of_swept file args i budget pages x)) (ended_by put (ImageRefused fault)) old (now old.input old.output new)) is
      (refused_either true (λ i. Some (outcome_of_swept file args i budget pages (Err fault))) (ended_by put (ImageRefused fault)) old (now old.input old.output new) (λ _. refl)
      (line_meets (ImageRefused fault) (image_line fault) old.input old.output old.errors new put refl puts)))

  pub opened_swept : (image : Image) (new : Now) (result : Ending) → Ok image ≡ r → MeetsSweep (λ i. Some (outcome_of_lengths file args i budget pages image)) result old new → MeetsSweep of_swept result old new
  opened_swept image new result is meets = subst (λ (x : Result Image ElfFault). MeetsSweep (λ i. Some (outcome_of_swept file args i budget pages x)) result old new) is meets
