-- What a command promises: its result by the definitions, or, where something failed, nothing beyond it. Each fact
-- rests on what the files told, and on the input and the sinks that it names, where these tell their bytes. It is this
-- project's own choice what to promise.
use Rattle.std.specs.Prelude.{◌≡◌, ◌≤◌, ℕ, Bool, true, false, nat_eq, List, [], drop, Option, Some, None, MatchBool, if◌then◌else◌}
use Rattle.command_model.specs.Sweep.{stream_limit}
use Rattle.command_lines.specs.Outcome.{Outcome, Files, file_limit}
use Rattle.command_lines.specs.declared.ending.Ending.{Ending}
use Rattle.command_lines.specs.declared.ending.Ending.TheVariants.{Exit, Trap, Spent, Stuck, Done, WordsRefused, ImageRefused, ListingRefused, ScriptRefused, ScheduleRefused, TooLong, FileFault, ReadFault, WriteFault, ErrorsFault, OutOfMemory}

-- a file or a stream failed, or memory was wanting
abbrev pub is_failure : Ending → Bool
is_failure FileFault = true
is_failure ReadFault = true
is_failure WriteFault = true
is_failure ErrorsFault = true
is_failure OutOfMemory = true
is_failure ending = false

-- the command ends without a text on the errors; ErrorsFault isn't one of these, as it may be that text that failed
abbrev pub is_silent : Ending → Bool
is_silent Done = true
is_silent FileFault = true
is_silent ReadFault = true
is_silent WriteFault = true
is_silent OutOfMemory = true
is_silent ending = false

-- the line, a file, an image, a listing, a script or a schedule is refused; a stream that is too long isn't, since that
-- rests on the input
abbrev pub is_refusal : Ending → Bool
is_refusal (WordsRefused fault) = true
is_refusal (TooLong limit) = nat_eq limit file_limit
is_refusal (ImageRefused fault) = true
is_refusal (ListingRefused fault) = true
is_refusal (ScriptRefused fault) = true
is_refusal (ScheduleRefused fault) = true
is_refusal ending = false

-- the ending, where it rests on no input: any but the end of a run
abbrev pub settled_ending : Ending → Option Ending
settled_ending (Exit code) = None
settled_ending (Trap trap pc) = None
settled_ending Spent = None
settled_ending Stuck = None
settled_ending ending = Some ending

-- ---- an outcome, if there is one; where there is none, nothing is moved

-- the command ends as its outcome says
abbrev pub EndsAs : Option Outcome → Ending → Type 0
EndsAs None ending = ⊥
EndsAs (Some outcome) ending = ending ≡ outcome.ending

-- the command ends as its outcome says, or both end as a run does
abbrev pub Settles : Option Outcome → Ending → Type 0
Settles None ending = ⊥
Settles (Some outcome) ending = settled_ending ending ≡ settled_ending outcome.ending

-- the ending of a command that reads its input to the end before anything is run, where it rests on no input: any but
-- that the command came to its end, or that a stream was too long for it
abbrev pub settled_reader : Ending → Option Ending
settled_reader Done = None
settled_reader (TooLong limit) = if nat_eq limit stream_limit then None else Some (TooLong limit)
settled_reader ending = Some ending

-- the command ends as its outcome says, or both end as such a command does that read its input
abbrev pub SettlesReader : Option Outcome → Ending → Type 0
SettlesReader None ending = ⊥
SettlesReader (Some outcome) ending = settled_reader ending ≡ settled_reader outcome.ending

-- by whether the input is read so
abbrev pub settles_by : Bool → Option Outcome → Ending → Type 0
settles_by true = SettlesReader
settles_by false = Settles

-- the outcome rests on no input: there is none, or it is a refusal
abbrev pub rests_on_none : Option Outcome → Bool
rests_on_none None = true
rests_on_none (Some outcome) = is_refusal outcome.ending

abbrev pub output_of : Option Outcome → List ℕ
output_of None = []
output_of (Some outcome) = outcome.output

abbrev pub errors_of : Option Outcome → List ℕ
errors_of None = []
errors_of (Some outcome) = outcome.errors

abbrev pub taken_of : Option Outcome → ℕ
taken_of None = 0
taken_of (Some outcome) = outcome.taken

-- ---- the streams

-- an input lost at most so many bytes
pub record LostAtMost (left : Option (List ℕ)) (bytes : List ℕ) (most : ℕ) : Type 0 where
  pub taken : ℕ
  pub within : taken ≤ most
  pub is : left ≡ Some (drop taken bytes)

-- an input lost so many bytes; where something failed, at most so many
abbrev pub Loses : Bool → Option (List ℕ) → List ℕ → ℕ → Type 0
Loses false left bytes count = left ≡ Some (drop count bytes)
Loses true left bytes count = LostAtMost left bytes count

-- ---- the answer

-- the outcome for these bytes counts: the input told them, or the outcome rests on none
abbrev pub CountsFor : Option (List ℕ) → Option Outcome → List ℕ → Type 0
CountsFor told outcome bytes = MatchBool (rests_on_none outcome) (Unit {0}) (told ≡ Some bytes)

-- ---- files that aren't there

-- the files are told, and there is no outcome over them, whatever the input
pub record NamesNoFile (outcome : Files → List ℕ → Option Outcome) (told : Option Files) : Type 0 where
  pub files : Files
  pub is : told ≡ Some files
  pub missing : (input : List ℕ) → outcome files input ≡ None
