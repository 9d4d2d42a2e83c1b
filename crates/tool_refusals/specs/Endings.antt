-- How a command of `svemu-tool` ends that reads a file and its input before anything is run, and writes one text: by a
-- refusal, by a failure, or by coming to its end.
use Rattle.std.specs.Prelude.{◌≡◌, ◌⊎◌, ℕ, Bool, true, false, ◌||◌, nat_eq, nat_lt, List, length, Option, Some, None}
use Rattle.std.specs.Prelude.{Result, Ok, Err, if◌then◌else◌}
use Rattle.std.specs.Global.{Vec}
use Rattle.io_gate.specs.declared.images.ImagesError.{ImagesError}
use Rattle.io_gate.specs.declared.images.ImagesError.TheVariants.{Failed, Missing, TooLong as LongFile}
use Rattle.io_gate.specs.declared.images.ImagesError.TheVariants.{OutOfMemory as NoMemory}
use Rattle.command_model.specs.Sweep.{stream_limit}
use Rattle.command_lines.specs.Outcome.{file_limit}
use Rattle.command_lines.specs.declared.ending.Ending.{Ending}
use Rattle.command_lines.specs.declared.ending.Ending.TheVariants.{Exit, Trap, Spent, Stuck, Done, WordsRefused}
use Rattle.command_lines.specs.declared.ending.Ending.TheVariants.{ImageRefused, ListingRefused, ScriptRefused}
use Rattle.command_lines.specs.declared.ending.Ending.TheVariants.{ScheduleRefused, TooLong, FileFault, ReadFault}
use Rattle.command_lines.specs.declared.ending.Ending.TheVariants.{WriteFault, ErrorsFault, OutOfMemory}
use Rattle.commands.specs.Promises.{is_failure, is_refusal}
use Rattle.emu_system.specs.Image.{Image}
use Rattle.emu_system.specs.declared.image.ElfFault.{ElfFault}

-- ---- where nothing failed

-- over an input, which is read to its end first: it is too long, or the command comes to its end; one of both where the
-- input isn't told
abbrev pub EndsOver : Option (List ℕ) → Ending → Type 0
EndsOver None ending = (ending ≡ Done) ⊎ (ending ≡ TooLong stream_limit)
EndsOver (Some input) ending = ending ≡ (if nat_lt stream_limit (length input) then TooLong stream_limit else Done)

-- by an image, whose refusal comes first
abbrev pub EndsImage : Result Image ElfFault → (Ending → Type 0) → Ending → Type 0
EndsImage (Ok image) next ending = next ending
EndsImage (Err fault) next ending = ending ≡ ImageRefused fault

-- by what reading the file whole gives: where it isn't there, something failed
abbrev pub EndsFile : Result (List ℕ) ImagesError → (List ℕ → Ending → Type 0) → Ending → Type 0
EndsFile (Ok bytes) next ending = next bytes ending
EndsFile (Err Missing) next ending = ⊥
EndsFile (Err LongFile) next ending = ending ≡ TooLong file_limit
EndsFile (Err Failed) next ending = ⊥
EndsFile (Err NoMemory) next ending = ⊥

-- ---- which endings there are, and what each leaves

-- a refusal, a failure, or the command came to its end
abbrev pub may_end : Ending → Bool
may_end (Exit code) = false
may_end (Trap trap pc) = false
may_end Spent = false
may_end Stuck = false
may_end Done = true
may_end (WordsRefused fault) = true
may_end (ImageRefused fault) = true
may_end (ListingRefused fault) = false
may_end (ScriptRefused fault) = false
may_end (ScheduleRefused fault) = false
may_end (TooLong limit) = nat_eq limit stream_limit || nat_eq limit file_limit
may_end FileFault = true
may_end ReadFault = true
may_end WriteFault = true
may_end ErrorsFault = true
may_end OutOfMemory = true

-- something may have been put to the output
abbrev pub is_written : Ending → Bool
is_written (Exit code) = false
is_written (Trap trap pc) = false
is_written Spent = false
is_written Stuck = false
is_written Done = true
is_written (WordsRefused fault) = false
is_written (ImageRefused fault) = false
is_written (ListingRefused fault) = false
is_written (ScriptRefused fault) = false
is_written (ScheduleRefused fault) = false
is_written (TooLong limit) = false
is_written FileFault = false
is_written ReadFault = false
is_written WriteFault = true
is_written ErrorsFault = false
is_written OutOfMemory = false

-- a line is put to the errors
abbrev pub is_said : Ending → Bool
is_said (Exit code) = false
is_said (Trap trap pc) = false
is_said Spent = false
is_said Stuck = false
is_said Done = false
is_said (WordsRefused fault) = true
is_said (ImageRefused fault) = true
is_said (ListingRefused fault) = false
is_said (ScriptRefused fault) = false
is_said (ScheduleRefused fault) = false
is_said (TooLong limit) = true
is_said FileFault = true
is_said ReadFault = false
is_said WriteFault = false
is_said ErrorsFault = true
is_said OutOfMemory = false

-- whether an ending may be, what is behind each fault, and what an ending leaves as it was: the input before a refusal,
-- the output, the errors
pub record Leaves (ending : Ending)
    (same_input same_output same_errors file_cause read_cause write_cause errors_cause : Type 0) : Type 0 where
  pub kind : may_end ending ≡ true
  pub file : ending ≡ FileFault → file_cause
  pub read : ending ≡ ReadFault → read_cause
  pub write : ending ≡ WriteFault → write_cause
  pub errors : ending ≡ ErrorsFault → errors_cause
  pub untaken : is_refusal ending ≡ true → same_input
  pub unwritten : is_written ending ≡ false → same_output
  pub silent : is_said ending ≡ false → same_errors

-- what was said of an ending was put, or the errors failed
abbrev pub IsSaid : Ending → Ending → Type 0 → Type 0
IsSaid ending result rose = (result ≡ ending) ⊎ ((result ≡ ErrorsFault) × rose)

-- ---- what is read

-- the bytes of a file, or how the command ends without them
abbrev pub ReadsFile : Result (List ℕ) ImagesError → Result (Vec ℕ) Ending → Type 0
ReadsFile file (Ok bytes) = file ≡ Ok bytes.items
ReadsFile file (Err ending) = is_failure ending ≡ false → EndsFile file (λ bytes ending. ⊥) ending
