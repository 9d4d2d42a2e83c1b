-- All that a command promises of an outcome, in one record, with what its streams tell before and after.
use Rattle.std.specs.Prelude.{◌≡◌, ℕ, false, List, Option, IfSome, Result}
use Rattle.emu_system.specs.Gained.{Gains}
use Rattle.command_lines.specs.Outcome.{Outcome, Files}
use Rattle.command_lines.specs.declared.ending.Ending.{Ending}
use Rattle.commands.specs.Promises.{is_failure, EndsAs, Settles, SettlesReader, output_of, errors_of, taken_of, Loses, CountsFor}
use Rattle.commands.specs.Lines.{SettlesLine}
use Rattle.command_model.specs.declared.command_line.Line.{Line}
use Rattle.command_model.specs.declared.command_line.WordsFault.{WordsFault}

-- the bytes that the input has left, and those that the output and the errors hold, where they tell it
pub record Now : Type 0 where
  pub input : Option (List ℕ)
  pub output : Option (List ℕ)
  pub errors : Option (List ℕ)

abbrev pub now : Option (List ℕ) → Option (List ℕ) → Option (List ℕ) → Now
now input output errors = record { input = input; output = output; errors = errors }

-- Where nothing failed, the command ends as the outcome for what the input had says, and the streams gained and lost just its
-- bytes; after a failure they gained first bytes of these, and lost no more. What the ending and the outcome share whatever the
-- input has is `settles`.
pub record MeetsBy (settles : Option Outcome → Ending → Type 0) (outcome : List ℕ → Option Outcome) (ending : Ending) (old new : Now) : Type 0 where
  pub ends : IfSome old.input (λ bytes. is_failure ending ≡ false → EndsAs (outcome bytes) ending)
  pub settled : is_failure ending ≡ false → (bytes : List ℕ) → settles (outcome bytes) ending
  pub output : (bytes : List ℕ) → CountsFor old.input (outcome bytes) bytes → IfSome old.output (λ had. Gains (is_failure ending) new.output had (output_of (outcome bytes)))
  pub errors : (bytes : List ℕ) → CountsFor old.input (outcome bytes) bytes → IfSome old.errors (λ had. Gains (is_failure ending) new.errors had (errors_of (outcome bytes)))
  pub input : IfSome old.input (λ bytes. Loses (is_failure ending) new.input bytes (taken_of (outcome bytes)))

-- an ending that isn't that of a run is the outcome's whatever the input has
abbrev pub Meets : (List ℕ → Option Outcome) → Ending → Now → Now → Type 0
Meets outcome ending old new = MeetsBy Settles outcome ending old new

-- and so is one that isn't that of a sweep
abbrev pub MeetsSweep : (List ℕ → Option Outcome) → Ending → Now → Now → Type 0
MeetsSweep outcome ending old new = MeetsBy SettlesReader outcome ending old new

abbrev pub MeetsLine : List (List ℕ) → Files → Result Line WordsFault → (List ℕ → Option Outcome) → Ending → Now → Now → Type 0
MeetsLine words files line outcome ending old new = MeetsBy (SettlesLine words files line) outcome ending old new
