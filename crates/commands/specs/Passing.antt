-- Where parts of a line may be broken off, by the files that they are given.
use Rattle.std.specs.Prelude.{ℕ, List, Option, Some, None, Result, MatchOption, MatchResult}
use Rattle.dbg_model.specs.Script.{script_of_file}
use Rattle.emu_model.specs.State.{Parts, State}
use Rattle.emu_run.specs.Worlds.{opened}
use Rattle.emu_system.specs.Image.{Image, elf}
use Rattle.guest_schedule.specs.Schedule.{schedule_of_file}
use Rattle.command_lines.specs.Outcome.{Files, file_at}
use Rattle.command_lines.specs.declared.ending.Ending.{Ending}
use Rattle.commands.specs.Programs.{opening_of}
use Rattle.commands.specs.Whole.{InRun, InSession, InWorld}
use Rattle.commands.specs.declared.program.Program.{Program}
use Rattle.commands.specs.declared.two_files.SecondFile.{SecondFile}
use Rattle.commands.specs.declared.two_files.SecondFile.TheVariants.{Script, Schedule}

-- a run over the bytes of the program's file
abbrev pub InFile : List ℕ → List (List ℕ) → Program → Ending → Option (List ℕ) → List ℕ → State → Type 0
InFile bytes words p ending left input st = MatchResult (elf bytes p.pages) (λ image. InRun (opening_of bytes image words p) p.budget ending left input st) (λ _. ⊥)

-- the session of a script's text over a machine, and a world under a schedule's text
abbrev pub InText : List ℕ → Parts → ℕ → Ending → Option (List ℕ) → List ℕ → State → Type 0
InText text m budget ending left input st = MatchResult (script_of_file text) (λ commands. InSession commands m budget ending left input st) (λ _. ⊥)

abbrev pub InSchedule : List ℕ → Parts → ℕ → Ending → Option (List ℕ) → List ℕ → State → Type 0
InSchedule text m budget ending left input st = MatchResult (schedule_of_file text) (λ turns. InWorld turns (opened m) budget ending left input st) (λ _. ⊥)

abbrev pub InSecond : SecondFile → List ℕ → Parts → ℕ → Ending → Option (List ℕ) → List ℕ → State → Type 0
InSecond Script = InText
InSecond Schedule = InSchedule

-- the same over the bytes of the program's file
abbrev pub InImage : SecondFile → List ℕ → List (List ℕ) → Program → List ℕ → Ending → Option (List ℕ) → List ℕ → State → Type 0
InImage second bytes words p text ending left input st = MatchResult (elf bytes p.pages) (λ image. InSecond second text (opening_of bytes image words p) p.budget ending left input st) (λ _. ⊥)

-- the second file is the one that the word at a place names
abbrev pub InNamed : SecondFile → List ℕ → List (List ℕ) → Program → ℕ → Files → Ending → Option (List ℕ) → List ℕ → State → Type 0
InNamed second bytes words p place files ending left input st = MatchOption (file_at words files place) ⊥ (λ text. InImage second bytes words p text ending left input st)

-- both files are those that words name
abbrev pub InBoth : SecondFile → List (List ℕ) → Program → ℕ → Files → Ending → Option (List ℕ) → List ℕ → State → Type 0
InBoth second words p place files ending left input st = MatchOption (file_at words files p.file) ⊥ (λ bytes. InNamed second bytes words p place files ending left input st)
