-- The second file of a line, a script or a schedule, and what comes of it over a program.
use Rattle.std.specs.Prelude.{ℕ, Bool, false, List, Option, Some, Result}
use Rattle.dbg_model.specs.Script.{script_of_file}
use Rattle.emu_model.specs.State.{Parts}
use Rattle.command_lines.specs.Outcome.{Outcome, Files, file_at, outcome_of_debug, outcome_of_schedule, outcome_of_script, outcome_of_threads, with_file}
use Rattle.command_lines.specs.declared.ending.Ending.{Ending}
use Rattle.emu_system.specs.Image.{Image, elf}
use Rattle.emu_system.specs.declared.image.ElfFault.{ElfFault}
use Rattle.guest_schedule.specs.Schedule.{schedule_of_file}
use Rattle.emu_run.specs.Worlds.{opened}
use Rattle.commands.specs.declared.program.Program.{Program}
use Rattle.commands.specs.declared.two_files.SecondFile.{SecondFile}
use Rattle.commands.specs.declared.two_files.SecondFile.TheVariants.{Script, Schedule}
use Rattle.commands.specs.Lines.{ends_dbg, ends_threads, file_goes_back, text_goes_back, IsBackward, IsForward}
use Rattle.commands.specs.Programs.{arguments_of}

-- over the opening state of the program
abbrev pub outcome_from : SecondFile → List ℕ → List ℕ → ℕ → Parts → Outcome
outcome_from Script text input budget m = outcome_of_script input budget m (script_of_file text)
outcome_from Schedule text input budget m = outcome_of_schedule input budget (opened m) (schedule_of_file text)

-- over the bytes of the program's file, and its image or why there is none
abbrev pub outcome_by : SecondFile → List ℕ → List ℕ → List (List ℕ) → List ℕ → Program → Result Image ElfFault → Outcome
outcome_by Script bytes text args input p r = outcome_of_debug bytes text args input p.length p.budget p.pages r
outcome_by Schedule bytes text args input p r = outcome_of_threads bytes text args input p.length p.budget p.pages r

-- the second file is the one that the word at a place names
abbrev pub outcome_with : SecondFile → List ℕ → List (List ℕ) → Program → ℕ → Files → List ℕ → Option Outcome
outcome_with second bytes words p place files input =
    with_file (file_at words files place) (λ text. Some (outcome_by second bytes text (arguments_of words p) input p (elf bytes p.pages)))

-- both are those that words name
abbrev pub outcome_of_both : SecondFile → List (List ℕ) → Program → ℕ → Files → List ℕ → Option Outcome
outcome_of_both second words p place files input = with_file (file_at words files p.file) (λ bytes. outcome_with second bytes words p place files input)

-- the input is read to its end before anything is run
abbrev pub text_reads_first : SecondFile → List ℕ → Bool
text_reads_first Script text = text_goes_back text
text_reads_first Schedule text = false

abbrev pub file_reads_first : SecondFile → Option (List ℕ) → Bool
file_reads_first Script text = file_goes_back text
file_reads_first Schedule text = false

-- the files are told, and the input isn't read so
abbrev pub TakesLater : SecondFile → Option Files → List ℕ → Type 0
TakesLater Script told name = IsForward told name
TakesLater Schedule told name = Unit {0}

-- the files are told, and the input is read so
abbrev pub TakesBefore : SecondFile → Option Files → List ℕ → Type 0
TakesBefore Script told name = IsBackward told name
TakesBefore Schedule told name = ⊥

-- how such a line may end
abbrev pub ends_by : SecondFile → Ending → Bool
ends_by Script ending = ends_dbg ending
ends_by Schedule ending = ends_threads ending
