-- What a line of `svemu` comes to without what it puts on the errors at its end: the report of a run, or the line of a
-- refused image, schedule or line, or of a file that is too long. So the errors of a run are the bytes that the program
-- itself writes.
use Rattle.std.specs.Prelude.{ℕ, List, [], length, Option, Some, None, Result, Ok, Err, nat_lt, if◌then◌else◌}
use Rattle.command_lines.specs.Outcome.{Outcome, Files, file_at, file_limit, outcome_of_line, outcome_of_run}
use Rattle.command_lines.specs.Outcome.{outcome_of_world, program_arguments, refusal}
use Rattle.command_lines.specs.declared.ending.Ending.TheVariants.{ImageRefused, ScheduleRefused, TooLong, WordsRefused}
use Rattle.command_model.specs.CommandLine.{line}
use Rattle.command_model.specs.declared.command_line.Line.{Line}
use Rattle.command_model.specs.declared.command_line.Line.TheVariants.{Run, Asm, Dis, Dbg, Load, Sweep, Threads}
use Rattle.command_model.specs.declared.command_line.WordsFault.{WordsFault}
use Rattle.emu_model.specs.State.{Parts, State}
use Rattle.emu_run.specs.Run.{run}
use Rattle.emu_run.specs.Threads.{WorldState, threads}
use Rattle.emu_run.specs.Threads.{with_input as world_with_input}
use Rattle.emu_run.specs.Worlds.{World, opened}
use Rattle.emu_system.specs.Image.{Image, elf}
use Rattle.emu_system.specs.Start.{opening, with_input}
use Rattle.emu_system.specs.declared.image.ElfFault.{ElfFault}
use Rattle.guest_schedule.specs.Schedule.{schedule_of_file}
use Rattle.guest_schedule.specs.declared.schedule.ScheduleFault.{ScheduleFault}

-- a run until the machine stopped
abbrev pub unreported_run : List ℕ → State → Outcome
unreported_run input st = record (outcome_of_run input st) { errors = st.errors }

-- the run of a world until it stopped
abbrev pub unreported_world : List ℕ → WorldState → Outcome
unreported_world input st = record (outcome_of_world input st) { errors = st.errors }

-- the run of a world under a schedule, or the schedule's refusal
abbrev pub unreported_schedule : List ℕ → ℕ → World → Result (List (ℕ × ℕ)) ScheduleFault → Outcome
unreported_schedule input budget w (Ok turns) =
    unreported_world input (threads turns budget (world_with_input w input))
unreported_schedule input budget w (Err fault) = refusal (ScheduleRefused fault) []

-- the run of a machine, alone or under the schedule of a text, where a second file is named
abbrev pub unreported_from : Option ℕ → List ℕ → List ℕ → ℕ → Parts → Outcome
unreported_from None text input budget m = unreported_run input (run (with_input m input) budget)
unreported_from (Some place) text input budget m = unreported_schedule input budget (opened m) (schedule_of_file text)

-- the run of an image with these arguments, or its refusal
abbrev pub unreported_image : Option ℕ → List ℕ → List ℕ → List (List ℕ) → List ℕ → ℕ → ℕ → ℕ
    → Result Image ElfFault → Outcome
unreported_image second text file args input bits budget pages (Ok image) =
    unreported_from second text input budget (opening file image args bits pages)
unreported_image second text file args input bits budget pages (Err fault) = refusal (ImageRefused fault) []

-- ---- files

-- with the bytes of a file, where it isn't too long
abbrev pub with_read_bytes : List ℕ → (List ℕ → Option Outcome) → Option Outcome
with_read_bytes file next =
    if nat_lt file_limit (length file) then Some (refusal (TooLong file_limit) []) else next file

-- with the bytes of a file; none where there is no file of that name
abbrev pub with_read : Option (List ℕ) → (List ℕ → Option Outcome) → Option Outcome
with_read None next = None
with_read (Some file) next = with_read_bytes file next

-- with those of a second file, if there is one
abbrev pub with_second : List (List ℕ) → Files → Option ℕ → (List ℕ → Option Outcome) → Option Outcome
with_second words files None next = next []
with_second words files (Some place) next = with_read (file_at words files place) next

-- the run of the program in a file
abbrev pub unreported_program : List (List ℕ) → Files → List ℕ → ℕ → Option ℕ → ℕ → ℕ → ℕ → ℕ → Option Outcome
unreported_program words files input file second args bits budget pages =
    with_read (file_at words files file) (λ bytes. with_second words files second (λ text. Some
    (unreported_image second text bytes (program_arguments words file args) input bits budget pages (elf bytes pages))))

-- any line: that of another command than `run` and `threads` is as it is
abbrev pub unreported_line : List (List ℕ) → Files → List ℕ → Result Line WordsFault → Option Outcome
unreported_line words files input (Err fault) = Some (refusal (WordsRefused fault) [])
unreported_line words files input (Ok (Run file args bits budget pages)) =
    unreported_program words files input file None args bits budget pages
unreported_line words files input (Ok (Asm listing)) =
    outcome_of_line words files input (Ok (Asm listing))
unreported_line words files input (Ok (Dis file)) =
    outcome_of_line words files input (Ok (Dis file))
unreported_line words files input (Ok (Dbg file script args bits budget pages)) =
    outcome_of_line words files input (Ok (Dbg file script args bits budget pages))
unreported_line words files input (Ok (Load number)) =
    outcome_of_line words files input (Ok (Load number))
unreported_line words files input (Ok (Sweep file args budget pages)) =
    outcome_of_line words files input (Ok (Sweep file args budget pages))
unreported_line words files input (Ok (Threads file schedule args bits budget pages)) =
    unreported_program words files input file (Some schedule) args bits budget pages

abbrev pub unreported : List (List ℕ) → Files → List ℕ → Option Outcome
unreported words files input = unreported_line words files input (line words)

-- the same of an accepted line
abbrev pub unreported_over : List (List ℕ) → Line → Files → List ℕ → Option Outcome
unreported_over words l files input = unreported_line words files input (Ok l)
