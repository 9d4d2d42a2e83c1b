-- Where a run stopped: by an exit, by a trap, since its steps are spent, or since none of its threads is ready.
use Rattle.std.specs.Prelude.{◌≡◌, ℕ, Bool, true, false, List, [], Option, Some, None, IfSome, MatchOption, Result, Ok, Err}
use Rattle.std.specs.Prelude.{if◌then◌else◌}
use Rattle.command_lines.specs.Outcome.{Files, file_at, program_arguments}
use Rattle.command_lines.specs.declared.ending.Ending.{Ending}
use Rattle.commands.specs.Promises.{settled_ending}
use Rattle.command_model.specs.WorldReports.{world_report}
use Rattle.command_model.specs.declared.command_line.Line.{Line}
use Rattle.command_model.specs.declared.command_line.Line.TheVariants.{Run, Asm, Dis, Dbg, Load, Sweep, Threads}
use Rattle.command_model.specs.declared.command_line.WordsFault.{WordsFault}
use Rattle.emu_model.specs.State.{Parts}
use Rattle.emu_run.specs.Reports.{report}
use Rattle.emu_run.specs.Run.{run}
use Rattle.emu_run.specs.Threads.{ending, threads}
use Rattle.emu_run.specs.Threads.{with_input as world_with_input}
use Rattle.emu_run.specs.Worlds.{World, context, parts_with, opened}
use Rattle.emu_run.specs.declared.thread.WorldEnding.{WorldEnding}
use Rattle.emu_run.specs.declared.thread.WorldEnding.TheVariants.{Exit, Trap, Spent, Stuck}
use Rattle.emu_system.specs.Gained.{Gains}
use Rattle.emu_system.specs.Image.{Image, elf}
use Rattle.emu_system.specs.Start.{opening, with_input}
use Rattle.emu_system.specs.declared.image.ElfFault.{ElfFault}
use Rattle.emu_system.specs.declared.image.Segment.{Segment}
use Rattle.guest_schedule.specs.Schedule.{schedule_of_file}
use Rattle.guest_schedule.specs.declared.schedule.ScheduleFault.{ScheduleFault}
use Rattle.tool_run.specs.Tells.{IsExplained, SeenStop}

-- the end of a run
abbrev pub HasStopped : Ending → Type 0
HasStopped ending = settled_ending ending ≡ None

-- ---- what is seen of a stop

-- of a machine that ran alone
abbrev pub alone_stop : List ℕ → List Segment → Parts → SeenStop
alone_stop file segments m =
    record { file = file; segments = segments; parts = m; alone = true; stuck = false; report = report m }

abbrev pub is_stuck : WorldEnding → Bool
is_stuck (Exit code) = false
is_stuck (Trap t pc) = false
is_stuck Spent = false
is_stuck Stuck = true

-- of a world, by the machine of the thread that took the last step
abbrev pub world_stop : List ℕ → List Segment → World → SeenStop
world_stop file segments w = record {
  file = file;
  segments = segments;
  parts = parts_with w (context w w.last);
  alone = false;
  stuck = is_stuck (ending w w.ended);
  report = world_report w;
}

-- ---- what is told of it

-- the report came behind what a sink held, where it is wanted, else nothing; where it couldn't be put whole, first
-- bytes
abbrev pub GainsReport : Bool → Bool → Option (List ℕ) → Option (List ℕ) → List ℕ → Type 0
GainsReport wanted failed old new text = IfSome old (λ had. Gains failed new had (if wanted then text else []))

pub record IsTold (said : List ℕ) (wanted failed : Bool) (old new : Option (List ℕ)) (stop : SeenStop) : Type 0 where
  pub explained : IsExplained stop said
  pub report : GainsReport wanted failed old new stop.report

-- ---- P holds of the stop of a run, and where none began, nothing is said

abbrev pub StopsWorld : (SeenStop → Type 0) → List ℕ → List Segment → ℕ → World → List ℕ
    → Result (List (ℕ × ℕ)) ScheduleFault → Type 0
StopsWorld P file segments budget w input (Ok turns) =
    P (world_stop file segments (threads turns budget (world_with_input w input)).world)
StopsWorld P file segments budget w input (Err fault) = Unit {0}

-- of a machine, alone or under the schedule of a text, where a second file is named
abbrev pub StopsFrom : (SeenStop → Type 0) → Option ℕ → List ℕ → List ℕ → List Segment → ℕ → Parts → List ℕ → Type 0
StopsFrom P None text file segments budget m input =
    P (alone_stop file segments (run (with_input m input) budget).parts)
StopsFrom P (Some place) text file segments budget m input =
    StopsWorld P file segments budget (opened m) input (schedule_of_file text)

abbrev pub StopsImage : (SeenStop → Type 0) → Option ℕ → List ℕ → List ℕ → List (List ℕ) → List ℕ → ℕ → ℕ → ℕ
    → Result Image ElfFault → Type 0
StopsImage P second text file args input bits budget pages (Ok image) =
    StopsFrom P second text file image.segments budget (opening file image args bits pages) input
StopsImage P second text file args input bits budget pages (Err fault) = Unit {0}

abbrev pub StopsSecond : List (List ℕ) → Files → Option ℕ → (List ℕ → Type 0) → Type 0
StopsSecond words files None next = next []
StopsSecond words files (Some place) next = MatchOption (file_at words files place) (Unit {0}) next

abbrev pub StopsProgram : (SeenStop → Type 0) → List (List ℕ) → Files → List ℕ → ℕ → Option ℕ → ℕ → ℕ → ℕ → ℕ → Type 0
StopsProgram P words files input file second args bits budget pages =
    MatchOption (file_at words files file) (Unit {0}) (λ bytes. StopsSecond words files second (λ text.
    StopsImage P second text bytes (program_arguments words file args) input bits budget pages (elf bytes pages)))

-- of a line that runs a program
abbrev pub StopsLine : (SeenStop → Type 0) → List (List ℕ) → Files → List ℕ → Result Line WordsFault → Type 0
StopsLine P words files input (Ok (Run file args bits budget pages)) =
    StopsProgram P words files input file None args bits budget pages
StopsLine P words files input (Ok (Asm listing)) = Unit {0}
StopsLine P words files input (Ok (Dis file)) = Unit {0}
StopsLine P words files input (Ok (Dbg file script args bits budget pages)) = Unit {0}
StopsLine P words files input (Ok (Load number)) = Unit {0}
StopsLine P words files input (Ok (Sweep file args budget pages)) = Unit {0}
StopsLine P words files input (Ok (Threads file schedule args bits budget pages)) =
    StopsProgram P words files input file (Some schedule) args bits budget pages
StopsLine P words files input (Err fault) = Unit {0}
