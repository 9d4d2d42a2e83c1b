-- What a command line promises beside its outcome: which lines are refused, for which input an outcome counts, how a
-- line may end, and how it ends without its files. It is this project's own choice what to promise.
use Rattle.std.specs.Prelude.{◌≡◌, ◌⊎◌, ℕ, Bool, true, false, ◌||◌, nat_eq, List, [], get_or, Option, Some, None, is_some, Result, Ok, Err, MatchBool, MatchOption, MatchResult}
use Rattle.std.specs.FinMap.{get}
use Rattle.std.specs.Option.{option_map_or}
use Rattle.io_gate.specs.Images.{MissesNamed}
use Rattle.command_lines.specs.Places.{file_named}
use Rattle.command_model.specs.declared.command_line.Line.{Line}
use Rattle.command_model.specs.declared.command_line.Line.TheVariants.{Run, Asm, Dis, Dbg, Load, Sweep, Threads}
use Rattle.command_model.specs.declared.command_line.WordsFault.{WordsFault}
use Rattle.dbg_model.specs.Commands.{has_back}
use Rattle.dbg_model.specs.Script.{script_of_file}
use Rattle.dbg_model.specs.declared.script.Command.{Command}
use Rattle.dbg_model.specs.declared.script.ScriptFault.{ScriptFault}
use Rattle.command_model.specs.Sweep.{stream_limit}
use Rattle.command_lines.specs.Outcome.{Outcome, Files, file_at, file_limit}
use Rattle.command_lines.specs.declared.ending.Ending.{Ending}
use Rattle.command_lines.specs.declared.ending.Ending.TheVariants.{Exit, Trap, Spent, Stuck, Done, WordsRefused, ImageRefused, ListingRefused, ScriptRefused, ScheduleRefused, TooLong, FileFault, ReadFault, WriteFault, ErrorsFault, OutOfMemory}
use Rattle.commands.specs.Promises.{is_failure, settles_by, CountsFor}

-- the line runs a machine over the input
abbrev pub takes_input : Result Line WordsFault → Bool
takes_input (Ok (Run file args bits budget pages)) = true
takes_input (Ok (Asm listing)) = false
takes_input (Ok (Dis file)) = false
takes_input (Ok (Dbg file script args bits budget pages)) = true
takes_input (Ok (Load number)) = false
takes_input (Ok (Sweep file args budget pages)) = true
takes_input (Ok (Threads file schedule args bits budget pages)) = true
takes_input (Err fault) = false

-- the line names a file
abbrev pub names_file : Result Line WordsFault → Bool
names_file (Ok l) = is_some (file_named [] l)
names_file (Err fault) = false

-- the line runs the program of a file at each length
abbrev pub sweeps : Result Line WordsFault → Bool
sweeps (Ok (Run file args bits budget pages)) = false
sweeps (Ok (Asm listing)) = false
sweeps (Ok (Dis file)) = false
sweeps (Ok (Dbg file script args bits budget pages)) = false
sweeps (Ok (Load number)) = false
sweeps (Ok (Sweep file args budget pages)) = true
sweeps (Ok (Threads file schedule args bits budget pages)) = false
sweeps (Err fault) = false

-- a script goes back, by what it says, by its text and by the file that has it
abbrev pub script_goes_back : Result (List Command) ScriptFault → Bool
script_goes_back (Ok commands) = has_back commands
script_goes_back (Err fault) = false

abbrev pub text_goes_back : List ℕ → Bool
text_goes_back text = script_goes_back (script_of_file text)

abbrev pub file_goes_back : Option (List ℕ) → Bool
file_goes_back file = option_map_or text_goes_back file false

-- the input is read to its end before anything is run: by a sweep, and by a session that goes back
abbrev pub reads_input_first : List (List ℕ) → Files → Result Line WordsFault → Bool
reads_input_first words files (Ok (Run file args bits budget pages)) = false
reads_input_first words files (Ok (Asm listing)) = false
reads_input_first words files (Ok (Dis file)) = false
reads_input_first words files (Ok (Dbg file script args bits budget pages)) =
    file_goes_back (file_at words files script)
reads_input_first words files (Ok (Load number)) = false
reads_input_first words files (Ok (Sweep file args budget pages)) = true
reads_input_first words files (Ok (Threads file schedule args bits budget pages)) = false
reads_input_first words files (Err fault) = false

-- what the ending of the line and its outcome share whatever the input has
abbrev pub SettlesLine : List (List ℕ) → Files → Result Line WordsFault → Option Outcome → Ending → Type 0
SettlesLine words files line = settles_by (reads_input_first words files line)

-- the files are told, and the script of this name, if there is one, goes only forward
abbrev pub IsForward : Option Files → List ℕ → Type 0
IsForward None name = ⊥
IsForward (Some files) name = file_goes_back (get files name) ≡ false

-- which lines are promised to take nothing where memory is wanting: all but a sweep, and of the sessions those whose
-- files are told and whose script goes only forward
abbrev pub TakesNothingEarly : List (List ℕ) → Result Line WordsFault → Option Files → Type 0
TakesNothingEarly words (Ok (Run file args bits budget pages)) told = Unit {0}
TakesNothingEarly words (Ok (Asm listing)) told = Unit {0}
TakesNothingEarly words (Ok (Dis file)) told = Unit {0}
TakesNothingEarly words (Ok (Dbg file script args bits budget pages)) told = IsForward told (get_or words script [])
TakesNothingEarly words (Ok (Load number)) told = Unit {0}
TakesNothingEarly words (Ok (Sweep file args budget pages)) told = ⊥
TakesNothingEarly words (Ok (Threads file schedule args bits budget pages)) told = Unit {0}
TakesNothingEarly words (Err fault) told = Unit {0}

-- the files are told, and the script of this name goes back
abbrev pub IsBackward : Option Files → List ℕ → Type 0
IsBackward None name = ⊥
IsBackward (Some files) name = file_goes_back (get files name) ≡ true

-- the input is read to its end before anything is written: by a sweep, and by a session where the files are told and
-- its script goes back
abbrev pub ReadsInputFirst : List (List ℕ) → Result Line WordsFault → Option Files → Type 0
ReadsInputFirst words (Ok (Run file args bits budget pages)) told = ⊥
ReadsInputFirst words (Ok (Asm listing)) told = ⊥
ReadsInputFirst words (Ok (Dis file)) told = ⊥
ReadsInputFirst words (Ok (Dbg file script args bits budget pages)) told = IsBackward told (get_or words script [])
ReadsInputFirst words (Ok (Load number)) told = ⊥
ReadsInputFirst words (Ok (Sweep file args budget pages)) told = Unit {0}
ReadsInputFirst words (Ok (Threads file schedule args bits budget pages)) told = ⊥
ReadsInputFirst words (Err fault) told = ⊥

-- the outcome of a line for these bytes counts: the line takes no input, or the input told them, or the outcome rests
-- on none
abbrev pub IsOutcome : Result Line WordsFault → Option (List ℕ) → Option Outcome → List ℕ → Type 0
IsOutcome line told outcome bytes = MatchBool (takes_input line) (CountsFor told outcome bytes) (Unit {0})

-- a refused line ends with its refusal, or with a fault of the errors; no other line ends with the refusal of a line
abbrev pub RefusesLine : Result Line WordsFault → Ending → Type 0
RefusesLine line ending =
    MatchResult line (λ _. (fault : WordsFault) → ending ≡ WordsRefused fault → ⊥)
    (λ fault. (ending ≡ WordsRefused fault) ⊎ (ending ≡ ErrorsFault))

-- ---- how a line may end

-- how any line may end that names files: by a failure, or by a file that is longer than the limit
abbrev pub stops_any : Ending → Bool
stops_any (TooLong limit) = nat_eq limit file_limit
stops_any ending = is_failure ending

-- the same of a line that takes no input
abbrev pub stops_unread : Ending → Bool
stops_unread ReadFault = false
stops_unread ending = stops_any ending

abbrev pub ends_run : Ending → Bool
ends_run (Exit code) = true
ends_run (Trap trap pc) = true
ends_run Spent = true
ends_run (ImageRefused fault) = true
ends_run ending = stops_any ending

abbrev pub ends_asm : Ending → Bool
ends_asm Done = true
ends_asm (ListingRefused fault) = true
ends_asm ending = stops_unread ending

abbrev pub ends_dis : Ending → Bool
ends_dis Done = true
ends_dis (ImageRefused fault) = true
ends_dis ending = stops_unread ending

-- the input of a session that goes back may be too long
abbrev pub ends_dbg : Ending → Bool
ends_dbg Done = true
ends_dbg (ImageRefused fault) = true
ends_dbg (ScriptRefused fault) = true
ends_dbg (TooLong limit) = nat_eq limit stream_limit || stops_any (TooLong limit)
ends_dbg ending = stops_any ending

abbrev pub ends_threads : Ending → Bool
ends_threads Stuck = true
ends_threads (ScheduleRefused fault) = true
ends_threads ending = ends_run ending

-- no file is read, and no input
abbrev pub ends_load : Ending → Bool
ends_load Done = true
ends_load (ImageRefused fault) = true
ends_load (ListingRefused fault) = true
ends_load WriteFault = true
ends_load ErrorsFault = true
ends_load OutOfMemory = true
ends_load ending = false

-- the input, or the output or the errors of a run, may be too long
abbrev pub ends_sweep : Ending → Bool
ends_sweep Done = true
ends_sweep (ImageRefused fault) = true
ends_sweep (TooLong limit) = nat_eq limit stream_limit || stops_any (TooLong limit)
ends_sweep ending = stops_any ending

-- whether a line may end so, whatever is in its files
abbrev pub may_end : Line → Ending → Bool
may_end (Run file args bits budget pages) ending = ends_run ending
may_end (Asm listing) ending = ends_asm ending
may_end (Dis file) ending = ends_dis ending
may_end (Dbg file script args bits budget pages) ending = ends_dbg ending
may_end (Load number) ending = ends_load ending
may_end (Sweep file args budget pages) ending = ends_sweep ending
may_end (Threads file schedule args bits budget pages) ending = ends_threads ending

-- ---- files that aren't there

-- the files are told, and the first one that the line names isn't there
abbrev pub MissesFirst : List (List ℕ) → Result Line WordsFault → Option Files → Type 0
MissesFirst words (Ok l) told = MatchOption (file_named words l) ⊥ (MissesNamed told)
MissesFirst words (Err fault) told = ⊥

-- a line that names a file that isn't there ends with a fault of the files; of `dbg` and `threads`, memory may be
-- wanting for the program's file before the script or the schedule is looked for
abbrev pub EndsMissing : Result Line WordsFault → Ending → Type 0
EndsMissing (Ok (Dbg file script args bits budget pages)) ending = (ending ≡ FileFault) ⊎ (ending ≡ OutOfMemory)
EndsMissing (Ok (Threads file schedule args bits budget pages)) ending = (ending ≡ FileFault) ⊎ (ending ≡ OutOfMemory)
EndsMissing line ending = ending ≡ FileFault
