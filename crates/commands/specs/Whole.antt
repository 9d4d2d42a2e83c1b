-- What the sinks have where a stream broke off a command that takes its input as its program asks for it: all that the
-- program, and a session, had put by then. It is this project's own choice.
use Rattle.std.specs.Prelude.{◌≡◌, ◌≤◌, ◌<◌, ◌⊎◌, ℕ, true, List, ◌++◌, take, drop, Option, Some, Result, Ok, IfSome, MatchOption, MatchResult, is_none}
use Rattle.command_model.specs.declared.command_line.Line.{Line}
use Rattle.command_model.specs.declared.command_line.Line.TheVariants.{Run, Dbg, Threads}
use Rattle.command_model.specs.declared.command_line.WordsFault.{WordsFault}
use Rattle.command_lines.specs.Outcome.{Outcome, Files, file_at, program_arguments}
use Rattle.command_lines.specs.declared.ending.Ending.{Ending}
use Rattle.command_lines.specs.declared.ending.Ending.TheVariants.{ReadFault, WriteFault, ErrorsFault}
use Rattle.dbg_model.specs.Script.{script_of_file}
use Rattle.dbg_model.specs.Session.{session}
use Rattle.dbg_model.specs.declared.script.Command.{Command}
use Rattle.emu_model.specs.State.{Parts, State}
use Rattle.emu_run.specs.Run.{run, until_end}
use Rattle.emu_run.specs.Threads.{WorldState, threads}
use Rattle.emu_run.specs.Threads.{with_input as world_with_input}
use Rattle.emu_run.specs.Worlds.{World, context, parts_with, opened}
use Rattle.emu_system.specs.Image.{elf}
use Rattle.emu_system.specs.Start.{opening, with_input}
use Rattle.emu_system.specs.SystemCall.{Action, takes, puts, action, total}
use Rattle.guest_schedule.specs.Schedule.{schedule_of_file}
use Rattle.commands.specs.Promises.{output_of}

-- ---- where it was broken off

-- the call that wasn't done moves bytes of the stream that failed; of the input it may have taken some
abbrev pub Undone : Ending → Action → List ℕ → Option (List ℕ) → Type 0
Undone ReadFault (takes ranges) input left =
    (count : ℕ) × (few : count ≤ total ranges) × (left ≡ Some (drop count input))
Undone WriteFault (puts file ranges) input left = file ≡ 1
Undone ErrorsFault (puts file ranges) input left = file ≡ 2
Undone ending action input left = ⊥

-- the machine hasn't ended, and its registers name that call
abbrev pub AtCall : Ending → Option (List ℕ) → State → Type 0
AtCall ending left st = (is_none st.parts.ended ≡ true) × Undone ending (action st.parts) st.input left

-- behind so many steps of a run
abbrev pub InRun : Parts → ℕ → Ending → Option (List ℕ) → List ℕ → State → Type 0
InRun parts budget ending left input st =
    (n : ℕ) × (within : n < budget) × (st ≡ run (with_input parts input) n) × AtCall ending left st

-- behind the first commands of a session and so many steps, of which with those before fewer than the budget were
-- counted; or just behind these commands, where a line of the session couldn't be put
abbrev pub InSession : List Command → Parts → ℕ → Ending → Option (List ℕ) → List ℕ → State → Type 0
InSession commands parts budget ending left input st =
    (first : ℕ) × (n : ℕ) × (st ≡ until_end (session (take first commands) budget (with_input parts input)) n)
    × (((within : st.parts.steps < budget) × AtCall ending left st) ⊎ ((n ≡ 0) × (ending ≡ WriteFault)))

-- the state of a world, as context k has it
abbrev pub seen_by : ℕ → WorldState → State
seen_by k st =
    let parts : Parts = parts_with st.world (context st.world k) in
    record { parts = parts; input = st.input; output = st.output; errors = st.errors }

-- behind so many steps of a world, as one of its contexts has it
abbrev pub InWorld : List (ℕ × ℕ) → World → ℕ → Ending → Option (List ℕ) → List ℕ → State → Type 0
InWorld turns world budget ending left input st =
    (n : ℕ) × (within : n < budget) × (k : ℕ) × (st ≡ seen_by k (threads turns n (world_with_input world input)))
    × AtCall ending left st

-- of a line over these files
abbrev pub InLine : List (List ℕ) → Files → Result Line WordsFault → Ending → Option (List ℕ) → List ℕ → State → Type 0
InLine words files (Ok (Run file args bits budget pages)) ending left input st =
    MatchOption (file_at words files file) ⊥ (λ bytes. MatchResult (elf bytes pages) (λ image.
    InRun (opening bytes image (program_arguments words file args) bits pages) budget ending left input st) (λ _. ⊥))
InLine words files (Ok (Dbg file script args bits budget pages)) ending left input st =
    MatchOption (file_at words files file) ⊥ (λ bytes. MatchOption (file_at words files script) ⊥ (λ text.
    MatchResult (elf bytes pages) (λ image. MatchResult (script_of_file text) (λ commands.
    InSession commands (opening bytes image (program_arguments words file args) bits pages) budget ending left input st)
    (λ _. ⊥)) (λ _. ⊥)))
InLine words files (Ok (Threads file schedule args bits budget pages)) ending left input st =
    MatchOption (file_at words files file) ⊥ (λ bytes. MatchOption (file_at words files schedule) ⊥ (λ text.
    MatchResult (elf bytes pages) (λ image. MatchResult (schedule_of_file text) (λ turns.
    InWorld turns (opened (opening bytes image (program_arguments words file args) bits pages)) budget ending left input
    st) (λ _. ⊥)) (λ _. ⊥)))
InLine words files line ending left input st = ⊥

-- ---- what the sinks have

-- a sink gained just what had been put to it in the state where the command was broken off
abbrev pub GainedAt : (State → Type 0) → (State → List ℕ) → Option (List ℕ) → Option (List ℕ) → Type 0
GainedAt at put old new = (st : State) × (is : at st) × IfSome old (λ had. new ≡ Some (had ++ put st))

-- Where the input told its bytes: `GainedAt` holds of the output where the input or the errors failed, and of the
-- errors where the input or the output did. The errors may fail at the text behind the end, too: then the output has
-- all of the result.
abbrev pub HasAllPut : (List ℕ → State → Type 0) → (List ℕ → Option Outcome) → Ending → Option (List ℕ) →
    Option (List ℕ) → Option (List ℕ) → Option (List ℕ) → Option (List ℕ) → Type 0
HasAllPut at outcome ending told out out_new err err_new = IfSome told (λ bytes.
    ((ending ≡ ReadFault) ⊎ (ending ≡ ErrorsFault)
    → GainedAt (at bytes) (λ st. st.output) out out_new
    ⊎ ((ending ≡ ErrorsFault) × IfSome out (λ had. out_new ≡ Some (had ++ output_of (outcome bytes)))))
    × ((ending ≡ ReadFault) ⊎ (ending ≡ WriteFault) → GainedAt (at bytes) (λ st. st.errors) err err_new))
