-- The result of a command line: its ending, the bytes that it writes to the output and to the errors, and how much
-- input it takes. `result_of`, at the end, is the whole of it. From docs/MANUAL.md, "Commands" and "What is written,
-- and the status"; what a command does with its files is this project's own choice.
use Rattle.std.specs.Prelude.{ℕ, ◌+◌, ◌-◌, List, [], ◌∷◌, ◌++◌, drop, length, get_or, Option, Some, None, Result, Ok, Err, nat_lt, if◌then◌else◌}
use Rattle.std.specs.Ordering.{nat_cmp}
use Rattle.std.specs.Cmp.Lexicographic.{slice_cmp}
use Rattle.std.specs.FinMap.{FinMap, get}
use Rattle.command_model.specs.declared.command_line.WordsFault.{WordsFault}
use Rattle.command_model.specs.declared.command_line.Line.{Line}
use Rattle.command_model.specs.declared.command_line.Line.TheVariants.{Run, Asm, Dis, Dbg, Load, Sweep as SweepLine, Threads as ThreadsLine}
use Rattle.command_model.specs.CommandLine.{line}
use Rattle.command_model.specs.Refusals.{words_line, image_line, listing_line, script_line, schedule_line, too_long_line}
use Rattle.command_model.specs.WorldReports.{world_report}
use Rattle.dbg_model.specs.Commands.{has_back}
use Rattle.dbg_model.specs.declared.script.Command.{Command}
use Rattle.dbg_model.specs.declared.script.ScriptFault.{ScriptFault}
use Rattle.dbg_model.specs.Script.{script_of_file}
use Rattle.dbg_model.specs.Session.{session}
use Rattle.emu_model.specs.declared.trap.Ended.{Ended}
use Rattle.emu_model.specs.declared.trap.Ended.TheVariants.{Exit as Exited, Trap as Trapped}
use Rattle.emu_model.specs.State.{Parts, State}
use Rattle.emu_run.specs.Reports.{report}
use Rattle.emu_run.specs.Run.{run}
use Rattle.emu_system.specs.declared.image.ElfFault.{ElfFault}
use Rattle.emu_system.specs.Image.{Image, elf}
use Rattle.emu_system.specs.Start.{opening, with_input}
use Rattle.guest_schedule.specs.declared.schedule.ScheduleFault.{ScheduleFault}
use Rattle.guest_schedule.specs.Schedule.{schedule_of_file}
use Rattle.asm_text.specs.Disassembly.{dis_of}
use Rattle.asm_text.specs.Statements.{statements}
use Rattle.listing_model.specs.declared.fault.ListingFault.{ListingFault}
use Rattle.listing_model.specs.Image.{image_of, image_of_bytes}
use Rattle.command_model.specs.Load.{load_pages, load_text}
use Rattle.command_model.specs.Listing.{listing}
use Rattle.command_model.specs.Sweep.{Sweep, fits, stream_limit, sweep_text, text_before}
use Rattle.emu_run.specs.declared.thread.WorldEnding.{WorldEnding}
use Rattle.emu_run.specs.declared.thread.WorldEnding.TheVariants as worlds
use Rattle.emu_run.specs.Threads.{with_input as world_with_input}
use Rattle.emu_run.specs.Threads.{WorldState, ending as world_ending, threads}
use Rattle.emu_run.specs.Worlds.{World, opened}
use Rattle.command_lines.specs.declared.ending.Ending.{Ending}
use Rattle.command_lines.specs.declared.ending.Ending.TheVariants.{Exit, Trap, Spent, Stuck, Done, WordsRefused, ImageRefused, ListingRefused, ScriptRefused, ScheduleRefused, TooLong}

pub record Outcome : Type 0 where
  pub ending : Ending
  pub output : List ℕ
  pub errors : List ℕ
  pub taken : ℕ

-- the files by their names
abbrev pub Files : Type 0
Files = FinMap (slice_cmp nat_cmp) (List ℕ)

-- files are read up to so many bytes
abbrev pub file_limit : ℕ
file_limit = 67108864

-- a refusal writes its line, and takes nothing
abbrev pub refusal : Ending → List ℕ → Outcome
refusal ending text = record { ending = ending; output = []; errors = text; taken = 0 }

-- a command that comes to its end with this output, and takes nothing
abbrev pub written : List ℕ → Outcome
written output = record { ending = Done; output = output; errors = []; taken = 0 }

-- ---- files

-- what is done with the bytes of a file, where they are no more than its limit
abbrev pub within_file_limit : List ℕ → (List ℕ → Option Outcome) → Option Outcome
within_file_limit file next =
    if nat_lt file_limit (length file) then Some (refusal (TooLong file_limit) (too_long_line file_limit))
    else next file

-- with the bytes of a file; none where there is no file of that name
abbrev pub with_file : Option (List ℕ) → (List ℕ → Option Outcome) → Option Outcome
with_file None next = None
with_file (Some file) next = within_file_limit file next

-- the bytes of the file that the word at a place names
abbrev pub file_at : List (List ℕ) → Files → ℕ → Option (List ℕ)
file_at words files place = get files (get_or words place [])

-- an image's refusal, or what is done with the image
abbrev pub with_image : Result Image ElfFault → (Image → Outcome) → Outcome
with_image (Ok image) next = next image
with_image (Err fault) next = refusal (ImageRefused fault) (image_line fault)

-- ---- run

-- how a machine that has stopped ended
abbrev pub ending_of : Parts → Option Ended → Ending
ending_of m None = Spent
ending_of m (Some (Exited code)) = Exit code
ending_of m (Some (Trapped t)) = Trap t m.core.pc

-- what the machine wrote and took until it stopped, and its report behind that
abbrev pub outcome_of_run : List ℕ → State → Outcome
outcome_of_run input st = record {
  ending = ending_of st.parts st.parts.ended;
  output = st.output;
  errors = st.errors ++ report st.parts;
  taken = length input - length st.input;
}

-- the run of an image with these arguments
abbrev pub outcome_of_image : List ℕ → List (List ℕ) → List ℕ → ℕ → ℕ → ℕ → Result Image ElfFault → Outcome
outcome_of_image file args input bits budget pages image =
    with_image image (λ i. outcome_of_run input (run (with_input (opening file i args bits pages) input) budget))

-- the arguments of a program: the word that names its file, and the words from a place on
abbrev pub program_arguments : List (List ℕ) → ℕ → ℕ → List (List ℕ)
program_arguments words file_place args_place = get_or words file_place [] ∷ drop args_place words

-- ---- asm

-- the file that a listing makes, or its refusal
abbrev pub outcome_of_listing : Result (List ℕ) ListingFault → Outcome
outcome_of_listing (Ok file) = written file
outcome_of_listing (Err fault) = refusal (ListingRefused fault) (listing_line fault)

-- ---- dis

-- an image is read with no fewer pages than any can have
abbrev pub most_pages : ℕ
most_pages = 4294967295

-- the words of an image
abbrev pub outcome_of_words : List ℕ → Result Image ElfFault → Outcome
outcome_of_words file image = with_image image (λ i. written (dis_of file i))

-- ---- a command that reads its input to the end before anything is run

-- the input is too long, or the output or the errors of a run of a sweep: the lines that stand before
abbrev pub too_long_stream : List ℕ → ℕ → Outcome
too_long_stream lines taken =
    record { ending = TooLong stream_limit; output = lines; errors = too_long_line stream_limit; taken = taken }

-- the input is read up to one byte more than the limit
abbrev pub over_whole : (List ℕ → Outcome) → List ℕ → Outcome
over_whole next input = if nat_lt stream_limit (length input) then too_long_stream [] (stream_limit + 1) else next input

-- ---- dbg

-- what the program and the session wrote, and what the program took
abbrev pub outcome_of_session : List ℕ → State → Outcome
outcome_of_session input st =
    record { ending = Done; output = st.output; errors = st.errors; taken = length input - length st.input }

-- the same of a session that goes back: it has read the whole input
abbrev pub outcome_of_session_back : List Command → ℕ → Parts → List ℕ → Outcome
outcome_of_session_back commands budget m input =
    record (outcome_of_session input (session commands budget (with_input m input))) { taken = length input }

-- where no command goes back, the program takes what it reads
abbrev pub outcome_of_commands : List ℕ → ℕ → Parts → List Command → Outcome
outcome_of_commands input budget m commands =
    if has_back commands then over_whole (outcome_of_session_back commands budget m) input
    else outcome_of_session input (session commands budget (with_input m input))

-- the session of a script over the opening state of an image, or the script's refusal
abbrev pub outcome_of_script : List ℕ → ℕ → Parts → Result (List Command) ScriptFault → Outcome
outcome_of_script input budget m (Ok commands) = outcome_of_commands input budget m commands
outcome_of_script input budget m (Err fault) = refusal (ScriptRefused fault) (script_line fault)

-- an image's refusal comes before the script's
abbrev pub outcome_of_debug : List ℕ → List ℕ → List (List ℕ) → List ℕ → ℕ → ℕ → ℕ → Result Image ElfFault → Outcome
outcome_of_debug file script args input bits budget pages image =
    with_image image (λ i. outcome_of_script input budget (opening file i args bits pages) (script_of_file script))

-- ---- load

-- the lines of an image's sixteen runs
abbrev pub outcome_of_loaded : List ℕ → Result Image ElfFault → Outcome
outcome_of_loaded file image = with_image image (λ i. written (load_text file i))

-- the file that the listing makes, or the listing's refusal
abbrev pub outcome_of_load : Result (List ℕ) ListingFault → Outcome
outcome_of_load (Ok file) = outcome_of_loaded file (elf file load_pages)
outcome_of_load (Err fault) = refusal (ListingRefused fault) (listing_line fault)

-- ---- sweep

-- the lines of all lengths
abbrev pub outcome_of_sweep : Sweep → Outcome
outcome_of_sweep s =
    if fits s then record { ending = Done; output = sweep_text s; errors = []; taken = length s.input }
    else too_long_stream (text_before s) (length s.input)

-- the input is read before the first run
abbrev pub outcome_of_lengths : List ℕ → List (List ℕ) → List ℕ → ℕ → ℕ → Image → Outcome
outcome_of_lengths file args input budget pages image =
    over_whole (λ i. outcome_of_sweep
    (record { file = file; image = image; args = args; pages = pages; budget = budget; input = i })) input

-- an image's refusal comes before the input is read
abbrev pub outcome_of_swept : List ℕ → List (List ℕ) → List ℕ → ℕ → ℕ → Result Image ElfFault → Outcome
outcome_of_swept file args input budget pages image =
    with_image image (outcome_of_lengths file args input budget pages)

-- ---- threads

-- how a world that has stopped ended
abbrev pub ending_of_world : WorldEnding → Ending
ending_of_world (worlds.Exit code) = Exit code
ending_of_world (worlds.Trap t pc) = Trap t pc
ending_of_world worlds.Spent = Spent
ending_of_world worlds.Stuck = Stuck

-- what the contexts wrote and took until their world stopped, and its report behind that
abbrev pub outcome_of_world : List ℕ → WorldState → Outcome
outcome_of_world input st = record {
  ending = ending_of_world (world_ending st.world st.world.ended);
  output = st.output;
  errors = st.errors ++ world_report st.world;
  taken = length input - length st.input;
}

-- the run of a world under a schedule, or the schedule's refusal
abbrev pub outcome_of_schedule : List ℕ → ℕ → World → Result (List (ℕ × ℕ)) ScheduleFault → Outcome
outcome_of_schedule input budget w (Ok turns) = outcome_of_world input (threads turns budget (world_with_input w input))
outcome_of_schedule input budget w (Err fault) = refusal (ScheduleRefused fault) (schedule_line fault)

-- an image's refusal comes before the schedule's
abbrev pub outcome_of_threads : List ℕ → List ℕ → List (List ℕ) → List ℕ → ℕ → ℕ → ℕ → Result Image ElfFault → Outcome
outcome_of_threads file schedule args input bits budget pages image =
    with_image image (λ i.
    outcome_of_schedule input budget (opened (opening file i args bits pages)) (schedule_of_file schedule))

-- ---- all commands

abbrev pub outcome_of_line : List (List ℕ) → Files → List ℕ → Result Line WordsFault → Option Outcome
outcome_of_line words files input (Err fault) = Some (refusal (WordsRefused fault) (words_line fault))
outcome_of_line words files input (Ok (Run file_place args_place bits budget pages)) =
    with_file (file_at words files file_place) (λ bytes.
    Some (outcome_of_image bytes (program_arguments words file_place args_place) input bits budget pages
    (elf bytes pages)))
outcome_of_line words files input (Ok (Asm listing_place)) =
    with_file (file_at words files listing_place) (λ bytes. Some (outcome_of_listing (image_of_bytes statements bytes)))
outcome_of_line words files input (Ok (Dis file_place)) =
    with_file (file_at words files file_place) (λ bytes. Some (outcome_of_words bytes (elf bytes most_pages)))
outcome_of_line words files input (Ok (Dbg file_place script_place args_place bits budget pages)) =
    with_file (file_at words files file_place) (λ bytes. with_file (file_at words files script_place) (λ text.
    Some (outcome_of_debug bytes text (program_arguments words file_place args_place) input bits budget pages
    (elf bytes pages))))
outcome_of_line words files input (Ok (Load number)) = Some (outcome_of_load (image_of statements (listing number)))
outcome_of_line words files input (Ok (SweepLine file_place args_place budget pages)) =
    with_file (file_at words files file_place) (λ bytes.
    Some (outcome_of_swept bytes (program_arguments words file_place args_place) input budget pages (elf bytes pages)))
outcome_of_line words files input (Ok (ThreadsLine file_place schedule_place args_place bits budget pages)) =
    with_file (file_at words files file_place) (λ bytes. with_file (file_at words files schedule_place) (λ text.
    Some (outcome_of_threads bytes text (program_arguments words file_place args_place) input bits budget pages
    (elf bytes pages))))

-- the result of a command line over these files and this input; none where it names a file that there isn't
abbrev pub result_of : List (List ℕ) → Files → List ℕ → Option Outcome
result_of words files input = outcome_of_line words files input (line words)
