-- The status of a process by how its command ended: this project's own choice, as docs/MANUAL.md has it under "What is
-- written, and the status"; that a signal is told by 128 and its number is the shells' way.
use Rattle.std.specs.Prelude.{ℕ, ◌+◌}
use Rattle.emu_model.specs.Traps.{signal_of}
use Rattle.command_lines.specs.declared.ending.Ending.{Ending}
use Rattle.command_lines.specs.declared.ending.Ending.TheVariants.{Exit, Trap, Spent, Stuck, Done, WordsRefused, ImageRefused, ListingRefused, ScriptRefused, ScheduleRefused, TooLong, FileFault, ReadFault, WriteFault, ErrorsFault, OutOfMemory}

abbrev pub status_of : Ending → ℕ
status_of (Exit code) = code
status_of (Trap trap pc) = 128 + signal_of trap.kind
status_of Done = 0
status_of Spent = 123
status_of Stuck = 119
status_of (WordsRefused fault) = 121
status_of (ImageRefused fault) = 122
status_of (ListingRefused fault) = 122
status_of (ScriptRefused fault) = 122
status_of (ScheduleRefused fault) = 122
status_of (TooLong limit) = 127
status_of FileFault = 126
status_of ReadFault = 124
status_of WriteFault = 125
status_of ErrorsFault = 125
status_of OutOfMemory = 120
