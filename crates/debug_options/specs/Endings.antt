-- How a session that isn't begun ends.
use Rattle.std.specs.Prelude.{Bool, true, false, nat_eq}
use Rattle.command_lines.specs.Outcome.{file_limit}
use Rattle.command_lines.specs.declared.ending.Ending.{Ending}
use Rattle.command_lines.specs.declared.ending.Ending.TheVariants.{Exit, Trap, Spent, Stuck, Done, WordsRefused}
use Rattle.command_lines.specs.declared.ending.Ending.TheVariants.{ImageRefused, ListingRefused, ScriptRefused}
use Rattle.command_lines.specs.declared.ending.Ending.TheVariants.{ScheduleRefused, TooLong, FileFault, ReadFault}
use Rattle.command_lines.specs.declared.ending.Ending.TheVariants.{WriteFault, ErrorsFault, OutOfMemory}

-- the words, a file or the image are refused, a file can't be read, or the line that tells of these can't be put:
-- neither that all was written, nor that the input or the output failed
abbrev pub is_refused : Ending → Bool
is_refused (Exit code) = false
is_refused (Trap trap pc) = false
is_refused Spent = false
is_refused Stuck = false
is_refused Done = false
is_refused (WordsRefused fault) = true
is_refused (ImageRefused fault) = true
is_refused (ListingRefused fault) = false
is_refused (ScriptRefused fault) = false
is_refused (ScheduleRefused fault) = false
is_refused (TooLong limit) = nat_eq limit file_limit
is_refused FileFault = true
is_refused ReadFault = false
is_refused WriteFault = false
is_refused ErrorsFault = true
is_refused OutOfMemory = true
