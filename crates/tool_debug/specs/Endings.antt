-- How the command ends.
use Rattle.std.specs.Prelude.{◌≡◌, Bool, true, false, ◌||◌}
use Rattle.command_lines.specs.declared.ending.Ending.{Ending}
use Rattle.command_lines.specs.declared.ending.Ending.TheVariants.{Exit, Trap, Spent, Stuck, Done, WordsRefused}
use Rattle.command_lines.specs.declared.ending.Ending.TheVariants.{ImageRefused, ListingRefused, ScriptRefused}
use Rattle.command_lines.specs.declared.ending.Ending.TheVariants.{ScheduleRefused, TooLong, FileFault, ReadFault}
use Rattle.command_lines.specs.declared.ending.Ending.TheVariants.{WriteFault, ErrorsFault, OutOfMemory}
use Rattle.debug_options.specs.Endings.{is_refused}

-- a session came to its end, or something failed in it
abbrev pub is_session_end : Ending → Bool
is_session_end (Exit code) = false
is_session_end (Trap trap pc) = false
is_session_end Spent = false
is_session_end Stuck = false
is_session_end Done = true
is_session_end (WordsRefused fault) = false
is_session_end (ImageRefused fault) = false
is_session_end (ListingRefused fault) = false
is_session_end (ScriptRefused fault) = false
is_session_end (ScheduleRefused fault) = false
is_session_end (TooLong limit) = false
is_session_end FileFault = false
is_session_end ReadFault = true
is_session_end WriteFault = true
is_session_end ErrorsFault = true
is_session_end OutOfMemory = true

-- that, or no session was begun
abbrev pub may_end : Ending → Bool
may_end ending = is_refused ending || is_session_end ending

-- which endings there are; and behind one of no session the commands and the output are as they were
pub record EndsSo (ending : Ending) (same_commands same_output : Type 0) : Type 0 where
  pub kind : may_end ending ≡ true
  pub untaken : is_session_end ending ≡ false → same_commands
  pub unwritten : is_session_end ending ≡ false → same_output
