-- How a command ends behind what was put to a sink, behind a run of a machine or of a world, and behind a session.
use Rattle.std.specs.Prelude.{ℕ, Result, Ok, Err}
use Rattle.dbg_back.specs.declared.ends.BackEnd.{BackEnd}
use Rattle.dbg_back.specs.declared.ends.BackEnd.TheVariants as backs
use Rattle.dbg_core.specs.declared.ends.SessionEnd.{SessionEnd}
use Rattle.dbg_core.specs.declared.ends.SessionEnd.TheVariants as sessions
use Rattle.emu_machine.specs.declared.ends.RunEnd.{RunEnd}
use Rattle.emu_machine.specs.declared.ends.RunEnd.TheVariants as runs
use Rattle.guest_threads.specs.declared.ends.WorldEnd.{WorldEnd}
use Rattle.guest_threads.specs.declared.ends.WorldEnd.TheVariants as worlds
use Rattle.emu_run.specs.declared.thread.WorldEnding.{WorldEnding}
use Rattle.emu_run.specs.declared.thread.WorldEnding.TheVariants as stops
use Rattle.command_lines.specs.declared.ending.Ending.{Ending}
use Rattle.command_lines.specs.declared.ending.Ending.TheVariants.{Exit, Trap, Spent, Done, ReadFault, WriteFault, ErrorsFault}

-- a line that isn't put whole turns the ending into a fault of the errors
abbrev pub ended_by : {T E : Type 0} → Result T E → Ending → Ending
ended_by (Ok done) ending = ending
ended_by (Err failed) ending = ErrorsFault

-- a command whose output isn't put whole ends with a fault of the output
abbrev pub done_by : {T E : Type 0} → Result T E → Ending
done_by (Ok done) = Done
done_by (Err failed) = WriteFault

-- the ending of a run that left the program counter at an address
abbrev pub ending_by : RunEnd → ℕ → Ending
ending_by (runs.Exit code) pc = Exit code
ending_by (runs.Trap trap) pc = Trap trap pc
ending_by runs.Spent pc = Spent
ending_by runs.ReadFault pc = ReadFault
ending_by runs.WriteFault pc = WriteFault
ending_by runs.ErrorsFault pc = ErrorsFault

-- how the run of a world stopped; where it was broken off, the ending that comes of it
abbrev pub stop_by : WorldEnd → Result WorldEnding Ending
stop_by (worlds.Exit code) = Ok (stops.Exit code)
stop_by (worlds.Trap trap pc) = Ok (stops.Trap trap pc)
stop_by worlds.Spent = Ok stops.Spent
stop_by worlds.Stuck = Ok stops.Stuck
stop_by worlds.ReadFault = Err ReadFault
stop_by worlds.WriteFault = Err WriteFault
stop_by worlds.ErrorsFault = Err ErrorsFault

-- the ending of a session
abbrev pub ending_of_session : SessionEnd → Ending
ending_of_session sessions.Done = Done
ending_of_session sessions.ReadFault = ReadFault
ending_of_session sessions.WriteFault = WriteFault
ending_of_session sessions.ErrorsFault = ErrorsFault

-- and of one that goes back
abbrev pub ending_of_back : BackEnd → Ending
ending_of_back backs.Done = Done
ending_of_back backs.WriteFault = WriteFault
ending_of_back backs.ErrorsFault = ErrorsFault
