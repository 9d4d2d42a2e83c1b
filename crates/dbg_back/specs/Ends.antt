-- How a session that may go back ends.
use Rattle.std.specs.Prelude.{Bool, true, false, Result, Ok, Err}
use Rattle.io_gate.specs.declared.streams.Failed.{Failed}
use Rattle.emu_machine.specs.declared.ends.RunEnd.{RunEnd}
use Rattle.emu_machine.specs.declared.ends.RunEnd.TheVariants as runs
use Rattle.dbg_back.specs.declared.ends.BackEnd.{BackEnd}
use Rattle.dbg_back.specs.declared.ends.BackEnd.TheVariants.{Done, WriteFault, ErrorsFault}

-- a stream failed, so the session was broken off
abbrev pub is_fault : BackEnd → Bool
is_fault Done = false
is_fault WriteFault = true
is_fault ErrorsFault = true

-- the answer by that of a run; its input can't fail, so that answer never comes
abbrev pub end_of_run : RunEnd → BackEnd
end_of_run (runs.Exit code) = Done
end_of_run (runs.Trap trap) = Done
end_of_run runs.Spent = Done
end_of_run runs.ReadFault = Done
end_of_run runs.WriteFault = WriteFault
end_of_run runs.ErrorsFault = ErrorsFault

-- and by that of a line that was put to the output
abbrev pub end_of_put : Result (Unit {0}) Failed → BackEnd
end_of_put (Ok done) = Done
end_of_put (Err failed) = WriteFault
