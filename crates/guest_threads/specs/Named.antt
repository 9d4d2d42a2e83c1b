-- How steps of a context ended, by name.
use Rattle.std.specs.Prelude.{Option}
use Rattle.emu_model.specs.declared.trap.Ended.{Ended}
use Rattle.emu_machine.specs.declared.ends.StepEnd.{StepEnd}
use Rattle.emu_machine.specs.declared.ends.StepEnd.TheVariants.{Going, Exit as StepExit, Trap as StepTrap, ReadFault as StepReadFault, WriteFault as StepWriteFault, ErrorsFault as StepErrorsFault}
use Rattle.emu_machine.specs.Ends.{step_end}
use Rattle.guest_threads.specs.declared.went.Went.{Went}
use Rattle.guest_threads.specs.declared.went.Went.TheVariants.{On, Over, ReadFault, WriteFault, ErrorsFault}

-- the name of a step's answer
abbrev pub went_by : StepEnd → Went
went_by Going = On
went_by (StepExit _) = Over
went_by (StepTrap _) = Over
went_by StepReadFault = ReadFault
went_by StepWriteFault = WriteFault
went_by StepErrorsFault = ErrorsFault

-- the answer of the last step, by its name and by what ended the world
abbrev pub last_end : Went → Option Ended → StepEnd
last_end On ended = Going
last_end Over ended = step_end ended
last_end ReadFault ended = StepReadFault
last_end WriteFault ended = StepWriteFault
last_end ErrorsFault ended = StepErrorsFault
