-- Why there is no schedule.
use Rattle.std.specs.Prelude.{Option, Some, None}
use Rattle.guest_schedule.specs.declared.schedule.ScheduleFault.{ScheduleFault}
use Rattle.guest_schedule.specs.declared.reader.ScheduleError.{ScheduleError}
use Rattle.guest_schedule.specs.declared.reader.ScheduleError.TheVariants.{Refused, OutOfMemory}

-- the refusal that an error holds; want of memory holds none
abbrev pub fault_in : ScheduleError → Option ScheduleFault
fault_in (Refused fault) = Some fault
fault_in OutOfMemory = None
