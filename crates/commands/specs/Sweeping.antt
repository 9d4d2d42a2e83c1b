-- What a sweep of an image with its input promises, and how it ends.
use Rattle.std.specs.Prelude.{◌≡◌, ℕ, Bool, true, false, nat_eq, List, Option, IfSome}
use Rattle.command_lines.specs.Outcome.{Outcome}
use Rattle.command_lines.specs.declared.ending.Ending.{Ending}
use Rattle.command_lines.specs.declared.ending.Ending.TheVariants.{Done, TooLong, WriteFault, ErrorsFault, OutOfMemory}
use Rattle.emu_system.specs.Gained.{Gains}
use Rattle.command_model.specs.Sweep.{stream_limit}
use Rattle.vl_sweep.specs.declared.lengths.SweepEnd.TheVariants as sweeps
use Rattle.commands.specs.Promises.{is_failure}

-- how a sweep ends that has its input
abbrev pub ends_swept : Ending → Bool
ends_swept Done = true
ends_swept (TooLong limit) = nat_eq limit stream_limit
ends_swept WriteFault = true
ends_swept ErrorsFault = true
ends_swept OutOfMemory = true
ends_swept ending = false

-- a command ends as an outcome says, and writes its bytes; after a failure, first bytes of them
pub record Writes (outcome : Outcome) (ending : Ending) (old_output new_output old_errors new_errors : Option (List ℕ)) : Type 0 where
  pub ends : is_failure ending ≡ false → ending ≡ outcome.ending
  pub output : IfSome old_output (λ had. Gains (is_failure ending) new_output had outcome.output)
  pub errors : IfSome old_errors (λ had. Gains (is_failure ending) new_errors had outcome.errors)
