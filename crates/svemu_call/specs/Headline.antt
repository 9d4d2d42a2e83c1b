-- What the program promises beside what its commands promise: that it is complete, and which status it has. It is this
-- project's own choice what to promise.
use Rattle.std.specs.Prelude.{◌≡◌, ◌⊎◌, ℕ, true, Option, Some, None}
use Rattle.io_gate.specs.Streams.{Rose}
use Rattle.command_model.specs.declared.command_line.Line.{Line}
use Rattle.commands.specs.Lines.{may_end}
use Rattle.command_lines.specs.Outcome.{Outcome}
use Rattle.command_lines.specs.Statuses.{status_of}
use Rattle.command_lines.specs.declared.ending.Ending.{Ending}
use Rattle.command_lines.specs.declared.ending.Ending.TheVariants.{FileFault, OutOfMemory}

-- a count of faults didn't rise
abbrev pub IsQuiet : ℕ → ℕ → Type 0
IsQuiet before after = Rose before after → ⊥

-- the ending is that of the outcome or want of memory; where there is no outcome, it is a missing file or want of
-- memory
abbrev pub Completes : Option Outcome → Ending → Type 0
Completes None ending = (ending ≡ FileFault) ⊎ (ending ≡ OutOfMemory)
Completes (Some outcome) ending = (ending ≡ outcome.ending) ⊎ (ending ≡ OutOfMemory)

-- the status is that of the outcome's ending or of want of memory; where there is no outcome, of a missing file or of
-- want of memory
abbrev pub CompletesWith : Option Outcome → ℕ → Type 0
CompletesWith None status = (status ≡ status_of FileFault) ⊎ (status ≡ status_of OutOfMemory)
CompletesWith (Some outcome) status = (status ≡ status_of outcome.ending) ⊎ (status ≡ status_of OutOfMemory)

-- the status is that of an ending which the line may have
abbrev pub MayEndWith : Line → ℕ → Type 0
MayEndWith l status = (ending : Ending) × (may_end l ending ≡ true) × (status ≡ status_of ending)
