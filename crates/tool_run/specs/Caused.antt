-- The causes of endings: the counts of faults of the streams, before and after.
use Rattle.std.specs.Prelude.{◌≡◌, ◌≤◌, ℕ, Bool, true}
use Rattle.io_gate.specs.Streams.{Rose}
use Rattle.command_lines.specs.declared.ending.Ending.{Ending}
use Rattle.command_lines.specs.declared.ending.Ending.TheVariants.{ReadFault, WriteFault, ErrorsFault}

-- of the input, the output, the errors and the sink that gains the report
pub record Faults : Type 0 where
  pub input : ℕ
  pub output : ℕ
  pub errors : ℕ
  pub registers : ℕ

abbrev pub faults : ℕ → ℕ → ℕ → ℕ → Faults
faults input output errors registers =
    record { input = input; output = output; errors = errors; registers = registers }

-- an ending by a fault of a stream comes only where that stream's count rose, and the report is missing only where that
-- of its sink did; the count of the errors never falls
pub record IsCaused (ending : Ending) (report_failed : Bool) (old new : Faults) : Type 0 where
  pub read : ending ≡ ReadFault → Rose old.input new.input
  pub write : ending ≡ WriteFault → Rose old.output new.output
  pub errors : ending ≡ ErrorsFault → Rose old.errors new.errors
  pub later : old.errors ≤ new.errors
  pub registers : report_failed ≡ true → Rose old.registers new.registers
