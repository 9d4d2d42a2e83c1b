-- Endings before anything of a program was run, and those that leave no report.
use Rattle.std.specs.Prelude.{◌≡◌, ℕ, Bool, true, false, List, Option, Result, Ok, Err}
use Rattle.std.specs.Global.{Vec}
use Rattle.io_gate.specs.Images.{whole_file}
use Rattle.io_gate.specs.declared.images.ImagesError.TheVariants as images
use Rattle.command_lines.specs.Outcome.{file_limit}
use Rattle.command_lines.specs.declared.ending.Ending.{Ending}
use Rattle.command_lines.specs.declared.ending.Ending.TheVariants.{WordsRefused, ImageRefused, ScheduleRefused, TooLong}
use Rattle.command_lines.specs.declared.ending.Ending.TheVariants.{FileFault, OutOfMemory, ReadFault, WriteFault}

-- the line, a file or its schedule was refused, a file couldn't be read, or memory was wanting
abbrev pub is_still : Ending → Bool
is_still (WordsRefused fault) = true
is_still (ImageRefused fault) = true
is_still (ScheduleRefused fault) = true
is_still (TooLong limit) = true
is_still FileFault = true
is_still OutOfMemory = true
is_still ending = false

-- no run stopped: none began, or it was broken off by its input or its output
abbrev pub is_unreported : Ending → Bool
is_unreported (WordsRefused fault) = true
is_unreported (ImageRefused fault) = true
is_unreported (ScheduleRefused fault) = true
is_unreported (TooLong limit) = true
is_unreported FileFault = true
is_unreported ReadFault = true
is_unreported WriteFault = true
is_unreported ending = false

-- what holds where no report is put: none is wanted, or no run stopped
pub record WithoutReport (wanted : Bool) (ending : Ending) (P : Type 0) : Type 0 where
  pub unwanted : wanted ≡ false → P
  pub unreported : is_unreported ending ≡ true → P

-- how a command ends without the bytes of a file: by a failure, or since the file is too long
abbrev pub EndsUnread : Option (List ℕ) → Ending → Type 0
EndsUnread file FileFault = Unit {0}
EndsUnread file OutOfMemory = Unit {0}
EndsUnread file ending = (ending ≡ TooLong file_limit) × (whole_file file file_limit ≡ Err images.TooLong)

-- the file's bytes, or such an ending
abbrev pub Reads : Option (List ℕ) → Result (Vec ℕ) Ending → Type 0
Reads file (Ok bytes) = whole_file file file_limit ≡ Ok bytes.items
Reads file (Err ending) = EndsUnread file ending
