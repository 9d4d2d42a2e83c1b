-- What reading a file by the name of it gives a command.
use Rattle.std.specs.Prelude.{◌≡◌, ℕ, List, Option, Result, Ok, Err, IfSome}
use Rattle.std.specs.FinMap.{get}
use Rattle.std.specs.Global.{Vec}
use Rattle.io_gate.specs.Images.{whole_file}
use Rattle.io_gate.specs.declared.images.ImagesError.TheVariants as images
use Rattle.command_lines.specs.Outcome.{Outcome, Files, file_limit, with_file}
use Rattle.command_lines.specs.declared.ending.Ending.{Ending}
use Rattle.command_lines.specs.declared.ending.Ending.TheVariants.{TooLong, FileFault, ErrorsFault, OutOfMemory}
use Rattle.commands.specs.Meets.{now, Meets}

-- the file's bytes; or how the command ends without them, whatever it does with them
abbrev pub GivesFile : Option (List ℕ) → Result (Vec ℕ) Ending → Option (List ℕ) → Option (List ℕ) → Type 0
GivesFile file (Ok bytes) old new = whole_file file file_limit ≡ Ok bytes.items
GivesFile file (Err ending) old new =
    (next : List ℕ → List ℕ → Option Outcome) (input output : Option (List ℕ)) → Meets (λ i. with_file file (λ bytes. next bytes i)) ending (now input output old) (now input output new)

-- the file of a name is too long, where the files are told
abbrev pub IsTooLong : Option Files → List ℕ → Type 0
IsTooLong told name = IfSome told (λ files. whole_file (get files name) file_limit ≡ Err images.TooLong)

-- the endings without a file's bytes, and that a file whose line was begun is too long
abbrev pub EndsUnread : Option Files → List ℕ → Ending → Type 0
EndsUnread told name FileFault = Unit {0}
EndsUnread told name OutOfMemory = Unit {0}
EndsUnread told name (TooLong limit) = IsTooLong told name
EndsUnread told name ErrorsFault = IsTooLong told name
EndsUnread told name ending = ⊥
