-- A program, and a second file where there is one: the schedule of its threads.
use Rattle.std.specs.Prelude.{◌<◌, ℕ, List, [], get_or, Option, Some, None, IfSome, Result}
use Rattle.io_gate.specs.Images.{MissesNamed}
use Rattle.command_lines.specs.Outcome.{Outcome, Files}
use Rattle.command_model.specs.declared.command_line.Line.{Line}
use Rattle.commands.specs.Programs.{arguments_of, run_line_of, threads_line_of}
use Rattle.commands.specs.declared.program.Program.{Program}
use Rattle.emu_system.specs.Image.{Image, elf}
use Rattle.emu_system.specs.declared.image.ElfFault.{ElfFault}
use Rattle.tool_run.specs.Stops.{StopsImage, StopsSecond}
use Rattle.tool_run.specs.Tells.{SeenStop}
use Rattle.tool_run.specs.Unreported.{unreported_image, with_second}

-- the place of its name, if there is one, is below a number
abbrev pub IsSecond : Option ℕ → ℕ → Type 0
IsSecond second count = IfSome second (λ place. place < count)

-- the line of a program, alone or under a schedule
abbrev pub program_line : Program → Option ℕ → Line
program_line p None = run_line_of p
program_line p (Some schedule) = threads_line_of p schedule

-- what comes of the bytes of both files
abbrev pub of_image : Option ℕ → List ℕ → List ℕ → List (List ℕ) → Program → Result Image ElfFault → List ℕ → Option
    Outcome
of_image second text bytes words p r i =
    Some (unreported_image second text bytes (arguments_of words p) i p.length p.budget p.pages r)

-- what comes of the bytes of the program's file
abbrev pub of_second : Option ℕ → List ℕ → List (List ℕ) → Program → Files → List ℕ → Option Outcome
of_second second bytes words p files i =
    with_second words files second (λ text. of_image second text bytes words p (elf bytes p.pages) i)

-- the same of the stop of its run
abbrev pub StopsBytes : (SeenStop → Type 0) → Option ℕ → List ℕ → List ℕ → List (List ℕ) → Program → List ℕ
    → Result Image ElfFault → Type 0
StopsBytes P second text bytes words p i r =
    StopsImage P second text bytes (arguments_of words p) i p.length p.budget p.pages r

abbrev pub StopsTexts : (SeenStop → Type 0) → Option ℕ → List ℕ → List (List ℕ) → Program → Files → List ℕ → Type 0
StopsTexts P second bytes words p files i =
    StopsSecond words files second (λ text. StopsBytes P second text bytes words p i (elf bytes p.pages))

-- the files are told, and there is no second one of its name
abbrev pub MissesSecond : Option Files → List (List ℕ) → Option ℕ → Type 0
MissesSecond told words None = ⊥
MissesSecond told words (Some place) = MissesNamed told (get_or words place [])
