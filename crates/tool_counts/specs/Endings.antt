-- How `count` ends where nothing failed, by a line of `svemu` that runs what is counted.
use Rattle.std.specs.Prelude.{◌≡◌, ◌⊎◌, ℕ, List, Option, Some, None, IfSome, Result, Ok, Err}
use Rattle.command_lines.specs.Outcome.{Files, file_at, file_limit}
use Rattle.command_lines.specs.declared.ending.Ending.{Ending}
use Rattle.command_lines.specs.declared.ending.Ending.TheVariants.{ErrorsFault, WordsRefused}
use Rattle.command_model.specs.declared.command_line.Line.{Line}
use Rattle.command_model.specs.declared.command_line.Line.TheVariants.{Run, Asm, Dis, Dbg, Load, Sweep, Threads}
use Rattle.command_model.specs.declared.command_line.WordsFault.{WordsFault}
use Rattle.command_model.specs.declared.command_line.WordsWhy.TheVariants.{UnknownCommand}
use Rattle.emu_system.specs.Image.{elf}
use Rattle.io_gate.specs.Images.{whole_file}
use Rattle.io_gate.specs.declared.images.ImagesError.{ImagesError}
use Rattle.tool_refusals.specs.Endings.{EndsFile, EndsImage, EndsOver}

-- by what reading the file of a program gives, its image and the input
abbrev pub EndsProgram : Result (List ℕ) ImagesError → ℕ → Option (List ℕ) → Ending → Type 0
EndsProgram file pages input ending = EndsFile file (λ bytes. EndsImage (elf bytes pages) (EndsOver input)) ending

-- a line of another command is refused as that of an unknown one
abbrev pub other_command : WordsFault
other_command = record { why = UnknownCommand; place = 0 }

-- why a line is refused, if it is
abbrev pub refusal_of : Result Line WordsFault → Option WordsFault
refusal_of (Ok (Run file args bits budget pages)) = None
refusal_of (Ok (Sweep file args budget pages)) = None
refusal_of (Ok (Asm listing)) = Some other_command
refusal_of (Ok (Dis file)) = Some other_command
refusal_of (Ok (Dbg file script args bits budget pages)) = Some other_command
refusal_of (Ok (Load number)) = Some other_command
refusal_of (Ok (Threads file schedule args bits budget pages)) = Some other_command
refusal_of (Err fault) = Some fault

-- a refused line is refused so, whatever the files and the input have, unless the errors failed
abbrev pub RefusesLine : Result Line WordsFault → Ending → Type 0
RefusesLine line ending = IfSome (refusal_of line) (λ fault. (ending ≡ WordsRefused fault) ⊎ (ending ≡ ErrorsFault))

abbrev pub EndsLine : List (List ℕ) → Files → Option (List ℕ) → Result Line WordsFault → Ending → Type 0
EndsLine words files input (Ok (Run file args bits budget pages)) ending =
    EndsProgram (whole_file (file_at words files file) file_limit) pages input ending
EndsLine words files input (Ok (Sweep file args budget pages)) ending =
    EndsProgram (whole_file (file_at words files file) file_limit) pages input ending
EndsLine words files input (Ok (Asm listing)) ending = ending ≡ WordsRefused other_command
EndsLine words files input (Ok (Dis file)) ending = ending ≡ WordsRefused other_command
EndsLine words files input (Ok (Dbg file script args bits budget pages)) ending = ending ≡ WordsRefused other_command
EndsLine words files input (Ok (Load number)) ending = ending ≡ WordsRefused other_command
EndsLine words files input (Ok (Threads file schedule args bits budget pages)) ending =
    ending ≡ WordsRefused other_command
EndsLine words files input (Err fault) ending = ending ≡ WordsRefused fault
