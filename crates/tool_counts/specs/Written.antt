-- What `count` writes, by a line of `svemu` that runs what is counted.
use Rattle.std.specs.Prelude.{◌≡◌, ℕ, Bool, true, false, List, [], ◌∷◌, ◌++◌, Option, Some, None, IfSome, Result, Ok, Err}
use Rattle.command_lines.specs.Outcome.{Files, file_at, program_arguments}
use Rattle.command_model.specs.Sweep.{lengths}
use Rattle.command_model.specs.declared.command_line.Line.{Line}
use Rattle.command_model.specs.declared.command_line.Line.TheVariants.{Run, Asm, Dis, Dbg, Load, Sweep, Threads}
use Rattle.command_model.specs.declared.command_line.WordsFault.{WordsFault}
use Rattle.emu_system.specs.Image.{Image, elf}
use Rattle.emu_system.specs.declared.image.ElfFault.{ElfFault}
use Rattle.tool_counts.specs.Counted.{counted_text, sweep_of}

-- the program of an image at these lengths; of a refused one nothing is told
abbrev pub image_text : List ℕ → List (List ℕ) → List ℕ → ℕ → ℕ → List ℕ → Bool → Result Image ElfFault → Option (List ℕ)
image_text file args input budget pages at headed (Ok image) = Some (counted_text (sweep_of file image args pages budget input) at headed)
image_text file args input budget pages at headed (Err fault) = None

abbrev pub file_text : Option (List ℕ) → List (List ℕ) → List ℕ → ℕ → ℕ → List ℕ → Bool → Option (List ℕ)
file_text None args input budget pages at headed = None
file_text (Some file) args input budget pages at headed = image_text file args input budget pages at headed (elf file pages)

-- by a line that runs one length, or all; there is no text where the line names no file that there is, or no image
abbrev pub line_text : List (List ℕ) → Files → List ℕ → Result Line WordsFault → Option (List ℕ)
line_text words files input (Ok (Run file args bits budget pages)) =
    file_text (file_at words files file) (program_arguments words file args) input budget pages (bits ∷ []) false
line_text words files input (Ok (Sweep file args budget pages)) =
    file_text (file_at words files file) (program_arguments words file args) input budget pages lengths true
line_text words files input (Ok (Asm listing)) = None
line_text words files input (Ok (Dis file)) = None
line_text words files input (Ok (Dbg file script args bits budget pages)) = None
line_text words files input (Ok (Load number)) = None
line_text words files input (Ok (Threads file schedule args bits budget pages)) = None
line_text words files input (Err fault) = None

-- the output gained this text
abbrev pub TellsText : Option (List ℕ) → List ℕ → Option (List ℕ) → Type 0
TellsText text had new = IfSome text (λ written. new ≡ Some (had ++ written))
