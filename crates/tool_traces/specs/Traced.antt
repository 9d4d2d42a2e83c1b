-- What `svemu-tool trace` writes, by the words of its line: `SomeTraces`, of the run that `traced` tells, is the whole
-- of it.
use Rattle.std.specs.Prelude.{◌≡◌, ℕ, List, MatchOption, Option, Some, None, Result, Ok, Err}
use Rattle.command_lines.specs.Outcome.{Files, file_at, program_arguments}
use Rattle.command_model.specs.CommandLine.{line}
use Rattle.command_model.specs.declared.command_line.Line.{Line}
use Rattle.command_model.specs.declared.command_line.Line.TheVariants.{Run, Asm, Dis, Dbg, Load, Sweep, Threads}
use Rattle.command_model.specs.declared.command_line.WordsFault.{WordsFault}
use Rattle.elf_symbols.specs.declared.Symbol.{Symbol}
use Rattle.elf_symbols.specs.Order.{AreSymbolsOf}
use Rattle.emu_model.specs.State.{Parts}
use Rattle.emu_system.specs.Image.{Image, elf}
use Rattle.emu_system.specs.Start.{opening}
use Rattle.emu_system.specs.declared.image.ElfFault.{ElfFault}
use Rattle.step_traces.specs.Traces.{trace_text}
use Rattle.trace_lines.specs.Lines.{HasGained}
use Rattle.trace_options.specs.declared.options.Given.{Given}
use Rattle.trace_options.specs.declared.options.TraceFault.{TraceFault}
use Rattle.trace_options.specs.declared.window.Window.{Window}
use Rattle.trace_options.specs.Options.{trace_options}
use Rattle.trace_options.specs.Places.{window_of}
use Rattle.trace_options.specs.RunWords.{run_words}
use Rattle.trace_options.specs.Showing.{shown_at}
use Rattle.tool_traces.specs.declared.asked.Asked.{Asked}

-- ---- which run is traced, by the words of the line

-- a file's bytes, the machine of its image, the greatest number of steps, and the options
pub record Traced : Type 0 where
  pub file : List ℕ
  pub machine : Parts
  pub budget : ℕ
  pub given : Given

abbrev pub traced_of : Given → List ℕ → Image → List (List ℕ) → ℕ → ℕ → ℕ → Traced
traced_of given file image args bits budget pages = record {
  file = file;
  machine = opening file image args bits pages;
  budget = budget;
  given = given;
}

-- none where the file is no image
abbrev pub image_traced : Given → List ℕ → List (List ℕ) → ℕ → ℕ → ℕ → Result Image ElfFault → Option Traced
image_traced given file args bits budget pages (Ok image) = Some (traced_of given file image args bits budget pages)
image_traced given file args bits budget pages (Err fault) = None

-- none where it isn't there
abbrev pub file_traced : Given → Option (List ℕ) → List (List ℕ) → ℕ → ℕ → ℕ → Option Traced
file_traced given None args bits budget pages = None
file_traced given (Some file) args bits budget pages = image_traced given file args bits budget pages (elf file pages)

-- by the words of a line of `svemu` that runs a program
abbrev pub line_traced : List (List ℕ) → Given → Files → Result Line WordsFault → Option Traced
line_traced words given files (Ok (Run file args bits budget pages)) =
    file_traced given (file_at words files file) (program_arguments words file args) bits budget pages
line_traced words given files (Ok (Asm listing)) = None
line_traced words given files (Ok (Dis file)) = None
line_traced words given files (Ok (Dbg file script args bits budget pages)) = None
line_traced words given files (Ok (Load number)) = None
line_traced words given files (Ok (Sweep file args budget pages)) = None
line_traced words given files (Ok (Threads file schedule args bits budget pages)) = None
line_traced words given files (Err fault) = None

abbrev pub given_traced : List (List ℕ) → Files → Result Given TraceFault → Option Traced
given_traced words files (Ok given) = line_traced (run_words words) given files (line (run_words words))
given_traced words files (Err fault) = None

abbrev pub traced : List (List ℕ) → Files → Option Traced
traced words files = given_traced words files (trace_options words)

-- ---- what is asked of it, by the symbols of its file

pub record IsWindowOf (file : List ℕ) (words : List (List ℕ)) (given : Given) (window : Window) : Type 0 where
  pub found : List Symbol
  pub theirs : AreSymbolsOf file found
  pub is : Ok window ≡ window_of found words given

pub record IsAsked (file : List ℕ) (words : List (List ℕ)) (given : Given) (asked : Asked) : Type 0 where
  pub shown : Ok asked.shown ≡ shown_at words given.show
  pub window : IsWindowOf file words given asked.window

-- ---- what is written

-- the lines of the steps that are asked for, and the one behind them
pub record Traces (words : List (List ℕ)) (t : Traced) (input : List ℕ) (old new : Option (List ℕ)) : Type 0 where
  pub asked : Asked
  pub theirs : IsAsked t.file words t.given asked
  pub is : HasGained old new (trace_text asked.shown asked.window t.machine input t.budget)

-- all was written only where there is such a run
abbrev pub SomeTraces : List (List ℕ) → Option Traced → List ℕ → Option (List ℕ) → Option (List ℕ) → Type 0
SomeTraces words run input old new = MatchOption run ⊥ (λ t. Traces words t input old new)
