-- How `trace` ends where nothing failed, by its words, its file with its symbols, and its input.
use Rattle.std.specs.Prelude.{◌≡◌, ℕ, min, List, Option, Result, Ok, Err}
use Rattle.command_lines.specs.Outcome.{Files, file_at, file_limit}
use Rattle.command_lines.specs.declared.ending.Ending.{Ending}
use Rattle.command_lines.specs.declared.ending.Ending.TheVariants.{WordsRefused}
use Rattle.command_model.specs.CommandLine.{line}
use Rattle.command_model.specs.declared.command_line.Line.{Line}
use Rattle.command_model.specs.declared.command_line.Line.TheVariants.{Run, Asm, Dis, Dbg, Load, Sweep, Threads}
use Rattle.command_model.specs.declared.command_line.WordsFault.{WordsFault}
use Rattle.command_model.specs.declared.command_line.WordsWhy.TheVariants.{UnknownCommand, UnknownOption}
use Rattle.elf_symbols.specs.declared.Symbol.{Symbol}
use Rattle.elf_symbols.specs.Order.{AreSymbolsOf}
use Rattle.emu_system.specs.Image.{elf}
use Rattle.io_gate.specs.Images.{whole_file}
use Rattle.io_gate.specs.declared.images.ImagesError.{ImagesError}
use Rattle.tool_refusals.specs.Endings.{EndsFile, EndsImage, EndsOver}
use Rattle.trace_options.specs.declared.options.Given.{Given}
use Rattle.trace_options.specs.declared.options.TraceFault.{TraceFault}
use Rattle.trace_options.specs.declared.shown.Shown.{Shown}
use Rattle.trace_options.specs.declared.window.Window.{Window}
use Rattle.trace_options.specs.Places.{window_of}
use Rattle.trace_options.specs.RunWords.{run_words}
use Rattle.trace_options.specs.Showing.{shown_at}
use Rattle.tool_traces.specs.declared.asked.Asked.{Asked}

-- ---- what is asked for, or the first refusal of it

abbrev pub asked_by : Result Shown TraceFault → Result Window TraceFault → Result Asked TraceFault
asked_by (Ok shown) (Ok window) = Ok (record { shown = shown; window = window })
asked_by (Ok shown) (Err fault) = Err fault
asked_by (Err fault) window = Err fault

-- the window by the symbols of a file
pub record IsWindowBy (file : List ℕ) (words : List (List ℕ)) (given : Given) (window : Result Window TraceFault) : Type 0 where
  pub found : List Symbol
  pub theirs : AreSymbolsOf file found
  pub is : window ≡ window_of found words given

pub record IsAskedBy (file : List ℕ) (words : List (List ℕ)) (given : Given) (asked : Result Asked TraceFault) : Type 0 where
  pub window : Result Window TraceFault
  pub theirs : IsWindowBy file words given window
  pub is : asked ≡ asked_by (shown_at words given.show) window

-- ---- endings

-- the refusal of an option ends the command as that of an unknown one at its place; of later places the place is 300
abbrev pub option_fault : TraceFault → WordsFault
option_fault fault = record { why = UnknownOption; place = min fault.place 300 }

-- a line of another command is refused as that of an unknown one
abbrev pub other_command : WordsFault
other_command = record { why = UnknownCommand; place = 0 }

abbrev pub EndsAsked : Result Asked TraceFault → Option (List ℕ) → Ending → Type 0
EndsAsked (Ok asked) input ending = EndsOver input ending
EndsAsked (Err fault) input ending = ending ≡ WordsRefused (option_fault fault)

-- of an image: by what is asked for of its symbols
pub record EndsSymbols (file : List ℕ) (words : List (List ℕ)) (given : Given) (input : Option (List ℕ)) (ending : Ending) : Type 0 where
  pub asked : Result Asked TraceFault
  pub theirs : IsAskedBy file words given asked
  pub ends : EndsAsked asked input ending

-- of a program, by what reading its file gives
abbrev pub EndsProgram : Result (List ℕ) ImagesError → List (List ℕ) → Given → ℕ → Option (List ℕ) → Ending → Type 0
EndsProgram file words given pages input ending =
    EndsFile file (λ bytes. EndsImage (elf bytes pages) (EndsSymbols bytes words given input)) ending

-- by the line that runs the program, whose words are `same`
abbrev pub EndsLine : List (List ℕ) → List (List ℕ) → Given → Files → Option (List ℕ) → Result Line WordsFault → Ending → Type 0
EndsLine words same given files input (Ok (Run file args bits budget pages)) ending =
    EndsProgram (whole_file (file_at same files file) file_limit) words given pages input ending
EndsLine words same given files input (Ok (Asm listing)) ending = ending ≡ WordsRefused other_command
EndsLine words same given files input (Ok (Dis file)) ending = ending ≡ WordsRefused other_command
EndsLine words same given files input (Ok (Dbg file script args bits budget pages)) ending =
    ending ≡ WordsRefused other_command
EndsLine words same given files input (Ok (Load number)) ending = ending ≡ WordsRefused other_command
EndsLine words same given files input (Ok (Sweep file args budget pages)) ending = ending ≡ WordsRefused other_command
EndsLine words same given files input (Ok (Threads file schedule args bits budget pages)) ending =
    ending ≡ WordsRefused other_command
EndsLine words same given files input (Err fault) ending = ending ≡ WordsRefused fault

-- by the options, whose refusal comes first
abbrev pub EndsTrace : List (List ℕ) → Files → Option (List ℕ) → Result Given TraceFault → Ending → Type 0
EndsTrace words files input (Ok given) ending =
    EndsLine words (run_words words) given files input (line (run_words words)) ending
EndsTrace words files input (Err fault) ending = ending ≡ WordsRefused (option_fault fault)
