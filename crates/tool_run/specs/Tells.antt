-- What a run of `svemu-tool` promises.
use Rattle.std.specs.Prelude.{◌≡◌, ℕ, Bool, true, false, List, [], ◌++◌, Option, Some, IfSome}
use Rattle.std.specs.Prelude.{if◌then◌else◌}
use Rattle.elf_symbols.specs.declared.Symbol.{Symbol}
use Rattle.elf_symbols.specs.Order.{AreSymbolsOf}
use Rattle.emu_system.specs.declared.image.Segment.{Segment}
use Rattle.tool_sites.specs.Explanation.{explanation, explanation_alone}
use Rattle.tool_texts.specs.Explanations.{stuck_line}
use Rattle.command_lines.specs.Outcome.{Outcome}
use Rattle.command_lines.specs.declared.ending.Ending.{Ending}
use Rattle.command_lines.specs.declared.ending.Ending.TheVariants.{Exit}
use Rattle.commands.specs.Meets.{Now}
use Rattle.commands.specs.Promises.{is_failure, output_of, errors_of, taken_of, CountsFor, EndsAs, Loses, Settles}
use Rattle.emu_model.specs.State.{IsPrefix, Parts}
use Rattle.emu_system.specs.Gained.{Gains}

-- first bytes of the program's own came behind those that a sink held, and then first bytes of what is said
pub record GainedBoth (held : Option (List ℕ)) (had own said : List ℕ) : Type 0 where
  pub gained : List ℕ
  pub told : List ℕ
  pub is : held ≡ Some (had ++ (gained ++ told))
  pub first : IsPrefix gained own
  pub begun : IsPrefix told said

-- the program's own bytes came behind those that a sink held, and then what is said; where something failed, first
-- bytes of each
abbrev pub GainsBoth : Bool → Option (List ℕ) → List ℕ → List ℕ → List ℕ → Type 0
GainsBoth false held had own said = held ≡ Some (had ++ (own ++ said))
GainsBoth true held had own said = GainedBoth held had own said

-- Where nothing failed, the ending, the output and what is taken of the input are those of `svemu`'s result; the errors
-- gain the
-- bytes that the program itself writes there, and what is said behind them. After a failure the streams gain first
-- bytes of these,
-- and lose no more.
pub record Tells (result own : List ℕ → Option Outcome) (said : List ℕ) (ending : Ending) (old new : Now) : Type 0 where
  pub ends : IfSome old.input (λ bytes. is_failure ending ≡ false → EndsAs (result bytes) ending)
  pub settled : is_failure ending ≡ false → (bytes : List ℕ) → Settles (result bytes) ending
  pub output : (bytes : List ℕ) → CountsFor old.input (result bytes) bytes
      → IfSome old.output (λ had. Gains (is_failure ending) new.output had (output_of (result bytes)))
  pub errors : (bytes : List ℕ) → CountsFor old.input (result bytes) bytes
      → IfSome old.errors (λ had. GainsBoth (is_failure ending) new.errors had (errors_of (own bytes)) said)
  pub input : IfSome old.input (λ bytes. Loses (is_failure ending) new.input bytes (taken_of (result bytes)))

-- what is seen of a run that stopped: the bytes of its file, the segments of its image, its machine, or that of the
-- thread that took the last step, whether it ran alone, whether it stopped since none of its threads was ready, and its
-- report
pub record SeenStop : Type 0 where
  pub file : List ℕ
  pub segments : List Segment
  pub parts : Parts
  pub alone : Bool
  pub stuck : Bool
  pub report : List ℕ

-- what is said of a stop, by symbols
abbrev pub said_of : List Symbol → SeenStop → List ℕ
said_of found stop =
    if stop.alone then explanation_alone found stop.segments stop.parts
    else (if stop.stuck then stuck_line [] stop.parts.steps else explanation found stop.segments stop.parts)

-- what is said of a stop, by the symbols of its file
pub record IsExplained (stop : SeenStop) (said : List ℕ) : Type 0 where
  pub found : List Symbol
  pub theirs : AreSymbolsOf stop.file found
  pub is : said ≡ said_of found stop

-- nothing is said of an exit
abbrev pub IsSilentExit : Ending → List ℕ → Type 0
IsSilentExit ending said = (code : ℕ) → ending ≡ Exit code → said ≡ []
