-- What an accepted line is held to: places among the words, a program's arguments, and the limit of pages. It follows
-- from the line's definition; the contract says it for callers.
use Rattle.std.specs.Prelude.{◌<◌, ◌≤◌, ℕ, List}
use Rattle.emu_model.specs.Access.{most_mapped_pages}
use Rattle.command_model.specs.declared.command_line.Line.{Line}
use Rattle.command_model.specs.declared.command_line.Line.TheVariants.{Run, Asm, Dis, Dbg, Load, Sweep, Threads}
use Rattle.command_lines.specs.Outcome.{program_arguments}
use Rattle.emu_system.specs.ArgumentLimits.{AreArguments}

-- the places are those of so many words, the files before the first argument, whose place may be behind them all
abbrev pub HasPlaces : Line → ℕ → Type 0
HasPlaces (Run file args bits budget pages) count = (file < args) × (args ≤ count)
HasPlaces (Asm listing) count = listing < count
HasPlaces (Dis file) count = file < count
HasPlaces (Dbg file script args bits budget pages) count = (file < args) × (script < args) × (args ≤ count)
HasPlaces (Load number) count = Unit {0}
HasPlaces (Sweep file args budget pages) count = (file < args) × (args ≤ count)
HasPlaces (Threads file schedule args bits budget pages) count = (file < args) × (schedule < args) × (args ≤ count)

-- the words of a program are such as it may be given
abbrev pub HasArguments : List (List ℕ) → Line → Type 0
HasArguments words (Run file args bits budget pages) = AreArguments (program_arguments words file args)
HasArguments words (Asm listing) = Unit {0}
HasArguments words (Dis file) = Unit {0}
HasArguments words (Dbg file script args bits budget pages) = AreArguments (program_arguments words file args)
HasArguments words (Load number) = Unit {0}
HasArguments words (Sweep file args budget pages) = AreArguments (program_arguments words file args)
HasArguments words (Threads file schedule args bits budget pages) = AreArguments (program_arguments words file args)

-- no more pages are asked for than may be mapped
abbrev pub HasLimit : Line → Type 0
HasLimit (Run file args bits budget pages) = pages ≤ most_mapped_pages
HasLimit (Asm listing) = Unit {0}
HasLimit (Dis file) = Unit {0}
HasLimit (Dbg file script args bits budget pages) = pages ≤ most_mapped_pages
HasLimit (Load number) = Unit {0}
HasLimit (Sweep file args budget pages) = pages ≤ most_mapped_pages
HasLimit (Threads file schedule args bits budget pages) = pages ≤ most_mapped_pages
