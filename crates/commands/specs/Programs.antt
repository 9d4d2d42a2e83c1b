-- The lines of commands that run a program, and the outcomes of lines.
use Rattle.std.specs.Prelude.{ℕ, List, Option, Ok}
use Rattle.command_model.specs.declared.command_line.Line.{Line}
use Rattle.command_model.specs.declared.command_line.Line.TheVariants.{Run, Dbg, Sweep, Threads}
use Rattle.emu_model.specs.State.{Parts}
use Rattle.command_lines.specs.Outcome.{Outcome, Files, outcome_of_line, program_arguments}
use Rattle.emu_system.specs.Image.{Image}
use Rattle.emu_system.specs.Start.{opening}
use Rattle.commands.specs.declared.program.Program.{Program}
use Rattle.commands.specs.declared.sweeping.Swept.{Swept}

-- what an accepted line comes to
abbrev pub outcome_over : List (List ℕ) → Line → Files → List ℕ → Option Outcome
outcome_over words l files input = outcome_of_line words files input (Ok l)

-- the program is run
abbrev pub run_line_of : Program → Line
run_line_of p = Run p.file p.args p.length p.budget p.pages

-- the script that the word at a place names is obeyed over the program
abbrev pub debug_line_of : Program → ℕ → Line
debug_line_of p script = Dbg p.file script p.args p.length p.budget p.pages

-- its contexts are run under the schedule that the word at a place names
abbrev pub threads_line_of : Program → ℕ → Line
threads_line_of p schedule = Threads p.file schedule p.args p.length p.budget p.pages

-- the program is run at each length
abbrev pub sweep_line_of : Swept → Line
sweep_line_of p = Sweep p.file p.args p.budget p.pages

abbrev pub arguments_of : List (List ℕ) → Program → List (List ℕ)
arguments_of words p = program_arguments words p.file p.args

-- the machine of its image before the first step
abbrev pub opening_of : List ℕ → Image → List (List ℕ) → Program → Parts
opening_of bytes image words p = opening bytes image (arguments_of words p) p.length p.pages

abbrev pub swept_arguments : List (List ℕ) → Swept → List (List ℕ)
swept_arguments words p = program_arguments words p.file p.args
