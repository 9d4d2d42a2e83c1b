-- What `load N` writes: the run of its program at each vector length, and a line on each. `load_text` is the whole of
-- it. From docs/MANUAL.md, `svemu load`; the limits and the form of the lines are this project's own choice.
use Rattle.std.specs.Prelude.{ℕ, List, [], ◌∷◌, ◌++◌, codes, flat_map}
use Rattle.emu_model.specs.State.{Parts, State}
use Rattle.emu_run.specs.Run.{run}
use Rattle.emu_run.specs.Text.{hex, newline}
use Rattle.emu_system.specs.Image.{Image}
use Rattle.emu_system.specs.Start.{opening, with_input}
use Rattle.command_model.specs.Sweep.{lengths, run_head}

-- the one argument of the program, the most pages that it may have mapped, and the most steps of each run
abbrev pub load_args : List (List ℕ)
load_args = codes "load" ∷ []

abbrev pub load_pages : ℕ
load_pages = 512

abbrev pub load_budget : ℕ
load_budget = 1000000

-- the run alone of the image of a file's bytes at a length, without input
abbrev pub run_at : List ℕ → Image → ℕ → State
run_at file image bits = run (with_input (opening file image load_args bits load_pages) []) load_budget

-- two hexadecimal digits for each byte
abbrev pub bytes_text : List ℕ → List ℕ
bytes_text bytes = flat_map (hex 2) bytes

-- the line of a machine that has stopped: how it ended, its steps, and all that it wrote to file 1
abbrev pub run_line : ℕ → Parts → List ℕ → List ℕ
run_line bits m output = run_head bits m ++ codes "output " ++ bytes_text output ++ newline

-- the line of the run at a length
abbrev pub line_at : List ℕ → Image → ℕ → List ℕ
line_at file image bits = run_line bits (run_at file image bits).parts (run_at file image bits).output

-- the sixteen lines in order
abbrev pub load_text : List ℕ → Image → List ℕ
load_text file image = flat_map (line_at file image) lengths
