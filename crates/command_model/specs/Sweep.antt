-- A sweep: one program at each vector length, and a line on each. `sweep_text` is the whole of it. From docs/MANUAL.md,
-- `svemu sweep`; the limits and the form of the lines are this project's own choice.
use Rattle.std.specs.Prelude.{ℕ, ◌*◌, Bool, ◌&&◌, List, ◌++◌, length, map, flat_map, codes, nat_eq, nat_le, if◌then◌else◌}
use Rattle.std.specs.Fmt.{decimal}
use Rattle.std.specs.List.{common_prefix_len, list_all, range_with_len, take_while}
use Rattle.std.specs.Str.{bytes_eq}
use Rattle.emu_model.specs.State.{Parts, State}
use Rattle.emu_run.specs.Reports.{ending_text}
use Rattle.emu_run.specs.Run.{run}
use Rattle.emu_run.specs.Text.{newline}
use Rattle.emu_system.specs.Image.{Image}
use Rattle.emu_system.specs.Start.{opening, with_input}

-- what is run at each length: the image of a file's bytes, with these arguments, at most so many pages and so many
-- steps, and the whole of this input
pub record Sweep : Type 0 where
  pub file : List ℕ
  pub image : Image
  pub args : List (List ℕ)
  pub pages : ℕ
  pub budget : ℕ
  pub input : List ℕ

-- the first vector lengths in bits, so many of them
abbrev pub first_lengths : ℕ → List ℕ
first_lengths count = map (λ k. 128 * k) (range_with_len 1 count)

-- all of them: 128, 256, .. 2048
abbrev pub lengths : List ℕ
lengths = first_lengths 16

-- the run alone at a length
abbrev pub run_at : Sweep → ℕ → State
run_at s bits = run (with_input (opening s.file s.image s.args bits s.pages) s.input) s.budget

-- ---- the lines

-- whether an output is the first one, or the least place at which they differ or one of them has ended
abbrev pub part_text : List ℕ → List ℕ → List ℕ
part_text first output =
    if bytes_eq first output then codes "same" else codes "parts at " ++ decimal (common_prefix_len nat_eq first output)

-- how a machine that has stopped ended, at a length, and its steps
abbrev pub run_head : ℕ → Parts → List ℕ
run_head bits m =
    codes "vl " ++ decimal bits ++ codes " " ++ ending_text m m.ended ++ codes " after " ++ decimal m.steps
    ++ codes " steps "

-- the line of a machine that has stopped, which wrote this output and so many bytes of errors, beside the output at 128
-- bits
abbrev pub run_line : ℕ → List ℕ → Parts → List ℕ → ℕ → List ℕ
run_line bits first m output errors =
    run_head bits m ++ codes "out " ++ decimal (length output) ++ codes " err " ++ decimal errors ++ codes " "
    ++ part_text first output ++ newline

-- the line of the run at a length
abbrev pub line_at : Sweep → ℕ → List ℕ
line_at s bits =
    run_line bits (run_at s 128).output (run_at s bits).parts (run_at s bits).output (length (run_at s bits).errors)

-- the sixteen lines in order
abbrev pub sweep_text : Sweep → List ℕ
sweep_text s = flat_map (line_at s) lengths

-- ---- streams that are too long

-- the input, and the output and the errors of each run have at most so many bytes
abbrev pub stream_limit : ℕ
stream_limit = 16777216

abbrev pub fits_run : State → Bool
fits_run st = nat_le (length st.output) stream_limit && nat_le (length st.errors) stream_limit

abbrev pub fits_at : Sweep → ℕ → Bool
fits_at s bits = fits_run (run_at s bits)

-- the output and the errors fit at each length
abbrev pub fits : Sweep → Bool
fits s = list_all (fits_at s) lengths

-- the lines of the lengths before the first at which they don't fit
abbrev pub text_before : Sweep → List ℕ
text_before s = flat_map (line_at s) (take_while (fits_at s) lengths)
