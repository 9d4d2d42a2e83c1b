-- The runs of `count`, and the lines that it writes of them.
use Rattle.std.specs.Prelude.{◌≡◌, ℕ, Bool, List, [], ◌∷◌, ◌++◌, codes, flat_map, map, Option, Some, None, if◌then◌else◌}
use Rattle.std.specs.Fmt.{decimal}
use Rattle.emu_model.specs.declared.trap.Ended.{Ended}
use Rattle.emu_model.specs.declared.trap.Ended.TheVariants.{Exit, Trap}
use Rattle.emu_run.specs.Reports.{after_steps, exit_text, spent_text, trap_text}
use Rattle.emu_system.specs.Image.{Image}
use Rattle.emu_system.specs.Start.{opening, with_input}
use Rattle.command_model.specs.Sweep.{Sweep, run_at}
use Rattle.word_counts.specs.Counts.{Counts, count_at}
use Rattle.word_counts.specs.Lines.{count_lines}
use Rattle.run_counts.specs.Visits.{visits}
use Rattle.tool_counts.specs.declared.stops.Stopped.{Stopped}

-- the runs of an image
abbrev pub sweep_of : List ℕ → Image → List (List ℕ) → ℕ → ℕ → List ℕ → Sweep
sweep_of file image args pages budget input = record { file = file; image = image; args = args; pages = pages; budget = budget; input = input }

-- how often the run at a length stood in a word before a step that it counted
abbrev pub counts_at : Sweep → ℕ → ℕ → ℕ
counts_at s bits word = visits word (with_input (opening s.file s.image s.args bits s.pages) s.input) (run_at s bits).parts.steps

-- how it stopped
abbrev pub stop_at : Sweep → ℕ → Stopped
stop_at s bits = record { length = bits; ended = (run_at s bits).parts.ended; pc = (run_at s bits).parts.core.pc; steps = (run_at s bits).parts.steps }

-- ---- lines

-- as `svemu run` says it
abbrev pub ended_text : Option Ended → ℕ → List ℕ
ended_text None pc = spent_text
ended_text (Some (Exit code)) pc = exit_text code
ended_text (Some (Trap t)) pc = trap_text t pc

-- `vl 128 `
abbrev pub head_text : ℕ → List ℕ
head_text bits = (codes "vl " ++ decimal bits) ++ codes " "

-- `exit 0 after 97 steps`, where it is to be told behind the vector length
abbrev pub stop_line : Bool → Stopped → List ℕ
stop_line headed stop = ((if headed then head_text stop.length else []) ++ ended_text stop.ended stop.pc) ++ after_steps stop.steps

abbrev pub stop_lines : Bool → List Stopped → List ℕ
stop_lines headed stops = flat_map (stop_line headed) stops

-- the lines of the words, and then those of the endings
abbrev pub counted_text : Sweep → List ℕ → Bool → List ℕ
counted_text s lengths headed = count_lines (counts_at s) lengths ++ flat_map (λ bits. stop_line headed (stop_at s bits)) lengths

-- ---- what was counted

-- the counts of the run at a length, and how it stopped
pub record IsCountedAt (s : Sweep) (bits : ℕ) (table : Counts) (stopped : Stopped) : Type 0 where
  pub counts : (word : ℕ) → count_at table word ≡ counts_at s bits word
  pub stop : stopped ≡ stop_at s bits

-- the counts of the runs at several, in order
abbrev pub HaveCounts : Sweep → List ℕ → List Counts → Type 0
HaveCounts s [] [] = Unit {0}
HaveCounts s [] (table ∷ tables) = ⊥
HaveCounts s (bits ∷ lengths) [] = ⊥
HaveCounts s (bits ∷ lengths) (table ∷ tables) = ((word : ℕ) → count_at table word ≡ counts_at s bits word) × HaveCounts s lengths tables

-- and how each stopped
pub record AreCounted (s : Sweep) (lengths : List ℕ) (tables : List Counts) (stopped : List Stopped) : Type 0 where
  pub counts : HaveCounts s lengths tables
  pub stops : stopped ≡ map (stop_at s) lengths
