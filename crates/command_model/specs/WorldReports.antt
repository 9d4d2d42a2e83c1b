-- What stands at the end of a run of contexts: one line on how their world stopped, and the registers of each. From
-- docs/MANUAL.md, "Threads"; the form of the lines is this project's own choice.
use Rattle.std.specs.Prelude.{ℕ, List, ◌++◌, length, codes}
use Rattle.std.specs.Fmt.{decimal}
use Rattle.emu_model.specs.State.{Core, Vectors}
use Rattle.emu_run.specs.Registers.{lines_of, scalar_lines, vector_lines}
use Rattle.emu_run.specs.Reports.{after_steps, exit_text, spent_text, trap_text}
use Rattle.emu_run.specs.Text.{newline}
use Rattle.emu_run.specs.declared.thread.WorldEnding.{WorldEnding}
use Rattle.emu_run.specs.declared.thread.WorldEnding.TheVariants.{Exit, Trap, Spent, Stuck}
use Rattle.emu_run.specs.Threads.{ending}
use Rattle.emu_run.specs.Worlds.{World, context}

-- how a world stopped
abbrev pub stop_text : WorldEnding → List ℕ
stop_text (Exit code) = exit_text code
stop_text (Trap t pc) = trap_text t pc
stop_text Spent = spent_text
stop_text Stuck = codes "stuck"

-- the registers of context k, behind its number
abbrev pub thread_line : ℕ → List ℕ
thread_line k = codes "thread " ++ decimal k ++ newline

abbrev pub context_lines : ℕ → Core → Vectors → List ℕ
context_lines k core vectors = thread_line k ++ (scalar_lines core vectors.bits ++ vector_lines vectors)

abbrev pub lines_of_context : World → ℕ → List ℕ
lines_of_context world k = context_lines k (context world k).core (context world k).vectors

-- those of all contexts in the order of their numbers
abbrev pub contexts_lines : World → List ℕ
contexts_lines world = lines_of (length world.contexts) (lines_of_context world)

-- the line, with the steps that all contexts took, and the registers
abbrev pub world_report : World → List ℕ
world_report world =
    (stop_text (ending world world.ended) ++ after_steps world.steps) ++ contexts_lines world
