-- Where a session whose commands only go forward may be broken off, by the states alone.
use Rattle.std.specs.Prelude.{◌≡◌, ◌<◌, ◌⊎◌, ℕ, List, take, Option}
use Rattle.command_lines.specs.declared.ending.Ending.{Ending}
use Rattle.command_lines.specs.declared.ending.Ending.TheVariants.{WriteFault}
use Rattle.dbg_model.specs.Forward.{session}
use Rattle.dbg_model.specs.declared.script.Command.{Command}
use Rattle.emu_model.specs.State.{Parts, State}
use Rattle.emu_run.specs.Run.{until_end}
use Rattle.emu_system.specs.Start.{with_input}
use Rattle.commands.specs.Whole.{AtCall}

-- behind the first commands and so many steps, of which with those before fewer than the budget were counted; or just
-- behind these commands, where a line of the session couldn't be put
abbrev pub InForward : List Command → Parts → ℕ → Ending → Option (List ℕ) → List ℕ → State → Type 0
InForward commands m budget ending left input st =
    (first : ℕ) × (n : ℕ) × (st ≡ until_end (session (take first commands) budget (with_input m input)) n)
    × (((within : st.parts.steps < budget) × AtCall ending left st) ⊎ ((n ≡ 0) × (ending ≡ WriteFault)))
