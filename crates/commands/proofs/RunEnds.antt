-- The ending of a run: whether it is a failure, and which ending it is; and what a session leaves of the input.
use Rattle.std.proofs.Common.{◌≡◌, ℕ, ◌-◌, List, Option, Some, None, refl, sym, subst}
use Rattle.dbg_model.specs.declared.script.Command.{Command}
use Rattle.dbg_model.specs.Reached.{IsReached, sessions_are_reached}
use Rattle.dbg_model.specs.Forward.{session}
use Rattle.emu_model.specs.State.{Parts, State}
use Rattle.emu_model.specs.declared.trap.Ended.{Ended}
use Rattle.emu_model.specs.declared.trap.Ended.TheVariants.{Exit as Exited, Trap as Trapped}
use Rattle.command_lines.specs.Outcome.{ending_of}
use Rattle.emu_run.specs.RunLaws.{IsRest, until_end_moves}
use Rattle.emu_machine.specs.declared.ends.RunEnd.{RunEnd}
use Rattle.emu_machine.specs.declared.ends.RunEnd.TheVariants as runs
use Rattle.emu_machine.specs.Ends.{run_end, is_broken_off}
use Rattle.commands.specs.Endings.{ending_by}
use Rattle.commands.specs.Promises.{is_failure}

pub broken_is : (end : RunEnd) (pc : ℕ) → is_failure (ending_by end pc) ≡ is_broken_off end
broken_is (runs.Exit code) pc = refl
broken_is (runs.Trap trap) pc = refl
broken_is runs.Spent pc = refl
broken_is runs.ReadFault pc = refl
broken_is runs.WriteFault pc = refl
broken_is runs.ErrorsFault pc = refl

-- the ending of a run whose steps were done is that of its machine
pub ending_is : (m : Parts) (ended : Option Ended) → ending_by (run_end ended) m.core.pc ≡ ending_of m ended
ending_is m None = refl
ending_is m (Some (Exited code)) = refl
ending_is m (Some (Trapped trap)) = refl

-- a session leaves a rest of the input, since it moves by steps
pub session_rest : (commands : List Command) (budget : ℕ) (st : State) → IsRest st.input (session commands budget st).input
session_rest commands budget st =
    let r : IsReached (budget - st.parts.steps) st (session commands budget st) = sessions_are_reached commands budget st in
    subst (λ (xs : List ℕ). IsRest st.input xs) (sym r.input) (until_end_moves st r.count).input
