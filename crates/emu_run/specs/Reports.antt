-- What stands at the end of a run: one line on how the machine ended, and its registers. The form of the lines is this
-- project's own choice, as docs/MANUAL.md has it under "What you see" and "Traps".
use Rattle.std.specs.Prelude.{ℕ, List, ◌++◌, codes, Option, Some, None}
use Rattle.std.specs.Fmt.{decimal}
use Rattle.emu_model.specs.declared.trap.Ended.{Ended}
use Rattle.emu_model.specs.declared.trap.Ended.TheVariants.{Exit as Exited, Trap as Trapped}
use Rattle.emu_model.specs.declared.trap.Trap.{Trap}
use Rattle.emu_model.specs.declared.trap.TrapKind.{TrapKind}
use Rattle.emu_model.specs.declared.trap.TrapKind.TheVariants.{Undefined, Halt, Break, PcAlign, SpAlign, AccessAlign, Fetch, Read, Write}
use Rattle.emu_model.specs.State.{Parts}
use Rattle.emu_run.specs.Registers.{register_lines}
use Rattle.emu_run.specs.Text.{hex, newline}

-- a trap's kind as it is printed
abbrev pub trap_name : TrapKind → List ℕ
trap_name Undefined = codes "undefined"
trap_name Halt = codes "halt"
trap_name Break = codes "break"
trap_name PcAlign = codes "pc-align"
trap_name SpAlign = codes "sp-align"
trap_name AccessAlign = codes "access-align"
trap_name Fetch = codes "fetch"
trap_name Read = codes "read"
trap_name Write = codes "write"

abbrev pub address_text : ℕ → List ℕ
address_text a = codes "0x" ++ hex 16 a

abbrev pub after_steps : ℕ → List ℕ
after_steps steps = codes " after " ++ decimal steps ++ codes " steps" ++ newline

-- how a machine ended, by itself
abbrev pub exit_text : ℕ → List ℕ
exit_text code = codes "exit " ++ decimal code

abbrev pub trap_text : Trap → ℕ → List ℕ
trap_text t pc =
    codes "trap " ++ trap_name t.kind ++ codes " " ++ address_text t.address ++ codes " at " ++ address_text pc

abbrev pub spent_text : List ℕ
spent_text = codes "spent"

-- of one that has stopped; where it hasn't ended its budget is spent
abbrev pub ending_text : Parts → Option Ended → List ℕ
ending_text parts None = spent_text
ending_text parts (Some (Exited code)) = exit_text code
ending_text parts (Some (Trapped t)) = trap_text t parts.core.pc

-- the same as a line, with the steps that were counted
abbrev pub ending_line : Parts → Option Ended → List ℕ
ending_line parts ended = ending_text parts ended ++ after_steps parts.steps

-- that line, and the registers
abbrev pub report : Parts → List ℕ
report parts = ending_line parts parts.ended ++ register_lines parts
