-- One step: the word at the program counter is fetched and decoded, and its instruction is done. From the Arm
-- Architecture Reference Manual for A-profile (DDI 0487): the alignment of PC by AArch64.CheckPCAlignment of J1, words
-- by C4. That a step which traps isn't counted, and what counts as an access, are this project's own choice.
use Rattle.std.specs.Prelude.{ℕ, ◌+◌, ◌%◌, List, [], ◌++◌, Option, Some, None, nat_eq, if◌then◌else◌}
use Rattle.std.specs.Option.{option_map, option_or}
use Rattle.emu_bits.specs.Rows.{instruction}
use Rattle.a64_insn.specs.Table.{a64_table}
use Rattle.sve_insn.specs.Table.{sve_table}
use Rattle.emu_model.specs.declared.access.Access.{Access}
use Rattle.emu_model.specs.declared.access.Kind.TheVariants.{Fetch as FetchKind}
use Rattle.emu_model.specs.declared.trap.TrapKind.{TrapKind}
use Rattle.emu_model.specs.declared.trap.TrapKind.TheVariants.{Undefined, PcAlign, Fetch}
use Rattle.emu_model.specs.declared.trap.Effect.{Effect}
use Rattle.emu_model.specs.declared.trap.Effect.TheVariants.{Next, Branch, Call, Trap as Trapping}
use Rattle.emu_model.specs.declared.trap.Ended.TheVariants.{Trap as Trapped}
use Rattle.emu_model.specs.Access.{Memory, address, refused, value}
use Rattle.emu_model.specs.State.{Core, Vectors, Parts, State}
use Rattle.emu_model.specs.Done.{Done}
use Rattle.a64_effects.specs.Effects as a64_effects
use Rattle.sve_effects.specs.Rows as sve_effects
use Rattle.emu_system.specs.SystemCall.{Stepped, quiet, went_on, call}
use Rattle.emu_run.specs.declared.insn.Insn.{Insn}
use Rattle.emu_run.specs.declared.insn.Insn.TheVariants.{A64, Sve}

-- the instruction of a word, where it is in a row; no word is in a row of both tables
abbrev pub decode : ℕ → Option Insn
decode word = option_or (option_map A64 (instruction a64_table word)) (option_map Sve (instruction sve_table word))

-- what an instruction does
abbrev pub performed : Insn → Core → Vectors → Memory → Done
performed (A64 form) c v m = a64_effects.performed form c v m
performed (Sve form) c v m = sve_effects.performed form c v m

-- ends by a trap, with no step counted
abbrev pub trapped : Parts → TrapKind → ℕ → Parts
trapped parts kind a = record parts { ended = Some (Trapped (record { kind = kind; address = a })) }

-- goes on behind the instruction or where it branched, makes its call, or traps
abbrev pub finished : Parts → List ℕ → Core → Vectors → Memory → Effect → Stepped
finished parts input c v m Next = quiet (went_on parts c v m (address (c.pc + 4))) input
finished parts input c v m (Branch a) = quiet (went_on parts c v m a) input
finished parts input c v m Call = call parts input
finished parts input c v m (Trapping t) =
    quiet (trapped (record parts { core = c; vectors = v; memory = m }) t.kind t.address) input

abbrev pub finish : Parts → List ℕ → Done → Stepped
finish parts input d = finished parts input d.core d.vectors d.memory d.effect

abbrev pub undefined : Parts → List ℕ → Stepped
undefined parts input = quiet (trapped parts Undefined parts.core.pc) input

abbrev pub executed : Parts → List ℕ → Option Insn → Stepped
executed parts input None = undefined parts input
executed parts input (Some i) = finish parts input (performed i parts.core parts.vectors parts.memory)

abbrev pub fetched : Parts → List ℕ → Option ℕ → Stepped
fetched parts input (Some a) = quiet (trapped parts Fetch a) input
fetched parts input None = executed parts input (decode (value parts.memory parts.core.pc 4))

-- what a step of a machine that hasn't ended makes of it and of its input, and what it puts
abbrev pub step_from : Parts → List ℕ → Stepped
step_from parts input =
    if nat_eq (parts.core.pc % 4) 0 then fetched parts input (refused parts.memory parts.core.pc 4 FetchKind)
    else quiet (trapped parts PcAlign parts.core.pc) input

-- The accesses that a step makes to the elements of its instruction, in order. The fetch isn't one of them, nor is what
-- a call reads or writes, and a refused element isn't.
abbrev pub executed_accesses : Parts → Option Insn → List Access
executed_accesses parts None = []
executed_accesses parts (Some i) = (performed i parts.core parts.vectors parts.memory).accesses

abbrev pub fetched_accesses : Parts → Option ℕ → List Access
fetched_accesses parts (Some a) = []
fetched_accesses parts None = executed_accesses parts (decode (value parts.memory parts.core.pc 4))

abbrev pub accesses : Parts → List Access
accesses parts =
    if nat_eq (parts.core.pc % 4) 0 then fetched_accesses parts (refused parts.memory parts.core.pc 4 FetchKind)
    else []

-- what is put comes behind what was written
abbrev pub taken_by : State → Stepped → State
taken_by st t =
    record { parts = t.parts; input = t.input; output = st.output ++ t.output; errors = st.errors ++ t.errors }

-- one step of a machine that hasn't ended
abbrev pub step : State → State
step st = taken_by st (step_from st.parts st.input)
