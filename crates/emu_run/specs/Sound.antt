-- Each step keeps a state sound.
use Rattle.std.specs.Prelude.{ℕ, ◌+◌, ◌%◌, true, false, List, Option, Some, None, IfSome, nat_eq, if◌then◌else◌}
use Rattle.emu_model.specs.declared.access.Kind.TheVariants.{Fetch as FetchKind}
use Rattle.emu_model.specs.declared.trap.TrapKind.{TrapKind}
use Rattle.emu_model.specs.declared.trap.TrapKind.TheVariants.{Undefined, PcAlign, Fetch}
use Rattle.emu_model.specs.declared.trap.Effect.{Effect}
use Rattle.emu_model.specs.declared.trap.Effect.TheVariants.{Next, Branch, Call, Trap as Trapping}
use Rattle.emu_model.specs.Access.{Memory, address, refused, value}
use Rattle.emu_model.specs.State.{Core, Vectors, Parts, State}
use Rattle.emu_model.specs.SoundState.{IsWord, IsByte, AreBytes, IsSoundCore, IsSoundVectors, IsSoundMemory, IsSoundParts, IsSound}
use Rattle.emu_model.specs.SoundLists.{all_append}
use Rattle.emu_model.specs.Sound.{address_is_word, refused_is_word}
use Rattle.emu_run.specs.declared.insn.Insn.{Insn}
use Rattle.emu_run.specs.declared.insn.Insn.TheVariants.{A64, Sve}
use Rattle.emu_model.specs.Done.{Done}
use Rattle.emu_model.specs.SoundDone.{IsSoundEffect, IsSoundDone}
use Rattle.a64_effects.specs.SoundEffects.{performed_sound as a64_sound}
use Rattle.sve_effects.specs.SoundEffects.{performed_sound as sve_sound}
use Rattle.emu_system.specs.SoundCall.{IsSoundTurn, quiet_sound, went_on_sound, call_sound}
use Rattle.emu_system.specs.SystemCall.{Stepped, quiet, went_on}
use Rattle.emu_run.specs.Step.{decode, performed, trapped, finished, undefined, executed, fetched, step_from, taken_by, step}

-- ---- what an instruction leaves

performed_sound : (i : Insn) (c : Core) (v : Vectors) (m : Memory) → IsSoundCore c → IsSoundVectors v → IsSoundMemory m → IsSoundDone (performed i c v m)
performed_sound (A64 form) c v m s u t = a64_sound form c v m s u t
performed_sound (Sve form) c v m s u t = sve_sound form c v m s u t

-- ---- what a step makes of the machine

trapped_sound : (m : Parts) (kind : TrapKind) (a : ℕ) → IsSoundParts m → IsWord a → IsSoundParts (trapped m kind a)
trapped_sound m kind a s w = record { core = s.core; vectors = s.vectors; memory = s.memory; brk = s.brk; ended = w }

-- ---- a step

finished_sound : (m : Parts) (input : List ℕ) (c : Core) (v : Vectors) (memory : Memory) (e : Effect) → IsSoundParts m → AreBytes input → IsSoundCore c → IsSoundVectors v → IsSoundMemory memory → IsSoundEffect e → IsSoundTurn (finished m input c v memory e)
finished_sound m input c v memory Next s bytes core vectors mem w = quiet_sound (went_on m c v memory (address (c.pc + 4))) input (went_on_sound m c v memory (address (c.pc + 4)) s core vectors mem (address_is_word (c.pc + 4))) bytes
finished_sound m input c v memory (Branch a) s bytes core vectors mem w = quiet_sound (went_on m c v memory a) input (went_on_sound m c v memory a s core vectors mem w) bytes
finished_sound m input c v memory Call s bytes core vectors mem w = call_sound m input s bytes
finished_sound m input c v memory (Trapping t) s bytes core vectors mem w =
    let n : Parts = record m { core = c; vectors = v; memory = memory } in
    let sound : IsSoundParts n = record { core = core; vectors = vectors; memory = mem; brk = s.brk; ended = s.ended } in
    quiet_sound (trapped n t.kind t.address) input (trapped_sound n t.kind t.address sound w) bytes

undefined_sound : (m : Parts) (input : List ℕ) → IsSoundParts m → AreBytes input → IsSoundTurn (undefined m input)
undefined_sound m input s bytes = quiet_sound (trapped m Undefined m.core.pc) input (trapped_sound m Undefined m.core.pc s s.core.pc) bytes

executed_sound : (m : Parts) (input : List ℕ) (i : Option Insn) → IsSoundParts m → AreBytes input → IsSoundTurn (executed m input i)
executed_sound m input None s bytes = undefined_sound m input s bytes
executed_sound m input (Some i) s bytes =
    let d : Done = performed i m.core m.vectors m.memory in
    let sound : IsSoundDone d = performed_sound i m.core m.vectors m.memory s.core s.vectors s.memory in
    finished_sound m input d.core d.vectors d.memory d.effect s bytes sound.core sound.vectors sound.memory sound.effect

fetched_sound : (m : Parts) (input : List ℕ) (o : Option ℕ) → IfSome o IsWord → IsSoundParts m → AreBytes input → IsSoundTurn (fetched m input o)
fetched_sound m input (Some a) w s bytes = quiet_sound (trapped m Fetch a) input (trapped_sound m Fetch a s w) bytes
fetched_sound m input None w s bytes = executed_sound m input (decode (value m.memory m.core.pc 4)) s bytes

turn_sound : (m : Parts) (input : List ℕ) → IsSoundParts m → AreBytes input → IsSoundTurn (step_from m input)
turn_sound m input s bytes =
    let o : Option ℕ = refused m.memory m.core.pc 4 FetchKind in
    elim (nat_eq (m.core.pc % 4) 0) as (λ b. IsSoundTurn (if b then fetched m input o else quiet (trapped m PcAlign m.core.pc) input)) [
      | true ↦ fetched_sound m input o (refused_is_word m.memory m.core.pc 4 FetchKind) s bytes
      | false ↦ quiet_sound (trapped m PcAlign m.core.pc) input (trapped_sound m PcAlign m.core.pc s s.core.pc) bytes
    ]

taken_sound : (st : State) (t : Stepped) → IsSound st → IsSoundTurn t → IsSound (taken_by st t)
taken_sound st t s u = record { parts = u.parts; input = u.input; output = all_append IsByte st.output t.output s.output u.output; errors = all_append IsByte st.errors t.errors s.errors u.errors }

pub step_sound : (st : State) → IsSound st → IsSound (step st)
step_sound st s = taken_sound st (step_from st.parts st.input) s (turn_sound st.parts st.input s.parts s.input)
