-- A machine: its parts, the accesses of its last step, and whether a stream has failed; and beside these its marks.
use Rattle.std.specs.Prelude.{◌≡◌, ℕ, ◌%◌, Bool, true, false, ◌||◌, ◌&&◌, is_none, is_some, List, get_or, nat_eq, Option, Some, None, option_map}
use Rattle.std.specs.Ordering.{nat_cmp}
use Rattle.std.specs.FinMap.{FinMap}
use Rattle.std.specs.Coded.{Coded, code_by, coded×, coded_ℕ, coded_list, coded_bool}
use Rattle.std.proofs.Common.{refl}
use Rattle.a64_insn.specs.declared.form.A64Form.TheVariants.{Except}
use Rattle.a64_insn.specs.declared.ops.ExceptOp.TheVariants.{Svc}
use Rattle.emu_model.specs.declared.access.Access.{Access}
use Rattle.emu_model.specs.declared.program_break.Break.{Break}
use Rattle.emu_model.specs.declared.access.Kind.TheVariants.{Fetch}
use Rattle.emu_model.specs.Access.{Page, refused, value}
use Rattle.emu_model.specs.Marks.{Marks, coded_marks}
use Rattle.emu_model.specs.State.{Core, Vectors, Parts, State}
use Rattle.emu_model.specs.Codes.{coded_core, coded_parts, coded_vectors}
use Rattle.emu_run.specs.declared.insn.Insn.{Insn}
use Rattle.emu_run.specs.declared.insn.Insn.TheVariants.{A64}
use Rattle.emu_run.specs.Step.{decode, taken_by}
use Rattle.emu_system.specs.SystemCall.{call}
use Rattle.linux_calls.specs.Names.{NamesRead, NamesWrite}

-- what a mark keeps of a machine that hasn't ended, beside its pages
pub record Saved : Type 0 where
  pub core : Core
  pub vectors : Vectors
  pub brk : Break
  pub steps : ℕ

-- `accesses` are those of the last step, and none before the first; `failed` says that a stream failed in a step, which ends
-- the machine; `marks` are those of the memory, none or its pages, and `saved` has what each of them keeps beside these; a
-- machine without marks has none of both; `spare` is the number of frames that no page and no mark has
pub record MachineState : Type 0 where
  pub parts : Parts
  pub accesses : List Access
  pub failed : Bool
  pub marks : Marks
  pub saved : List Saved
  pub spare : ℕ

abbrev pub coded_access : Coded Access
coded_access = code_by (ℕ × (ℕ × Bool)) (coded× coded_ℕ (coded× coded_ℕ coded_bool)) (λ a. (a.address, (a.bytes, a.write)))
    (λ t. record { address = t.0; bytes = t.1.0; write = t.1.1 }) (λ _. refl)

abbrev pub coded_saved : Coded Saved
coded_saved = code_by (Core × (Vectors × ((ℕ × ℕ) × ℕ))) (coded× coded_core (coded× coded_vectors (coded× (coded× coded_ℕ coded_ℕ) coded_ℕ)))
    (λ s. (s.core, (s.vectors, ((s.brk.start, s.brk.now), s.steps))))
    (λ t. record { core = t.0; vectors = t.1.0; brk = record { start = t.1.1.0.0; now = t.1.1.0.1 }; steps = t.1.1.1 }) (λ _. refl)

abbrev pub coded_machine : Coded MachineState
coded_machine =
    code_by (Parts × (List Access × (Bool × (Marks × (List Saved × ℕ)))))
    (coded× coded_parts (coded× (coded_list coded_access) (coded× coded_bool (coded× coded_marks (coded× (coded_list coded_saved) coded_ℕ)))))
    (λ m. (m.parts, (m.accesses, (m.failed, (m.marks, (m.saved, m.spare))))))
    (λ t. record { parts = t.0; accesses = t.1.0; failed = t.1.1.0; marks = t.1.1.1.0; saved = t.1.1.1.1.0; spare = t.1.1.1.1.1 }) (λ _. refl)

-- by an exit, a trap or a fault of a stream
abbrev pub has_ended : MachineState → Bool
has_ended m = is_some m.parts.ended || m.failed

-- ---- marks

-- what a mark keeps of these parts beside their pages
abbrev pub saved_of : Parts → Saved
saved_of m = record { core = m.core; vectors = m.vectors; brk = m.brk; steps = m.steps }

-- the parts of a machine that hasn't ended, with a limit of pages
abbrev pub parts_saved : ℕ → Saved → FinMap nat_cmp Page → Parts
parts_saved limit s pages = record {
  core = s.core;
  vectors = s.vectors;
  memory = record { pages = pages; limit = limit };
  brk = s.brk;
  steps = s.steps;
  ended = None;
}

-- mark k: none, or a machine that hasn't ended
abbrev pub mark_at : MachineState → ℕ → Option Parts
mark_at m k = option_map (parts_saved m.parts.memory.limit (get_or m.saved k (saved_of m.parts))) (get_or m.marks k None)

-- ---- calls

-- what the call of a machine makes of it and of its streams
abbrev pub call_made : State → State
call_made st = taken_by st (call st.parts st.input)

-- ---- the call that a machine is about to make

abbrev pub is_svc : Option Insn → Bool
is_svc (Some (A64 (Except Svc imm16))) = true
is_svc insn = false

-- the word at the program counter is svc
abbrev pub is_at_call : Parts → Bool
is_at_call m = is_svc (decode (value m.memory m.core.pc 4))

-- it can be fetched, too: the next step makes a call
abbrev pub makes_call : Parts → Bool
makes_call m = nat_eq (m.core.pc % 4) 0 && is_none (refused m.memory m.core.pc 4 Fetch) && is_at_call m

-- the next instruction is a call that reads the input
pub record MakesRead (m : Parts) : Type 0 where
  pub svc : is_at_call m ≡ true
  pub names : NamesRead m.core

-- the next instruction is a call that writes to this file
pub record MakesWrite (m : Parts) (file : ℕ) : Type 0 where
  pub svc : is_at_call m ≡ true
  pub names : NamesWrite m.core file
