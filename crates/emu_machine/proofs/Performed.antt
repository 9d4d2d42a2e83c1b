-- An instruction that asks for a call is svc, and does nothing else.
use Rattle.std.proofs.Common.{◌≡◌, ℕ, Bool, true, false, List, [], Option, Some, None, is_none, if◌then◌else◌, refl, ap, sym, ◌∙◌}
use Rattle.std.specs.Prelude.{◌||◌, is_some}
use Rattle.a64_insn.specs.declared.form.A64Form.{A64Form}
use Rattle.a64_insn.specs.declared.form.A64Form.TheVariants.{Branch, BranchCond, Compare, Test, BranchReg, Except, Hint, Barrier, ReadSys, WriteSys}
use Rattle.a64_insn.specs.declared.ops.ExceptOp.TheVariants.{Svc, Brk, Hlt}
use Rattle.emu_bits.specs.Flags.{cond_of, cond_holds}
use Rattle.emu_bits.specs.Numbers.{width_of}
use Rattle.emu_model.specs.declared.access.Access.{Access}
use Rattle.emu_model.specs.declared.access.Kind.TheVariants.{Read as ReadKind, Write as WriteKind}
use Rattle.emu_model.specs.declared.trap.TrapKind.TheVariants.{SpAlign}
use Rattle.emu_model.specs.declared.trap.Effect.{Effect}
use Rattle.emu_model.specs.declared.trap.Effect.TheVariants.{Call}
use Rattle.emu_model.specs.Access.{Memory, refused, value}
use Rattle.emu_model.specs.declared.program_break.Break.{Break}
use Rattle.emu_model.specs.declared.trap.Ended.{Ended}
use Rattle.emu_model.specs.Marks.{Marks}
use Rattle.emu_model.specs.State.{Core, Vectors, read_x}
use Rattle.emu_run.specs.declared.insn.Insn.{Insn}
use Rattle.emu_run.specs.declared.insn.Insn.TheVariants.{A64, Sve}
use Rattle.a64_effects.specs.declared.groups.Group.TheVariants.{Flow}
use Rattle.a64_effects.specs.Effects as a64
use Rattle.a64_effects.specs.Effects.{performed_by}
use Rattle.a64_effects.specs.Groups.{group, same_group}
use Rattle.a64_effects.specs.Operations.{Operation, computes, flows, transfers, exchanges, copies, operation_of}
use Rattle.sve_insn.specs.declared.form.SveForm.{SveForm}
use Rattle.sve_effects.specs.Rows as sve
use Rattle.sve_effects.specs.FirstFault.{first_fault_row, first_refused, loaded_unless}
use Rattle.sve_effects.specs.FirstFaultParts.{first_fault_loaded}
use Rattle.sve_effects.specs.VectorRow.{VectorRow, performed_by as vector_performed_by, done_by_way}
use Rattle.sve_effects.specs.Rows.{row}
use Rattle.sve_effects.specs.VectorElements.{MemoryRow, Way, elements_of, row_layout}
use Rattle.sve_effects.specs.VectorLoadStore as memory_rows
use Rattle.a64_effects.specs.declared.transfer.Transfer.{Transfer}
use Rattle.a64_effects.specs.declared.transfer.Transfer.TheVariants.{Store, Load, LoadSigned, LoadSigned32, Prefetch, StoreVector, LoadVector}
use Rattle.emu_model.specs.Done.{Done, quietly, traps}
use Rattle.emu_model.specs.Elements.{Element, reach}
use Rattle.a64_effects.specs.Flow.{branches_if, is_taken, is_taken_by, digit, tested_bit, branch_target}
use Rattle.a64_effects.specs.Atomic.{exchanged, unless_refused, one_step}
use Rattle.a64_effects.specs.LoadStore.{Transferring, Exchanging, elements_from, is_misaligned, loaded_to, misaligned, stored_to, tested, transferred, transferred_by, exchanged_by, unless_misaligned, unless_multiple}
use Rattle.a64_effects.specs.Scalar.{operand}
use Rattle.emu_run.specs.Step.{performed}
use Rattle.emu_machine.specs.Machines.{MachineState, Saved, has_ended, is_svc}

-- this effect is no call
abbrev IsOther : Effect → Type 0
IsOther e = e ≡ Call → ⊥

module _ (c : Core) (v : Vectors) (m : Memory) where
  -- ---- loads and stores ask for none

  module _ (after : Core → Core) where
    stored_is_other : (t : Transfer) (stop : Option ℕ) (es : List Element) → IsOther (stored_to t (record { done = es; stop = stop }) after c v m).effect
    stored_is_other t None es = λ h. cc
    stored_is_other t (Some a) es = λ h. cc

    loaded_is_other : (t : Transfer) (stop : Option ℕ) (es : List Element) → IsOther (loaded_to t (record { done = es; stop = stop }) after c v m).effect
    loaded_is_other t None es = λ h. cc
    loaded_is_other t (Some a) es = λ h. cc

    stored_to_is_other : (t : Transfer) (es : List Element) → IsOther (stored_to t (reach m WriteKind es) after c v m).effect
    stored_to_is_other t es = stored_is_other t (reach m WriteKind es).stop (reach m WriteKind es).done

    loaded_to_is_other : (t : Transfer) (es : List Element) → IsOther (loaded_to t (reach m ReadKind es) after c v m).effect
    loaded_to_is_other t es = loaded_is_other t (reach m ReadKind es).stop (reach m ReadKind es).done

    transferred_is_other : (t : Transfer) (es : List Element) → IsOther (transferred t es after c v m).effect
    transferred_is_other Store es = stored_to_is_other Store es
    transferred_is_other StoreVector es = stored_to_is_other StoreVector es
    transferred_is_other Load es = loaded_to_is_other Load es
    transferred_is_other LoadSigned es = loaded_to_is_other LoadSigned es
    transferred_is_other LoadSigned32 es = loaded_to_is_other LoadSigned32 es
    transferred_is_other Prefetch es = loaded_to_is_other Prefetch es
    transferred_is_other LoadVector es = loaded_to_is_other LoadVector es

  unless_is_other : (o : Option ℕ) (d : Done) → IsOther d.effect → IsOther (unless_misaligned o c v m d).effect
  unless_is_other None d other = other
  unless_is_other (Some a) d other = λ h. cc

  tested_is_other : (has : Bool) (o : Option ℕ) (d : Done) → IsOther d.effect → IsOther (tested has o c v m d).effect
  tested_is_other has o d other = elim (is_misaligned has c) as (λ b. IsOther (if b then traps c v m SpAlign c.sp else unless_misaligned o c v m d).effect) [
    | true ↦ λ h. cc
    | false ↦ unless_is_other o d other
  ]

  exchanged_is_other : (a n : ℕ) (new : Option ℕ) (d : Core) → IsOther (exchanged a n new d v m).effect
  exchanged_is_other a n None d = λ h. cc
  exchanged_is_other a n (Some x) d = λ h. cc

  refused_is_other : (read written : Option ℕ) (d : Done) → IsOther d.effect → IsOther (unless_refused read written c v m d).effect
  refused_is_other (Some a) written d other = λ h. cc
  refused_is_other None (Some a) d other = λ h. cc
  refused_is_other None None d other = other

  one_step_is_other : (a n : ℕ) (new : ℕ → Option ℕ) (after : ℕ → Core) → IsOther (one_step a n new after c v m).effect
  one_step_is_other a n new after =
      let o : ℕ = value m a n in
      refused_is_other (refused m a n ReadKind) (refused m a n WriteKind) (exchanged a n (new o) (after o) v m) (exchanged_is_other a n (new o) (after o))

  transferred_by_is_other : (r : Transferring) → IsOther (transferred_by r c v m).effect
  transferred_by_is_other r =
      let es : List Element = elements_from r.registers r.address r.bytes in
      tested_is_other r.tests_sp (misaligned r.is_aligned r.address r.bytes) (transferred r.transfer es r.behind c v m) (transferred_is_other r.behind r.transfer es)

  exchanged_by_is_other : (r : Exchanging) → IsOther (exchanged_by r c v m).effect
  exchanged_by_is_other r =
      tested_is_other r.tests_sp (unless_multiple r.address r.bytes) (one_step r.address r.bytes r.new r.behind c v m) (one_step_is_other r.address r.bytes r.new r.behind)

  -- of the rows those of branches and the system alone can
  by_operation_is_other : (r : Operation) → same_group Flow (group r) ≡ false → IsOther (performed_by r c v m).effect
  by_operation_is_other (computes after) apart = λ h. cc
  by_operation_is_other (flows after effect) apart = λ h. cc
  by_operation_is_other (transfers row) apart = transferred_by_is_other (row c)
  by_operation_is_other (exchanges row) apart = exchanged_by_is_other (row c)
  by_operation_is_other (copies after) apart = λ h. cc

  -- ---- of the branches and system rows svc alone does

  -- where an instruction leaves this, it is svc
  abbrev AsksAlone : Insn → Done → Type 0
  AsksAlone i d = d.effect ≡ Call → (d ≡ quietly c v m Call) × (is_svc (Some i) ≡ true)

  branches_if_is_other : (taken : Bool) (a : ℕ) → IsOther (branches_if taken a)
  branches_if_is_other true a = λ h. cc
  branches_if_is_other false a = λ h. cc

  a64_alone : (form : A64Form) → AsksAlone (A64 form) (a64.performed form c v m)
  a64_alone (Branch op imm26) = λ h. absurd (cc)
  a64_alone (BranchCond imm19 cond) = λ h. absurd (branches_if_is_other (cond_holds (cond_of cond) c.flags) (branch_target c 19 imm19) h)
  a64_alone (Compare op sf imm19 rt) = λ h. absurd (branches_if_is_other (is_taken op (operand (width_of sf) c rt)) (branch_target c 19 imm19) h)
  a64_alone (Test op b5 b40 imm14 rt) = λ h. absurd (branches_if_is_other (is_taken_by op (digit (read_x c rt) (tested_bit b5 b40))) (branch_target c 14 imm14) h)
  a64_alone (BranchReg op rn) = λ h. absurd (cc)
  a64_alone (Except Svc imm16) = λ h. (refl, refl)
  a64_alone (Except Brk imm16) = λ h. absurd (cc)
  a64_alone (Except Hlt imm16) = λ h. absurd (cc)
  a64_alone (Hint n) = λ h. absurd (cc)
  a64_alone (Barrier op n) = λ h. absurd (cc)
  a64_alone (ReadSys op rt) = λ h. absurd (cc)
  a64_alone (WriteSys op rt) = λ h. absurd (cc)
  a64_alone form = λ h. absurd (by_operation_is_other (operation_of form) refl h)

  -- ---- no SVE row does

  vector_loaded_is_other : (stop : Option ℕ) (es : List Element) (after : Vectors) → IsOther (memory_rows.loaded_to (record { done = es; stop = stop }) after c v m).effect
  vector_loaded_is_other None es after = λ h. cc
  vector_loaded_is_other (Some a) es after = λ h. cc

  vector_stored_is_other : (stop : Option ℕ) (es : List Element) (stores : Element → ℕ) → IsOther (memory_rows.stored_to (record { done = es; stop = stop }) stores c v m).effect
  vector_stored_is_other None es stores = λ h. cc
  vector_stored_is_other (Some a) es stores = λ h. cc

  unless_sp_is_other : (has_base : Bool) (es : List Element) (d : Done) → IsOther d.effect → IsOther (memory_rows.unless_misaligned has_base es c v m d).effect
  unless_sp_is_other has_base es d other = elim (memory_rows.is_misaligned has_base es c) as (λ b. IsOther (if b then traps c v m SpAlign c.sp else d).effect) [
    | true ↦ λ h. cc
    | false ↦ other
  ]

  load_row_is_other : (r : MemoryRow) → IsOther (memory_rows.load_row r c v m).effect
  load_row_is_other r =
      let l = row_layout r c v in
      let far = reach m ReadKind (elements_of l) in
      let after = memory_rows.after_load r.choice r.width.is_signed l m v in
      unless_sp_is_other (memory_rows.has_sp_base r.brackets) (elements_of l) (memory_rows.loaded_to far after c v m) (vector_loaded_is_other far.stop far.done after)

  store_row_is_other : (r : MemoryRow) → IsOther (memory_rows.store_row r c v m).effect
  store_row_is_other r =
      let l = row_layout r c v in
      let far = reach m WriteKind (elements_of l) in
      let stores = memory_rows.element_stored r.choice l v in
      unless_sp_is_other (memory_rows.has_sp_base r.brackets) (elements_of l) (memory_rows.stored_to far stores c v m) (vector_stored_is_other far.stop far.done stores)

  loaded_unless_is_other : (o : Option ℕ) (d : Done) → IsOther d.effect → IsOther (loaded_unless o d c v m).effect
  loaded_unless_is_other None d other = other
  loaded_unless_is_other (Some a) d other = λ h. cc

  first_fault_is_other : (never_traps : Bool) (r : MemoryRow) (es : List Element) → IsOther (first_fault_row never_traps r es c v m).effect
  first_fault_is_other never_traps r es =
      let d = first_fault_loaded r.width.is_signed r.width.bits r.first es c v m in
      let o : Option ℕ = if never_traps then None else first_refused m es in
      unless_sp_is_other (memory_rows.has_sp_base r.brackets) es (loaded_unless o d c v m) (loaded_unless_is_other o d (λ h. cc))

  way_is_other : (way : Way) (r : MemoryRow) → IsOther (done_by_way way r c v m).effect
  way_is_other Way.loads r = load_row_is_other r
  way_is_other Way.stores r = store_row_is_other r
  way_is_other Way.first_faults r = first_fault_is_other false r (elements_of (row_layout r c v))
  way_is_other Way.non_faults r = first_fault_is_other true r (elements_of (row_layout r c v))

  row_is_other : (r : VectorRow) → IsOther (vector_performed_by r c v m).effect
  row_is_other (VectorRow.by_lanes f) = λ h. cc
  row_is_other (VectorRow.by_registers f) = λ h. cc
  row_is_other (VectorRow.memory r) = way_is_other r.way r

  sve_is_other : (form : SveForm) → IsOther (sve.performed form c v m).effect
  sve_is_other form = row_is_other (row form)

  performed_alone : (i : Insn) → AsksAlone i (performed i c v m)
  performed_alone (A64 form) = a64_alone form
  performed_alone (Sve form) = λ h. absurd (sve_is_other form h)

-- ---- what such an instruction leaves

pub record AsksFor (i : Insn) (c d : Core) (v w : Vectors) (m n : Memory) (accesses : List Access) : Type 0 where
  pub svc : is_svc (Some i) ≡ true
  pub core : d ≡ c
  pub vectors : w ≡ v
  pub memory : n ≡ m
  pub none : accesses ≡ []

-- svc asks for a call
svc_asks : (i : Insn) (c : Core) (v : Vectors) (m : Memory) → is_svc (Some i) ≡ true → (performed i c v m).effect ≡ Call
svc_asks (A64 (Except Svc imm16)) c v m h = refl
svc_asks i c v m h = cc

-- so an instruction that asks for none isn't svc
pub not_svc : (i : Insn) (c : Core) (v : Vectors) (m : Memory) (e : Effect) → (performed i c v m).effect ≡ e → (e ≡ Call → ⊥) → is_svc (Some i) ≡ false
not_svc i c v m e is other =
    elim (is_svc (Some i)) as (λ b. is_svc (Some i) ≡ b → b ≡ false) [
      | true ↦ λ h. absurd (other (sym is ∙ svc_asks i c v m h))
      | false ↦ λ h. refl
    ] refl

pub asks_for : (i : Insn) (c d : Core) (v w : Vectors) (m n : Memory) (l : List Access) (e : Effect)
    → performed i c v m ≡ record { core = d; vectors = w; memory = n; accesses = l; effect = e } → e ≡ Call → AsksFor i c d v w m n l
asks_for i c d v w m n l e is call =
    let left : Done = record { core = d; vectors = w; memory = n; accesses = l; effect = e } in
    let alone = performed_alone c v m i (ap (λ (x : Done). x.effect) is ∙ call) in
    let same : left ≡ quietly c v m Call = sym is ∙ alone.0 in
    record {
      svc = alone.1;
      core = ap (λ (x : Done). x.core) same;
      vectors = ap (λ (x : Done). x.vectors) same;
      memory = ap (λ (x : Done). x.memory) same;
      none = ap (λ (x : Done). x.accesses) same;
    }

abbrev pub machine_of : Core → Vectors → Memory → Break → ℕ → Option Ended → List Access → Bool → Marks → List Saved → ℕ → MachineState
machine_of c vectors m brk steps ended l failed marks saved spare = record {
  parts = record { core = c; vectors = vectors; memory = m; brk = brk; steps = steps; ended = ended };
  accesses = l;
  failed = failed;
  marks = marks;
  saved = saved;
  spare = spare;
}

pub same_machine : (c d : Core) (v w : Vectors) (m n : Memory) (brk : Break) (steps : ℕ) (ended : Option Ended) (k l : List Access) (failed : Bool) (marks : Marks) (saved : List Saved) (spare : ℕ) → d ≡ c → w ≡ v → n ≡ m → l ≡ k
    → machine_of d w n brk steps ended l failed marks saved spare ≡ machine_of c v m brk steps ended k failed marks saved spare
same_machine c d v w m n brk steps ended k l failed marks saved spare core vectors memory accesses = cc

-- a machine that hasn't ended hasn't failed
pub not_failed : (m : MachineState) → has_ended m ≡ false → m.failed ≡ false
not_failed m going = by_end (is_some m.parts.ended) going
  where
    by_end : (b : Bool) → (b || m.failed) ≡ false → m.failed ≡ false
    by_end true is = cc
    by_end false is = is

-- and one that neither ended nor failed goes on
pub still_goes : (m : MachineState) → is_none m.parts.ended ≡ true → m.failed ≡ false → has_ended m ≡ false
still_goes m none fine = by_end m.parts.ended none
  where
    by_end : (e : Option Ended) → is_none e ≡ true → (is_some e || m.failed) ≡ false
    by_end None is = fine
    by_end (Some x) is = cc
