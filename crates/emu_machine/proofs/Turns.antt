-- The turn of a step, by its fetch and its instruction.
use Rattle.std.specs.Prelude.{⊤}
use Rattle.std.proofs.Common.{◌≡◌, ℕ, ◌%◌, ◌+◌, Bool, true, false, ◌&&◌, List, [], Option, Some, None, Ok, Err, is_none, nat_eq, refl, ap, sym, subst, ◌∙◌, eq-eqb, if◌then◌else◌}
use Rattle.std.proofs.lemmas.Bool.{ne_eqb}
use Rattle.a64_insn.specs.declared.form.A64Form.TheVariants.{Except}
use Rattle.a64_insn.specs.declared.ops.ExceptOp.TheVariants.{Svc}
use Rattle.emu_model.specs.declared.access.Denied.{Denied}
use Rattle.emu_model.specs.declared.access.Kind.{Kind}
use Rattle.emu_model.specs.declared.access.Kind.TheVariants.{Fetch}
use Rattle.emu_model.specs.declared.trap.TrapKind.{TrapKind}
use Rattle.emu_model.specs.declared.trap.TrapKind.TheVariants.{PcAlign, Undefined, Fetch as TrapFetch}
use Rattle.emu_model.specs.Access.{refused, value}
use Rattle.emu_model.specs.LoadsAndStores.{done_unless}
use Rattle.emu_model.specs.State.{Parts}
use Rattle.emu_run.specs.declared.insn.Insn.{Insn}
use Rattle.emu_run.specs.declared.insn.Insn.TheVariants.{A64}
use Rattle.emu_run.specs.Step.{accesses, decode, executed, executed_accesses, fetched, fetched_accesses, trapped, step_from}
use Rattle.emu_system.specs.SystemCall.{call, quiet}
use Rattle.emu_machine.specs.Advances.{EndsBy, MatchCall}
use Rattle.emu_machine.specs.declared.ends.Progress.{Progress}
use Rattle.emu_machine.specs.declared.ends.Progress.TheVariants.{GoesOn, Trapped, AtCall}
use Rattle.emu_machine.specs.Machines.{MachineState, has_ended, is_at_call, is_svc, makes_call}
use Rattle.emu_machine.proofs.Left.{HasDone}
use Rattle.emu_machine.proofs.Performed.{not_failed}

-- an access that was done
pub done_is : (o : Option ℕ) (kind : Kind) (x y : ℕ) → Ok x ≡ done_unless o kind y → (o ≡ None) × (x ≡ y)
done_is None kind x y is = (refl, cc)
done_is (Some a) kind x y is = cc

-- the word at the program counter was fetched
pub record HasFetched (m : Parts) (word : ℕ) : Type 0 where
  pub aligned : m.core.pc % 4 ≡ 0
  pub done : Ok word ≡ done_unless (refused m.memory m.core.pc 4 Fetch) Fetch (value m.memory m.core.pc 4)

module _ (m : Parts) (word : ℕ) (has : HasFetched m word) where
  fetched_word : (refused m.memory m.core.pc 4 Fetch ≡ None) × (word ≡ value m.memory m.core.pc 4)
  fetched_word = done_is (refused m.memory m.core.pc 4 Fetch) Fetch word (value m.memory m.core.pc 4) has.done

  -- a turn does the instruction of the word
  pub turn_executes : (input : List ℕ) → step_from m input ≡ executed m input (decode word)
  turn_executes input =
      ap (λ (b : Bool). if b then fetched m input (refused m.memory m.core.pc 4 Fetch) else quiet (trapped m PcAlign m.core.pc) input) (eq-eqb (m.core.pc % 4) 0 has.aligned)
      ∙ ap (λ (o : Option ℕ). fetched m input o) fetched_word.0
      ∙ ap (λ (w : ℕ). executed m input (decode w)) (sym fetched_word.1)

  pub accesses_of_word : executed_accesses m (decode word) ≡ accesses m
  accesses_of_word = sym (
      ap (λ (b : Bool). if b then fetched_accesses m (refused m.memory m.core.pc 4 Fetch) else []) (eq-eqb (m.core.pc % 4) 0 has.aligned)
      ∙ ap (λ (o : Option ℕ). fetched_accesses m o) fetched_word.0
      ∙ ap (λ (w : ℕ). executed_accesses m (decode w)) (sym fetched_word.1)
      )

  pub call_of_word : is_svc (decode word) ≡ is_at_call m
  call_of_word = ap (λ (w : ℕ). is_svc (decode w)) fetched_word.1

  pub makes_of_word : is_svc (decode word) ≡ makes_call m
  makes_of_word = call_of_word ∙ sym (
      ap (λ (b : Bool). b && is_none (refused m.memory m.core.pc 4 Fetch) && is_at_call m) (eq-eqb (m.core.pc % 4) 0 has.aligned)
      ∙ ap (λ (o : Option ℕ). is_none o && is_at_call m) fetched_word.0
      )

-- a step that can't be fetched makes no call
pub makes_none : (m : Parts) → (m.core.pc % 4 ≡ 0 → ⊥) → makes_call m ≡ false
makes_none m odd = ap (λ (b : Bool). b && is_none (refused m.memory m.core.pc 4 Fetch) && is_at_call m) (ne_eqb (m.core.pc % 4) 0 odd)

refused_by : (b : Bool) (o : Option ℕ) (kind : Kind) (y : ℕ) (c : Bool) (d : Denied) → Err d ≡ done_unless o kind y → (b && is_none o && c) ≡ false
refused_by b None kind y c d is = cc
refused_by true (Some a) kind y c d is = refl
refused_by false (Some a) kind y c d is = refl

pub makes_refused : (m : Parts) (d : Denied) → Err d ≡ done_unless (refused m.memory m.core.pc 4 Fetch) Fetch (value m.memory m.core.pc 4) → makes_call m ≡ false
makes_refused m d is = refused_by (nat_eq (m.core.pc % 4) 0) (refused m.memory m.core.pc 4 Fetch) Fetch (value m.memory m.core.pc 4) (is_at_call m) d is

-- what holds of a step that makes no call
pub alone_as : (r : Progress) (a b : Bool) → a ≡ b → MatchCall r ⊤ (a ≡ false) → MatchCall r ⊤ (b ≡ false)
alone_as GoesOn a b same h = sym same ∙ h
alone_as Trapped a b same h = sym same ∙ h
alone_as AtCall a b same h = tt

-- a turn that does an instruction leaves what the instruction leaves
pub executed_as : (r : Progress) (insn : Option Insn) (m n p : Parts) → n ≡ m → ((input : List ℕ) → step_from m input ≡ executed m input insn)
    → MatchCall r ((input : List ℕ) → executed n input insn ≡ call n input) ((input : List ℕ) → executed n input insn ≡ quiet p input)
    → MatchCall r ((input : List ℕ) → step_from m input ≡ call m input) ((input : List ℕ) → step_from m input ≡ quiet p input)
executed_as GoesOn insn m n p same turns is = λ input. turns input ∙ ap (λ (x : Parts). executed x input insn) (sym same) ∙ is input
executed_as Trapped insn m n p same turns is = λ input. turns input ∙ ap (λ (x : Parts). executed x input insn) (sym same) ∙ is input
executed_as AtCall insn m n p same turns is = λ input. turns input ∙ ap (λ (x : Parts). executed x input insn) (sym same) ∙ is input ∙ ap (λ (x : Parts). call x input) same

-- a word that is in no row
pub undefined_as : (m n : Parts) (word : ℕ) → decode word ≡ None → n ≡ trapped m Undefined m.core.pc → (input : List ℕ) → executed m input (decode word) ≡ quiet n input
undefined_as m n word none is input = ap (λ (i : Option Insn). executed m input i) none ∙ ap (λ (p : Parts). quiet p input) (sym is)

-- svc accesses no element
svc_none : (m : Parts) (insn : Option Insn) → is_svc insn ≡ true → executed_accesses m insn ≡ []
svc_none m (Some (A64 (Except Svc imm16))) is = refl
svc_none m insn is = cc

pub call_none : (m : Parts) → is_at_call m ≡ true → accesses m ≡ []
call_none m is = by_fetch (nat_eq (m.core.pc % 4) 0) (refused m.memory m.core.pc 4 Fetch)
  where
    by_fetch : (b : Bool) (o : Option ℕ) → (if b then fetched_accesses m o else []) ≡ []
    by_fetch true None = svc_none m (decode (value m.memory m.core.pc 4)) is
    by_fetch true (Some a) = refl
    by_fetch false o = refl

-- ---- a step that traps before its instruction

-- what a step that makes no call makes of a machine
pub record HasStepped (old new : MachineState) (r : Progress) : Type 0 where
  pub turn : MatchCall r ((input : List ℕ) → step_from old.parts input ≡ call old.parts input) ((input : List ℕ) → step_from old.parts input ≡ quiet new.parts input)
  pub kept : MatchCall r (new ≡ record old { spare = new.spare }) (new.failed ≡ false)
  pub svc : r ≡ AtCall → is_at_call old.parts ≡ true
  pub alone : MatchCall r ⊤ (makes_call old.parts ≡ false)
  pub ended : EndsBy r new.parts
  pub counted : r ≡ GoesOn → new.parts.steps ≡ old.parts.steps + 1
  pub accesses : new.accesses ≡ accesses old.parts
  pub marks : new.marks ≡ old.marks
  pub saved : new.saved ≡ old.saved

-- `at` is the machine as it traps
pub has_trapped : (old at new : MachineState) (r : Progress) (kind : TrapKind) (a : ℕ) → at ≡ old → has_ended old ≡ false → old.accesses ≡ [] → r ≡ Trapped
    → new.parts ≡ trapped at.parts kind a → new.accesses ≡ at.accesses → new.failed ≡ at.failed → new.marks ≡ at.marks → new.saved ≡ at.saved
    → makes_call old.parts ≡ false → ((input : List ℕ) → step_from old.parts input ≡ quiet (trapped old.parts kind a) input) → accesses old.parts ≡ [] → HasStepped old new r
has_trapped old at new r kind a same going clear is parts log failed marks saved alone turns none =
    let left : new.parts ≡ trapped old.parts kind a = parts ∙ ap (λ (s : MachineState). trapped s.parts kind a) same in
    subst (λ (x : Progress). HasStepped old new x) (sym is) (record {
      turn = λ input. turns input ∙ ap (λ (p : Parts). quiet p input) (sym left);
      kept = failed ∙ ap (λ (s : MachineState). s.failed) same ∙ not_failed old going;
      svc = λ h. cc;
      alone = alone;
      ended = ap (λ (p : Parts). is_none p.ended) left;
      counted = λ h. cc;
      accesses = log ∙ ap (λ (s : MachineState). s.accesses) same ∙ clear ∙ sym none;
      marks = marks ∙ ap (λ (s : MachineState). s.marks) same;
      saved = saved ∙ ap (λ (s : MachineState). s.saved) same;
    })

-- the program counter isn't a multiple of 4
module _ (m : Parts) (odd : m.core.pc % 4 ≡ 0 → ⊥) where
  pub turn_of_odd : (input : List ℕ) → step_from m input ≡ quiet (trapped m PcAlign m.core.pc) input
  turn_of_odd input = ap (λ (b : Bool). if b then fetched m input (refused m.memory m.core.pc 4 Fetch) else quiet (trapped m PcAlign m.core.pc) input) (ne_eqb (m.core.pc % 4) 0 odd)

  pub accesses_of_odd : accesses m ≡ []
  accesses_of_odd = ap (λ (b : Bool). if b then fetched_accesses m (refused m.memory m.core.pc 4 Fetch) else []) (ne_eqb (m.core.pc % 4) 0 odd)

-- the word can't be fetched
denied_is : (o : Option ℕ) (y : ℕ) (d : Denied) → Err d ≡ done_unless o Fetch y → o ≡ Some d.address
denied_is None y d is = cc
denied_is (Some a) y d is = cc

module _ (m : Parts) (d : Denied) (aligned : m.core.pc % 4 ≡ 0) (is : Err d ≡ done_unless (refused m.memory m.core.pc 4 Fetch) Fetch (value m.memory m.core.pc 4)) where
  pub turn_of_refused : (input : List ℕ) → step_from m input ≡ quiet (trapped m TrapFetch d.address) input
  turn_of_refused input =
      ap (λ (b : Bool). if b then fetched m input (refused m.memory m.core.pc 4 Fetch) else quiet (trapped m PcAlign m.core.pc) input) (eq-eqb (m.core.pc % 4) 0 aligned)
      ∙ ap (λ (o : Option ℕ). fetched m input o) (denied_is (refused m.memory m.core.pc 4 Fetch) (value m.memory m.core.pc 4) d is)

  pub accesses_of_refused : accesses m ≡ []
  accesses_of_refused =
      ap (λ (b : Bool). if b then fetched_accesses m (refused m.memory m.core.pc 4 Fetch) else []) (eq-eqb (m.core.pc % 4) 0 aligned)
      ∙ ap (λ (o : Option ℕ). fetched_accesses m o) (denied_is (refused m.memory m.core.pc 4 Fetch) (value m.memory m.core.pc 4) d is)

-- the word is in no row
module _ (m : Parts) (word : ℕ) (has : HasFetched m word) (none : decode word ≡ None) where
  pub turn_of_none : (input : List ℕ) → step_from m input ≡ quiet (trapped m Undefined m.core.pc) input
  turn_of_none input = turn_executes m word has input ∙ ap (λ (i : Option Insn). executed m input i) none

  pub accesses_of_none : accesses m ≡ []
  accesses_of_none = sym (accesses_of_word m word has) ∙ ap (λ (i : Option Insn). executed_accesses m i) none

  pub makes_no_row : makes_call m ≡ false
  makes_no_row = sym (makes_of_word m word has) ∙ ap is_svc none

-- ---- a step that does the instruction of its word, on the machine as the fetch left it

pub has_stepped : (word : ℕ) (insn : Option Insn) (old at new : MachineState) (r : Progress) → at ≡ old → HasFetched old.parts word → insn ≡ decode word → HasDone insn at new r → HasStepped old new r
has_stepped word insn old at new r same has is done =
    let d : HasDone (decode word) old new r = subst (λ (m : MachineState). HasDone (decode word) m new r) same (subst (λ (i : Option Insn). HasDone i at new r) is done) in
    record {
      turn = executed_as r (decode word) old.parts old.parts new.parts refl (turn_executes old.parts word has) d.turn;
      kept = d.kept;
      svc = λ h. sym (call_of_word old.parts word has) ∙ d.svc h;
      alone = alone_as r (is_svc (decode word)) (makes_call old.parts) (makes_of_word old.parts word has) d.alone;
      ended = d.ended;
      counted = d.counted;
      accesses = d.accesses ∙ accesses_of_word old.parts word has;
      marks = d.marks;
      saved = d.saved;
    }
