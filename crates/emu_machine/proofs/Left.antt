-- What a step that does an instruction makes of the machine, by the instruction's effect.
use Rattle.std.specs.Prelude.{⊤}
use Rattle.std.proofs.Common.{◌≡◌, ℕ, ◌+◌, Bool, true, false, List, [], Option, Some, refl, ap, sym, subst, ◌∙◌}
use Rattle.emu_model.specs.declared.access.Access.{Access}
use Rattle.emu_model.specs.declared.program_break.Break.{Break}
use Rattle.emu_model.specs.declared.trap.Effect.{Effect}
use Rattle.emu_model.specs.declared.trap.Effect.TheVariants.{Next, Branch, Call, Trap}
use Rattle.emu_model.specs.declared.trap.Ended.{Ended}
use Rattle.emu_model.specs.Access.{Memory}
use Rattle.emu_model.specs.Done.{Done}
use Rattle.emu_model.specs.Marks.{Marks}
use Rattle.emu_model.specs.State.{Core, Vectors, Parts}
use Rattle.emu_run.specs.declared.insn.Insn.{Insn}
use Rattle.emu_run.specs.Step.{executed, executed_accesses, finish, performed}
use Rattle.emu_system.specs.SystemCall.{call, quiet}
use Rattle.emu_machine.specs.Advances.{EndsBy, MatchCall, left_by_effect, progress_by}
use Rattle.emu_machine.specs.declared.ends.Progress.{Progress}
use Rattle.emu_machine.specs.declared.ends.Progress.TheVariants.{GoesOn, AtCall}
use Rattle.emu_machine.specs.Machines.{MachineState, Saved, has_ended, is_svc}
use Rattle.emu_machine.proofs.Performed.{AsksFor, asks_for, machine_of, not_failed, not_svc, same_machine}
use Rattle.emu_machine.proofs.Runs.{goes}

-- the step of an instruction, or of a word that is none
pub record HasDone (insn : Option Insn) (old new : MachineState) (r : Progress) : Type 0 where
  pub turn : MatchCall r ((input : List ℕ) → executed old.parts input insn ≡ call old.parts input) ((input : List ℕ) → executed old.parts input insn ≡ quiet new.parts input)
  pub kept : MatchCall r (new ≡ record old { spare = new.spare }) (new.failed ≡ false)
  pub svc : r ≡ AtCall → is_svc insn ≡ true
  pub alone : MatchCall r ⊤ (is_svc insn ≡ false)
  pub ended : EndsBy r new.parts
  pub counted : r ≡ GoesOn → new.parts.steps ≡ old.parts.steps + 1
  pub accesses : new.accesses ≡ executed_accesses old.parts insn
  pub marks : new.marks ≡ old.marks
  pub saved : new.saved ≡ old.saved

abbrev state_of : Parts → List Access → Bool → Marks → List Saved → ℕ → MachineState
state_of p l failed marks saved spare = record { parts = p; accesses = l; failed = failed; marks = marks; saved = saved; spare = spare }

rebuilt : (p : Parts) (l : List Access) (failed : Bool) (marks : Marks) (saved : List Saved) (m : MachineState) → m.parts ≡ p → m.accesses ≡ l → m.failed ≡ failed → m.marks ≡ marks → m.saved ≡ saved
    → state_of p l failed marks saved m.spare ≡ m
rebuilt p l failed marks saved m parts log same marked kept =
    ap (λ (x : Parts). state_of x l failed marks saved m.spare) (sym parts)
    ∙ ap (λ (x : List Access). state_of m.parts x failed marks saved m.spare) (sym log)
    ∙ ap (λ (x : Bool). state_of m.parts m.accesses x marks saved m.spare) (sym same)
    ∙ ap (λ (x : Marks). state_of m.parts m.accesses m.failed x saved m.spare) (sym marked)
    ∙ ap (λ (x : List Saved). state_of m.parts m.accesses m.failed m.marks x m.spare) (sym kept)

-- the registers behind their boxes
pub performed_as : (i : Insn) (c c2 : Core) (v v2 : Vectors) (m : Memory) → c ≡ c2 → v ≡ v2 → (d : Done) → performed i c v m ≡ d → performed i c2 v2 m ≡ d
performed_as i c c2 v v2 m same_core same_vectors d is =
    sym (ap (λ (x : Core). performed i x v2 m) same_core) ∙ sym (ap (λ (x : Vectors). performed i c x m) same_vectors) ∙ is

module _ (i : Insn) (c d : Core) (v w : Vectors) (m n : Memory) (brk : Break) (steps : ℕ) (ended : Option Ended) (k l : List Access) (failed : Bool) (marks : Marks) (saved : List Saved) (spare later : ℕ) where
  -- the machine before the instruction, and what the instruction left; spare frames are taken on the way
  abbrev before : MachineState
  before = machine_of c v m brk steps ended k failed marks saved spare

  abbrev left : Effect → MachineState
  left e = state_of (left_by_effect e (machine_of d w n brk steps ended l failed marks saved later).parts) l failed marks saved later

  module _ (clear : k ≡ []) (going : has_ended before ≡ false) where
    by_effect : (e : Effect) → performed i c v m ≡ record { core = d; vectors = w; memory = n; accesses = l; effect = e } → HasDone (Some i) before (left e) (progress_by e)
    by_effect Next is = record {
      turn = λ input. ap (λ (x : Done). finish before.parts input x) is;
      kept = not_failed before going;
      svc = λ h. cc;
      alone = not_svc i c v m Next (ap (λ (x : Done). x.effect) is) (λ h. cc);
      ended = goes ended failed going;
      counted = λ h. refl;
      accesses = sym (ap (λ (x : Done). x.accesses) is);
      marks = refl;
      saved = refl;
    }
    by_effect (Branch a) is = record {
      turn = λ input. ap (λ (x : Done). finish before.parts input x) is;
      kept = not_failed before going;
      svc = λ h. cc;
      alone = not_svc i c v m (Branch a) (ap (λ (x : Done). x.effect) is) (λ h. cc);
      ended = goes ended failed going;
      counted = λ h. refl;
      accesses = sym (ap (λ (x : Done). x.accesses) is);
      marks = refl;
      saved = refl;
    }
    by_effect (Trap t) is = record {
      turn = λ input. ap (λ (x : Done). finish before.parts input x) is;
      kept = not_failed before going;
      svc = λ h. cc;
      alone = not_svc i c v m (Trap t) (ap (λ (x : Done). x.effect) is) (λ h. cc);
      ended = refl;
      counted = λ h. cc;
      accesses = sym (ap (λ (x : Done). x.accesses) is);
      marks = refl;
      saved = refl;
    }
    by_effect Call is =
        let asked : AsksFor i c d v w m n l = asks_for i c d v w m n l Call is refl in
        record {
          turn = λ input. ap (λ (x : Done). finish before.parts input x) is;
          kept = same_machine c d v w m n brk steps ended k l failed marks saved later asked.core asked.vectors asked.memory (asked.none ∙ sym clear);
          svc = λ h. asked.svc;
          alone = tt;
          ended = tt;
          counted = λ h. cc;
          accesses = sym (ap (λ (x : Done). x.accesses) is);
          marks = refl;
          saved = refl;
        }

  pub done_by : (e : Effect) (r : Progress) (old new : MachineState) → before ≡ old → old.accesses ≡ [] → has_ended old ≡ false
      → performed i c v m ≡ record { core = d; vectors = w; memory = n; accesses = l; effect = e } → r ≡ progress_by e → new.parts ≡ (left e).parts → new.accesses ≡ l → new.failed ≡ failed → new.marks ≡ marks → new.saved ≡ saved
      → later ≡ new.spare → HasDone (Some i) old new r
  done_by e r old new view clear going is by parts log same marked kept free =
      let made : left e ≡ new = ap (λ (x : ℕ). record (left e) { spare = x }) free ∙ rebuilt (left e).parts l failed marks saved new parts log same marked kept in
      let none : k ≡ [] = ap (λ (s : MachineState). s.accesses) view ∙ clear in
      let goes_on : has_ended before ≡ false = ap has_ended view ∙ going in
      subst (λ (x : MachineState). HasDone (Some i) x new r) view
      (subst (λ (x : MachineState). HasDone (Some i) before x r) made
      (subst (λ (x : Progress). HasDone (Some i) before (left e) x) (sym by) (by_effect none goes_on e is)))

-- a step of a machine that has other spare frames alone
module _ (insn : Option Insn) (c d : Core) (v : Vectors) (m n : Memory) (brk : Break) (steps : ℕ) (ended : Option Ended) (k l : List Access) (failed : Bool) (marks marked : Marks) (saved : List Saved) (spare later : ℕ) (old new : MachineState) (r : Progress) where
  abbrev left_as : Core → Memory → List Access → Marks → MachineState
  left_as x y z w = machine_of x v y brk steps ended z failed w saved later

  respared : HasDone insn (left_as c m k marks) new r → HasDone insn (machine_of c v m brk steps ended k failed marks saved spare) new r
  respared h = record {
    turn = h.turn;
    kept = h.kept;
    svc = h.svc;
    alone = h.alone;
    ended = h.ended;
    counted = h.counted;
    accesses = h.accesses;
    marks = h.marks;
    saved = h.saved;
  }

  pub done_later : machine_of c v m brk steps ended k failed marks saved spare ≡ old → old.accesses ≡ [] → d ≡ c → n ≡ m → l ≡ [] → marked ≡ marks
      → HasDone insn (left_as d n l marked) new r → HasDone insn old new r
  done_later view clear same_core same_memory none same_marks h =
      let emptied : l ≡ k = none ∙ sym (ap (λ (s : MachineState). s.accesses) view ∙ clear) in
      subst (λ (x : MachineState). HasDone insn x new r) view
      (respared
      (subst (λ (x : Marks). HasDone insn (left_as c m k x) new r) same_marks
      (subst (λ (x : List Access). HasDone insn (left_as c m x marked) new r) emptied
      (subst (λ (x : Memory). HasDone insn (left_as c x l marked) new r) same_memory
      (subst (λ (x : Core). HasDone insn (left_as x n l marked) new r) same_core h)))))
