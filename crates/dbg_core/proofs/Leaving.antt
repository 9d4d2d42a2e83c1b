-- What a part of a session leaves of the machine, also where it was broken off.
use Rattle.std.proofs.Common.{◌≡◌, ◌<◌, ◌≤◌, ℕ, zero, suc, ◌-◌, Bool, true, false, List, ◌++◌, Option, Some, None, is_none, IfSome, Result, Ok, Err, refl, sym, ap, subst, ◌∙◌, arith}
use Rattle.io_gate.specs.declared.streams.Failed.{Failed}
use Rattle.io_gate.specs.Pieces.{PutsAll}
use Rattle.emu_model.specs.State.{Parts, State}
use Rattle.emu_system.specs.Start.{with_input}
use Rattle.emu_run.specs.Step.{step}
use Rattle.emu_run.specs.Run.{goes_on, until_end, run}
use Rattle.emu_run.specs.RunLaws.{until_end_none, until_end_one, until_end_over, behind, step_behind}
use Rattle.emu_machine.specs.Ends.{Becomes, IsKept, is_broken_off, is_undone, is_unput}
use Rattle.emu_machine.specs.Machines.{MachineState, MakesWrite}
use Rattle.emu_machine.specs.declared.ends.RunEnd.{RunEnd}
use Rattle.emu_machine.specs.declared.ends.RunEnd.TheVariants as runs
use Rattle.emu_machine.specs.declared.ends.StepEnd.{StepEnd}
use Rattle.emu_machine.specs.declared.ends.StepEnd.TheVariants as steps
use Rattle.dbg_core.specs.declared.ends.SessionEnd.{SessionEnd}
use Rattle.dbg_core.specs.declared.ends.SessionEnd.TheVariants.{Done, WriteFault}
use Rattle.dbg_core.specs.Ends.{Halts, LeavesMachine, is_fault, end_of_run, end_of_step, end_of_put}
use Rattle.emu_machine.proofs.Composed.{Blind, from_nothing}
use Rattle.dbg_core.proofs.Sessions.{prints}
use Rattle.dbg_core.proofs.Obeying.{fault_of_run, last_run, last_step}

pub never : (X : Type 0) (b : Bool) → b ≡ false → b ≡ true → X
never X b fine broken = let e : true ≡ false = sym broken ∙ fine in cc

-- ---- steps up to the end

-- one step more, of a machine that goes on
pub one_more : (st : State) (k : ℕ) → goes_on (until_end st k) ≡ true → until_end st (suc k) ≡ step (until_end st k)
one_more st zero going =
    until_end_one st 0 (ap goes_on (sym (until_end_none st)) ∙ going) ∙ until_end_none (step st) ∙ ap step (sym (until_end_none st))
one_more st (suc k) going =
    elim (goes_on st) as (λ b. goes_on st ≡ b → until_end st (suc (suc k)) ≡ step (until_end st (suc k))) [
      | true ↦ λ h.
          until_end_one st (suc k) h ∙ one_more (step st) k (ap goes_on (sym (until_end_one st k h)) ∙ going) ∙ ap step (sym (until_end_one st k h))
      | false ↦ λ h. let both : true ≡ false = sym going ∙ ap goes_on (until_end_over st (suc k) h) ∙ h in cc
    ] refl

-- of a state, what a function makes that doesn't look at what was written before it
pub made_of : (r : State → State) (s : State) (p : Parts) → Blind r → p ≡ s.parts → r s ≡ behind s.output s.errors (r (with_input p s.input))
made_of r s p blind is = ap r (from_nothing s) ∙ blind s.output s.errors (with_input s.parts s.input) ∙ ap (λ (m : Parts). behind s.output s.errors (r (with_input m s.input))) (sym is)

-- ---- where steps have come to

pub record ComesTo (start : State) (now : Parts) (left : Option (List ℕ)) : Type 0 where
  pub count : ℕ
  pub parts : now ≡ (until_end start count).parts
  pub input : left ≡ Some (until_end start count).input

abbrev pub IsAt : Parts → Parts → Option (List ℕ) → Option (List ℕ) → Type 0
IsAt old now told left = IfSome told (λ bytes. ComesTo (with_input old bytes) now left)

pub at_start : (old : Parts) (told : Option (List ℕ)) → IsAt old old told told
at_start old None = tt
at_start old (Some bytes) = record {
  count = 0;
  parts = ap (λ (s : State). s.parts) (sym (until_end_none (with_input old bytes)));
  input = ap (λ (s : State). Some s.input) (sym (until_end_none (with_input old bytes)));
}

-- a step was done
comes_on : (start : State) (p q : Parts) (left_p left_q : Option (List ℕ)) → is_none p.ended ≡ true → Becomes step p q left_p left_q false → ComesTo start p left_p → ComesTo start q left_q
comes_on start p q left_p left_q going done came =
    let s : State = until_end start came.count in
    let here : Becomes step p q (Some s.input) left_q false = subst (λ (t : Option (List ℕ)). Becomes step p q t left_q false) came.input done in
    let d = here refl in
    let more : until_end start (suc came.count) ≡ behind s.output s.errors (step (with_input p s.input)) =
    one_more start came.count (ap (λ (m : Parts). is_none m.ended) (sym came.parts) ∙ going) ∙ made_of step s p step_behind came.parts in
    record {
      count = suc came.count;
      parts = d.0 ∙ ap (λ (t : State). t.parts) (sym more);
      input = d.1 ∙ ap (λ (t : State). Some t.input) (sym more);
    }

pub at_next : (old p q : Parts) (told left_p left_q : Option (List ℕ)) → is_none p.ended ≡ true → Becomes step p q left_p left_q false → IsAt old p told left_p → IsAt old q told left_q
at_next old p q None left_p left_q going done here = tt
at_next old p q (Some bytes) left_p left_q going done here = comes_on (with_input old bytes) p q left_p left_q going done here

-- the next step was broken off
pub at_halt : (old p q : Parts) (told left_p left_q : Option (List ℕ)) (failed : Bool) → IsKept p q left_p left_q → IsAt old p told left_p → IfSome told (λ bytes. failed ≡ true → Halts (with_input old bytes) q left_q)
at_halt old p q None left_p left_q failed kept here = tt
at_halt old p q (Some bytes) left_p left_q failed kept here = λ _. record {
  steps = here.count;
  kept = subst (λ (t : Option (List ℕ)). IsKept (until_end (with_input old bytes) here.count).parts q t left_q) here.input (subst (λ (m : Parts). IsKept m q left_p left_q) here.parts kept);
}

-- ---- what f makes of a machine, by another function

pub becomes_same : (f g : State → State) (p q : Parts) (told left : Option (List ℕ)) (b : Bool) → ((input : List ℕ) → f (with_input p input) ≡ g (with_input p input)) → Becomes f p q told left b → Becomes g p q told left b
becomes_same f g p q None left b same state = tt
becomes_same f g p q (Some bytes) left b same state = λ fine.
    let d = state fine in
    (d.0 ∙ ap (λ (s : State). s.parts) (same bytes), d.1 ∙ ap (λ (s : State). Some s.input) (same bytes))

-- a line leaves the machine
pub becomes_printed : (text : Parts → List ℕ) (p : Parts) (told : Option (List ℕ)) → Becomes (prints text) p p told told false
becomes_printed text p None = tt
becomes_printed text p (Some bytes) = λ _. (refl, refl)

-- what a sink holds that took a whole piece
abbrev pub with_all : List ℕ → Option (List ℕ) → Option (List ℕ)
with_all text None = None
with_all text (Some had) = Some (had ++ text)

pub all_put : (text : List ℕ) (held : Option (List ℕ)) → PutsAll {T = Unit {0}} {E = Failed} held (with_all text held) text (Ok tt)
all_put text None = tt
all_put text (Some had) = refl

-- ---- no step was broken off

pub no_halt : (P : List ℕ → Type 0) (told : Option (List ℕ)) (failed : Bool) → failed ≡ false → IfSome told (λ bytes. failed ≡ true → P bytes)
no_halt P None failed fine = tt
no_halt P (Some bytes) failed fine = λ h. never (P bytes) failed fine h

line_of_put : (put : Result (Unit {0}) Failed) → is_fault (end_of_put put) ≡ true → end_of_put put ≡ WriteFault
line_of_put (Ok done) fault = cc
line_of_put (Err failed) fault = refl

pub leaves_line : (f : State → State) (budget : ℕ) (old : Parts) (new : MachineState) (told left : Option (List ℕ)) (put : Result (Unit {0}) Failed) (end : SessionEnd) → end ≡ end_of_put put
    → new.failed ≡ false → Becomes f old new.parts told left false → LeavesMachine f budget old new told left end
leaves_line f budget old new told left put end is fine whole = record {
  whole = subst (λ (b : Bool). Becomes f old new.parts told left b) (sym fine) whole;
  halted = no_halt (λ bytes. Halts (with_input old bytes) new.parts left) told new.failed fine;
  line = λ _ fault. is ∙ line_of_put put (ap is_fault (sym is) ∙ fault);
  write_named = λ h _. never (MakesWrite new.parts 1) new.failed fine h;
  unspent = λ h. never (new.parts.steps < budget) new.failed fine h;
  unended = λ h. never (is_none new.parts.ended ≡ true) new.failed fine h;
}

-- nothing was done
pub leaves_still : (f : State → State) (budget : ℕ) (now : MachineState) (told : Option (List ℕ)) → now.failed ≡ false → Becomes f now.parts now.parts told told false → LeavesMachine f budget now.parts now told told Done
leaves_still f budget now told fine whole = leaves_line f budget now.parts now told told (Ok tt) Done refl fine whole

-- ---- a step was broken off

pub broken_whole : (f : State → State) (old new : Parts) (told left : Option (List ℕ)) (failed : Bool) → failed ≡ true → Becomes f old new told left failed
broken_whole f old new None left failed broken = tt
broken_whole f old new (Some bytes) left failed broken = λ fine. never ((new ≡ (f (with_input old bytes)).parts) × (left ≡ Some (f (with_input old bytes)).input)) failed fine broken

pub leaves_broken : (f : State → State) (budget : ℕ) (old : Parts) (new : MachineState) (told left : Option (List ℕ)) (end : SessionEnd) → new.failed ≡ true → IfSome told (λ bytes. new.failed ≡ true → Halts (with_input old bytes) new.parts left)
    → (end ≡ WriteFault → MakesWrite new.parts 1) → new.parts.steps < budget → is_none new.parts.ended ≡ true → LeavesMachine f budget old new told left end
leaves_broken f budget old new told left end broken halted named below going = record {
  whole = broken_whole f old new.parts told left new.failed broken;
  halted = halted;
  line = λ fine _. never (end ≡ WriteFault) new.failed fine broken;
  write_named = λ _ h. named h;
  unspent = λ _. below;
  unended = λ _. going;
}

-- by the step that wasn't done, of a machine that some steps led to
pub leaves_step : (f : State → State) (budget : ℕ) (old p : Parts) (new : MachineState) (told left_p left_q : Option (List ℕ)) (r : StepEnd) (end : SessionEnd) → end ≡ end_of_step r → is_undone r ≡ true → new.failed ≡ is_undone r
    → IsAt old p told left_p → (is_undone r ≡ true → IsKept p new.parts left_p left_q) → (is_unput r ≡ true → new.parts ≡ p) → (r ≡ steps.WriteFault → MakesWrite p 1)
    → p.steps < budget → is_none p.ended ≡ true → LeavesMachine f budget old new told left_q end
leaves_step f budget old p new told left_p left_q r end is undone failed here kept unput named below going =
    let k = kept undone in
    let same = ap (λ (m : Parts). m.steps) k.is in
    leaves_broken f budget old new told left_q end (failed ∙ undone) (at_halt old p new.parts told left_p left_q new.failed k here)
    (λ h. let e = last_step r WriteFault (sym is ∙ h) in subst (λ (m : Parts). MakesWrite m 1) (sym (unput (ap is_unput e))) (named e))
    (omega (arith, same, below))
    (ap (λ (m : Parts). is_none m.ended) k.is ∙ going)

-- ---- by a run

run_halted : (p q : Parts) (told left : Option (List ℕ)) (b failed : Bool) → failed ≡ b
    → IfSome told (λ bytes. b ≡ true → IsKept (run (with_input p bytes) q.steps).parts q (Some (run (with_input p bytes) q.steps).input) left)
    → IfSome told (λ bytes. failed ≡ true → Halts (with_input p bytes) q left)
run_halted p q None left b failed is kept = tt
run_halted p q (Some bytes) left b failed is kept = λ h. record { steps = q.steps - p.steps; kept = kept (sym is ∙ h) }

pub leaves_run : (target : ℕ) (p : Parts) (new : MachineState) (told left : Option (List ℕ)) (r : RunEnd) (end : SessionEnd) → end ≡ end_of_run r → new.failed ≡ is_broken_off r
    → Becomes (λ st. run st target) p new.parts told left (is_broken_off r)
    → IfSome told (λ bytes. is_broken_off r ≡ true → IsKept (run (with_input p bytes) new.parts.steps).parts new.parts (Some (run (with_input p bytes) new.parts.steps).input) left)
    → (r ≡ runs.WriteFault → MakesWrite new.parts 1) → (is_broken_off r ≡ true → new.parts.steps < target) → (is_broken_off r ≡ true → is_none new.parts.ended ≡ true)
    → LeavesMachine (λ st. run st target) target p new told left end
leaves_run target p new told left r end is failed state kept named below going = record {
  whole = subst (λ (b : Bool). Becomes (λ st. run st target) p new.parts told left b) (sym failed) state;
  halted = run_halted p new.parts told left (is_broken_off r) new.failed failed kept;
  line = λ fine fault. never (end ≡ WriteFault) (is_fault end) (ap is_fault is ∙ sym (fault_of_run r) ∙ sym failed ∙ fine) fault;
  write_named = λ _ h. named (last_run r WriteFault (sym is ∙ h));
  unspent = λ h. below (sym failed ∙ h);
  unended = λ h. going (sym failed ∙ h);
}

-- ---- the same, of more

module _ (f : State → State) (p : Parts) (m : MachineState) (told left : Option (List ℕ)) (end : SessionEnd) where
  -- with a line that wasn't put behind it
  pub leaves_prints : (text : Parts → List ℕ) (budget : ℕ) → LeavesMachine f budget p m told left end → LeavesMachine (λ st. prints text (f st)) budget p m told left end
  leaves_prints text budget l = record { whole = l.whole; halted = l.halted; line = l.line; write_named = l.write_named; unspent = l.unspent; unended = l.unended }

  -- another function that makes the same, and more of a budget
  pub leaves_same : (g : State → State) (budget more : ℕ) → budget ≤ more → ((input : List ℕ) → f (with_input p input) ≡ g (with_input p input)) → LeavesMachine f budget p m told left end → LeavesMachine g more p m told left end
  leaves_same g budget more within same l = record {
    whole = becomes_same f g p m.parts told left m.failed same l.whole;
    halted = l.halted;
    line = l.line;
    write_named = l.write_named;
    unspent = λ h. let below = l.unspent h in omega (arith, below, within);
    unended = l.unended;
  }
