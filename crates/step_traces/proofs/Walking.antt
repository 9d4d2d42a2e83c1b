-- A trace, step after step.
use Rattle.std.proofs.Common.{◌≡◌, ℕ, zero, suc, ◌+◌, ◌-◌, Bool, true, false, not, ◌&&◌, ◌||◌, List, [], ◌++◌, Option, Some, None, is_none, is_some, if◌then◌else◌, refl, sym, ap, ◌∙◌, arith, append-nil, append_assoc}
use Rattle.std.specs.Prelude.{OnOk, Result, Ok, Err}
use Rattle.emu_report.proofs.Puts.{put_equal}
use Rattle.trace_lines.specs.Lines.{HasGained}
use Rattle.emu_model.specs.declared.trap.Ended.{Ended}
use Rattle.emu_model.specs.declared.trap.Ended.TheVariants.{Exit, Trap}
use Rattle.emu_model.specs.State.{Parts}
use Rattle.emu_run.specs.Step.{accesses, step_from}
use Rattle.io_gate.specs.Streams.{Rose}
use Rattle.emu_machine.specs.Ends.{is_undone, step_end}
use Rattle.emu_machine.specs.Machines.{MachineState, has_ended}
use Rattle.emu_machine.specs.declared.ends.StepEnd.{StepEnd}
use Rattle.emu_machine.specs.declared.ends.StepEnd.TheVariants.{Going, Exit as StepExit, Trap as StepTrap, ReadFault, WriteFault, ErrorsFault}
use Rattle.trace_options.specs.declared.shown.Shown.{Shown}
use Rattle.trace_options.specs.declared.window.Stage.{Stage}
use Rattle.trace_options.specs.declared.window.Window.{Window}
use Rattle.trace_options.specs.Windows.{behind, is_over}
use Rattle.step_traces.specs.Traces.{goes_on, is_left, machine_left, lines_of_steps, stage_before, told_lines}

-- ---- the equations of a trace

module _ (shown : Shown) (w : Window) (stage : Stage) (m : Parts) (input : List ℕ) where
  lines_none : lines_of_steps shown w stage m input 0 ≡ []
  unfolding lines_of_steps
  lines_none = refl

  lines_one : (n : ℕ) → goes_on w stage m ≡ true
      → lines_of_steps shown w stage m input (suc n) ≡ told_lines shown w (stage_before w stage m) m (step_from m input).parts (accesses m) ++ lines_of_steps shown w (behind (stage_before w stage m)) (step_from m input).parts (step_from m input).input n
  unfolding lines_of_steps
  lines_one n h = ap (λ (b : Bool). if b then told_lines shown w (stage_before w stage m) m (step_from m input).parts (accesses m) ++ lines_of_steps shown w (behind (stage_before w stage m)) (step_from m input).parts (step_from m input).input n else []) h

  lines_over : (n : ℕ) → goes_on w stage m ≡ false → lines_of_steps shown w stage m input n ≡ []
  unfolding lines_of_steps
  lines_over zero h = refl
  lines_over (suc n) h = ap (λ (b : Bool). if b then told_lines shown w (stage_before w stage m) m (step_from m input).parts (accesses m) ++ lines_of_steps shown w (behind (stage_before w stage m)) (step_from m input).parts (step_from m input).input n else []) h

  left_none : is_left w stage m input 0 ≡ false
  unfolding is_left
  left_none = refl

  left_one : (n : ℕ) → goes_on w stage m ≡ true → is_left w stage m input (suc n) ≡ is_left w (behind (stage_before w stage m)) (step_from m input).parts (step_from m input).input n
  unfolding is_left
  left_one n h = ap (λ (b : Bool). if b then is_left w (behind (stage_before w stage m)) (step_from m input).parts (step_from m input).input n else is_none m.ended) h

  left_over : (n : ℕ) → goes_on w stage m ≡ false → is_left w stage m input (suc n) ≡ is_none m.ended
  unfolding is_left
  left_over n h = ap (λ (b : Bool). if b then is_left w (behind (stage_before w stage m)) (step_from m input).parts (step_from m input).input n else is_none m.ended) h

  last_none : machine_left w stage m input 0 ≡ m
  unfolding machine_left
  last_none = refl

  last_one : (n : ℕ) → goes_on w stage m ≡ true → machine_left w stage m input (suc n) ≡ machine_left w (behind (stage_before w stage m)) (step_from m input).parts (step_from m input).input n
  unfolding machine_left
  last_one n h = ap (λ (b : Bool). if b then machine_left w (behind (stage_before w stage m)) (step_from m input).parts (step_from m input).input n else m) h

  last_over : (n : ℕ) → goes_on w stage m ≡ false → machine_left w stage m input n ≡ m
  unfolding machine_left
  last_over zero h = refl
  last_over (suc n) h = ap (λ (b : Bool). if b then machine_left w (behind (stage_before w stage m)) (step_from m input).parts (step_from m input).input n else m) h

-- ---- where a trace has come to

-- from the first machine so much was told, and the rest is that of the machine now
pub record HasTold (shown : Shown) (w : Window) (first : Stage) (start : Parts) (bytes : List ℕ) (most : ℕ) (text : List ℕ) (stage : Stage) (now : Parts) (rest : List ℕ) (n : ℕ) : Type 0 where
  pub lines : lines_of_steps shown w first start bytes most ≡ text ++ lines_of_steps shown w stage now rest n
  pub left : is_left w first start bytes most ≡ is_left w stage now rest n
  pub last : machine_left w first start bytes most ≡ machine_left w stage now rest n

pub told_nothing : (shown : Shown) (w : Window) (first : Stage) (start : Parts) (bytes rest : List ℕ) (most : ℕ) → rest ≡ bytes → HasTold shown w first start bytes most [] first start rest most
told_nothing shown w first start bytes rest most is = record {
  lines = ap (λ (i : List ℕ). lines_of_steps shown w first start i most) (sym is);
  left = ap (λ (i : List ℕ). is_left w first start i most) (sym is);
  last = ap (λ (i : List ℕ). machine_left w first start i most) (sym is);
}

pub going_on : (w : Window) (stage : Stage) (m : Parts) → is_none m.ended ≡ true → is_over (stage_before w stage m) ≡ false → goes_on w stage m ≡ true
going_on w stage m going fine = ap (λ (b : Bool). b && not (is_over (stage_before w stage m))) going ∙ ap (λ (b : Bool). true && not b) fine

pub going_over : (w : Window) (stage : Stage) (m : Parts) → is_none m.ended ≡ true → is_over (stage_before w stage m) ≡ true → goes_on w stage m ≡ false
going_over w stage m going over = ap (λ (b : Bool). b && not (is_over (stage_before w stage m))) going ∙ ap (λ (b : Bool). true && not b) over

pub ended_over : (w : Window) (stage : Stage) (m : Parts) → is_none m.ended ≡ false → goes_on w stage m ≡ false
ended_over w stage m over = ap (λ (b : Bool). b && not (is_over (stage_before w stage m))) over

module _ (shown : Shown) (w : Window) (first : Stage) (start : Parts) (bytes : List ℕ) (most : ℕ) (text : List ℕ) (stage : Stage) (now : Parts) (rest : List ℕ) (n : ℕ)
    (has : HasTold shown w first start bytes most text stage now rest n) where
  -- a step more
  pub told_more : (k : ℕ) → n ≡ suc k → goes_on w stage now ≡ true → (q : Parts) (left : List ℕ) → q ≡ (step_from now rest).parts → left ≡ (step_from now rest).input
      → HasTold shown w first start bytes most (text ++ told_lines shown w (stage_before w stage now) now (step_from now rest).parts (accesses now)) (behind (stage_before w stage now)) q left k
  told_more k is going q left parts input = rw parts (rw input (record {
    lines = has.lines ∙ ap (λ (j : ℕ). text ++ lines_of_steps shown w stage now rest j) is ∙ ap (λ (xs : List ℕ). text ++ xs) (lines_one shown w stage now rest k going)
        ∙ sym (append_assoc text (told_lines shown w (stage_before w stage now) now (step_from now rest).parts (accesses now)) (lines_of_steps shown w (behind (stage_before w stage now)) (step_from now rest).parts (step_from now rest).input k));
    left = has.left ∙ ap (λ (j : ℕ). is_left w stage now rest j) is ∙ left_one shown w stage now rest k going;
    last = has.last ∙ ap (λ (j : ℕ). machine_left w stage now rest j) is ∙ last_one shown w stage now rest k going;
  }))

  pub told_next : (here later : Stage) (k : ℕ) → here ≡ stage_before w stage now → later ≡ behind here → n ≡ suc k → goes_on w stage now ≡ true → (q : Parts) (left : List ℕ)
      → q ≡ (step_from now rest).parts → left ≡ (step_from now rest).input
      → HasTold shown w first start bytes most (text ++ told_lines shown w here now (step_from now rest).parts (accesses now)) later q left k
  told_next here later k at next is going q left parts input = rw next (rw at (told_more k is going q left parts input))

  -- the budget is spent, or the trace has ended
  pub told_all : n ≡ 0 → lines_of_steps shown w first start bytes most ≡ text
  told_all is = has.lines ∙ ap (λ (j : ℕ). text ++ lines_of_steps shown w stage now rest j) is ∙ ap (λ (xs : List ℕ). text ++ xs) (lines_none shown w stage now rest) ∙ append-nil text

  pub told_over : goes_on w stage now ≡ false → lines_of_steps shown w first start bytes most ≡ text
  told_over over = has.lines ∙ ap (λ (xs : List ℕ). text ++ xs) (lines_over shown w stage now rest n over) ∙ append-nil text

  pub left_all : n ≡ 0 → false ≡ is_left w first start bytes most
  left_all is = sym (has.left ∙ ap (λ (j : ℕ). is_left w stage now rest j) is ∙ left_none shown w stage now rest)

  pub left_before : (k : ℕ) → n ≡ suc k → is_none now.ended ≡ true → goes_on w stage now ≡ false → true ≡ is_left w first start bytes most
  left_before k is going over = sym (has.left ∙ ap (λ (j : ℕ). is_left w stage now rest j) is ∙ left_over shown w stage now rest k over ∙ going)

  pub left_ended : is_none now.ended ≡ false → false ≡ is_left w first start bytes most
  left_ended over = sym (has.left ∙ by_steps n)
    where
      by_steps : (j : ℕ) → is_left w stage now rest j ≡ false
      by_steps zero = left_none shown w stage now rest
      by_steps (suc j) = left_over shown w stage now rest j (ended_over w stage now over) ∙ over

  pub last_all : n ≡ 0 → now ≡ machine_left w first start bytes most
  last_all is = sym (has.last ∙ ap (λ (j : ℕ). machine_left w stage now rest j) is ∙ last_none shown w stage now rest)

  pub last_ended : goes_on w stage now ≡ false → now ≡ machine_left w first start bytes most
  last_ended over = sym (has.last ∙ last_over shown w stage now rest n over)

-- ---- how a step ended

-- it went on
pub going_of : (e : Option Ended) (r : StepEnd) → r ≡ Going → r ≡ step_end e → is_none e ≡ true
going_of None r is end = refl
going_of (Some (Exit code)) r is end = let h : Going ≡ StepExit code = sym is ∙ end in cc
going_of (Some (Trap x)) r is end = let h : Going ≡ StepTrap x = sym is ∙ end in cc

pub over_other : (e : Option Ended) (r : StepEnd) → (r ≡ Going → ⊥) → r ≡ step_end e → is_none e ≡ false
over_other None r other end = absurd (other end)
over_other (Some x) r other end = refl

-- ---- a machine that hasn't ended

pub goes : (m : MachineState) → has_ended m ≡ false → is_none m.parts.ended ≡ true
goes m h = by_end m.parts.ended h
  where
    by_end : (e : Option Ended) → (is_some e || m.failed) ≡ false → is_none e ≡ true
    by_end None h = refl
    by_end (Some x) h = cc

pub goes_whole : (m : MachineState) → has_ended m ≡ false → m.failed ≡ false
goes_whole m h = by_end m.parts.ended h
  where
    by_end : (e : Option Ended) → (is_some e || m.failed) ≡ false → m.failed ≡ false
    by_end None h = h
    by_end (Some x) h = cc

pub not_ended : (m : MachineState) → is_none m.parts.ended ≡ true → m.failed ≡ false → has_ended m ≡ false
not_ended m going fine = by_end m.parts.ended going
  where
    by_end : (e : Option Ended) → is_none e ≡ true → (is_some e || m.failed) ≡ false
    by_end None h = fine
    by_end (Some x) h = cc

-- ---- streams that never fail

no_rise : (A : Type 0) → Rose 0 0 → A
no_rise A h = absurd (omega (arith, h))

pub not_undone : (r : StepEnd) → (r ≡ ReadFault → Rose 0 0) → (r ≡ WriteFault → Rose 0 0) → (r ≡ ErrorsFault → Rose 0 0) → is_undone r ≡ false
not_undone Going a b c = refl
not_undone (StepExit code) a b c = refl
not_undone (StepTrap t) a b c = refl
not_undone ReadFault a b c = no_rise (true ≡ false) (a refl)
not_undone WriteFault a b c = no_rise (true ≡ false) (b refl)
not_undone ErrorsFault a b c = no_rise (true ≡ false) (c refl)

pub some_is : (a b : List ℕ) → Some a ≡ Some b → a ≡ b
some_is a b h = cc

-- ---- what was put, where the answer is Ok

pub ok_equal : {T E : Type 0} (old new : Option (List ℕ)) (xs ys : List ℕ) (r : Result T E) → xs ≡ ys → OnOk r (HasGained old new xs) → OnOk r (HasGained old new ys)
ok_equal old new xs ys (Ok v) e h = put_equal old new xs ys e h
ok_equal old new xs ys (Err f) e h = tt
