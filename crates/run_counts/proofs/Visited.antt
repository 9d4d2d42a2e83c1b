-- A run, step after step: where it has come to, and how often it stood in each word.
use Rattle.std.proofs.Common.{◌≡◌, ◌<◌, ◌≤◌, ℕ, zero, suc, ◌+◌, ◌-◌, ◌/◌, Bool, true, false, List, Option, Some, None, is_none, nat_eq, if◌then◌else◌, refl, sym, ap, ◌∙◌, arith, ◌||◌, is_some, ◌⊎◌, inl, inr, append-nil}
use Rattle.emu_model.specs.declared.trap.Ended.{Ended}
use Rattle.emu_model.specs.declared.trap.Ended.TheVariants.{Exit, Trap}
use Rattle.emu_model.specs.declared.trap.Trap.{Trap as Cause}
use Rattle.emu_model.specs.State.{Parts, State}
use Rattle.emu_system.specs.Start.{with_input}
use Rattle.emu_run.specs.Step.{step}
use Rattle.emu_run.specs.Run.{goes_on, run, until_end}
use Rattle.emu_run.specs.RunLaws.{until_end_none, until_end_one, until_end_over, behind, step_behind, step_counts}
use Rattle.io_gate.specs.Streams.{Rose}
use Rattle.emu_machine.specs.Ends.{is_undone, step_end}
use Rattle.emu_machine.specs.Machines.{MachineState, has_ended}
use Rattle.emu_machine.specs.declared.ends.StepEnd.{StepEnd}
use Rattle.emu_machine.specs.declared.ends.StepEnd.TheVariants.{Going, Exit as StepExit, Trap as StepTrap, ReadFault, WriteFault, ErrorsFault}
use Rattle.word_counts.specs.Counts.{Counts, IsCounted, count_at}
use Rattle.run_counts.specs.Visits.{stands_in, visits}
use Rattle.run_counts.proofs.Stepped.{exit_counts, trap_counts}

-- ---- steps up to the end

one_more : (st : State) (k : ℕ) → goes_on (until_end st k) ≡ true → until_end st (suc k) ≡ step (until_end st k)
one_more st zero going =
    until_end_one st 0 (ap goes_on (sym (until_end_none st)) ∙ going) ∙ until_end_none (step st) ∙ ap step (sym (until_end_none st))
one_more st (suc k) going =
    elim (goes_on st) as (λ b. goes_on st ≡ b → until_end st (suc (suc k)) ≡ step (until_end st (suc k))) [
      | true ↦ λ h.
          until_end_one st (suc k) h ∙ one_more (step st) k (ap goes_on (sym (until_end_one st k h)) ∙ going) ∙ ap step (sym (until_end_one st k h))
      | false ↦ λ h. let both : true ≡ false = sym going ∙ ap goes_on (until_end_over st (suc k) h) ∙ h in cc
    ] refl

-- an ended machine stays
stays : (st : State) (k m : ℕ) → goes_on (until_end st k) ≡ false → until_end st (k + m) ≡ until_end st k
stays st zero m over =
    ap (λ (n : ℕ). until_end st n) (let e : 0 + m ≡ m = omega arith in e)
    ∙ until_end_over st m (ap goes_on (sym (until_end_none st)) ∙ over) ∙ sym (until_end_none st)
stays st (suc k) m over =
    elim (goes_on st) as (λ b. goes_on st ≡ b → until_end st (suc k + m) ≡ until_end st (suc k)) [
      | true ↦ λ h.
          ap (λ (n : ℕ). until_end st n) (let e : suc k + m ≡ suc (k + m) = omega arith in e)
          ∙ until_end_one st (k + m) h ∙ stays (step st) k m (ap goes_on (sym (until_end_one st k h)) ∙ over) ∙ sym (until_end_one st k h)
      | false ↦ λ h. until_end_over st (suc k + m) h ∙ sym (until_end_over st (suc k) h)
    ] refl

-- ---- where the steps have come to

-- behind n steps the machine stands so, this is left, and each word was counted as often as they stood in it
pub record HasCome (start : State) (n : ℕ) (now : Parts) (left : List ℕ) (counts : Counts) : Type 0 where
  pub parts : now ≡ (until_end start n).parts
  pub input : left ≡ (until_end start n).input
  pub counted : (word : ℕ) → count_at counts word ≡ visits word start n

visits_none : (word : ℕ) (st : State) → visits word st 0 ≡ 0
unfolding visits
visits_none word st = refl

visits_one : (word : ℕ) (st : State) (n : ℕ) → visits word st (suc n) ≡ (if stands_in word (until_end st n) then visits word st n + 1 else visits word st n)
unfolding visits
visits_one word st n = refl

pub comes_first : (old : Parts) (bytes left : List ℕ) (counts : Counts) → left ≡ bytes → ((word : ℕ) → count_at counts word ≡ 0) → (n : ℕ) → n ≡ 0 → HasCome (with_input old bytes) n old left counts
comes_first old bytes left counts whole zero_all n is = rw is (record {
  parts = ap (λ (s : State). s.parts) (sym (until_end_none (with_input old bytes)));
  input = whole ∙ ap (λ (s : State). s.input) (sym (until_end_none (with_input old bytes)));
  counted = λ word. zero_all word ∙ sym (visits_none word (with_input old bytes));
})

-- a state, by what was written
from_nothing : (s : State) → s ≡ behind s.output s.errors (with_input s.parts s.input)
from_nothing s = simp append-nil

-- a step of a state, by the machine and the input that it has
stepped : (s : State) (p : Parts) (left : List ℕ) → p ≡ s.parts → left ≡ s.input → step s ≡ behind s.output s.errors (step (with_input p left))
stepped s p left parts input =
    ap step (from_nothing s) ∙ step_behind s.output s.errors (with_input s.parts s.input)
    ∙ ap (λ (m : Parts). behind s.output s.errors (step (with_input m s.input))) (sym parts)
    ∙ ap (λ (i : List ℕ). behind s.output s.errors (step (with_input p i))) (sym input)

module _ (start : State) (n : ℕ) (p q : Parts) (left rest : List ℕ) (before : Counts) (going : is_none p.ended ≡ true) (parts : q ≡ (step (with_input p left)).parts)
    (input : rest ≡ (step (with_input p left)).input) (came : HasCome start n p left before) where
  next : until_end start (suc n) ≡ behind (until_end start n).output (until_end start n).errors (step (with_input p left))
  next = one_more start n (ap (λ (m : Parts). is_none m.ended) (sym came.parts) ∙ going) ∙ stepped (until_end start n) p left came.parts came.input

  next_parts : q ≡ (until_end start (suc n)).parts
  next_parts = parts ∙ ap (λ (t : State). t.parts) (sym next)

  -- it was counted at its word
  pub has_come : (after : Counts) (more : ℕ) → more ≡ suc n → IsCounted (p.core.pc / 4) before after → HasCome start more q rest after
  has_come after more is counted = rw is (record {
    parts = next_parts;
    input = input ∙ ap (λ (t : State). t.input) (sym next);
    counted = λ word.
        counted word
        ∙ ap (λ (m : Parts). if nat_eq word (m.core.pc / 4) then count_at before word + 1 else count_at before word) came.parts
        ∙ ap (λ (k : ℕ). if stands_in word (until_end start n) then k + 1 else k) (came.counted word)
        ∙ sym (visits_one word start n);
  })

  -- it ended the machine
  pub run_over : (budget : ℕ) → n + start.parts.steps < budget → is_none q.ended ≡ false → q ≡ (run start budget).parts
  run_over budget below over =
      let k = budget - start.parts.steps - suc n in
      next_parts
      ∙ ap (λ (t : State). t.parts)
      (sym (ap (λ (m : ℕ). until_end start m) (let e : budget - start.parts.steps ≡ suc n + k = omega (arith, below) in e)
      ∙ stays start (suc n) k (ap (λ (m : Parts). is_none m.ended) (sym next_parts) ∙ over)))

-- the budget is spent
pub run_spent_at : (start : State) (n budget : ℕ) (p : Parts) (left : List ℕ) (counts : Counts) → n ≡ budget - start.parts.steps → HasCome start n p left counts → p ≡ (run start budget).parts
run_spent_at start n budget p left counts is came = came.parts ∙ ap (λ (m : ℕ). (until_end start m).parts) is

pub counts_as : (start : State) (n k : ℕ) (p : Parts) (left : List ℕ) (counts : Counts) → n ≡ k → HasCome start n p left counts → (word : ℕ) → count_at counts word ≡ visits word start k
counts_as start n k p left counts is came word = came.counted word ∙ ap (λ (m : ℕ). visits word start m) is

-- ---- how a step ended

none_ended : (e : Option Ended) → is_none e ≡ true → e ≡ None
none_ended None h = refl
none_ended (Some x) h = cc

exit_of : (e : Option Ended) (code : ℕ) → StepExit code ≡ step_end e → e ≡ Some (Exit code)
exit_of None code h = cc
exit_of (Some (Exit other)) code h = cc
exit_of (Some (Trap x)) code h = cc

-- it went on
pub going_of : (e : Option Ended) (r : StepEnd) → r ≡ Going → r ≡ step_end e → is_none e ≡ true
going_of None r is end = refl
going_of (Some (Exit code)) r is end = let h : Going ≡ StepExit code = sym is ∙ end in cc
going_of (Some (Trap x)) r is end = let h : Going ≡ StepTrap x = sym is ∙ end in cc

pub over_of : (e : Option Ended) (r : StepEnd) (code : ℕ) → r ≡ StepExit code → r ≡ step_end e → is_none e ≡ false
over_of None r code is end = let h : StepExit code ≡ Going = sym is ∙ end in cc
over_of (Some x) r code is end = refl

pub over_other : (e : Option Ended) (r : StepEnd) → (r ≡ Going → ⊥) → r ≡ step_end e → is_none e ≡ false
over_other None r other end = absurd (other end)
over_other (Some x) r other end = refl

-- a step that goes on counts one, and so does one that exits
going_counts : (a b : ℕ) (e : Option Ended) → is_none e ≡ true → (is_none e ≡ false) ⊎ (b ≡ a + 1) → b ≡ a + 1
going_counts a b e h (inl over) = let both : true ≡ false = sym h ∙ over in cc
going_counts a b e h (inr one) = one

pub one_going : (st : State) (q : Parts) (r : StepEnd) → q ≡ (step st).parts → r ≡ Going → r ≡ step_end q.ended → q.steps ≡ st.parts.steps + 1
one_going st q r is going end =
    ap (λ (m : Parts). m.steps) is
    ∙ going_counts st.parts.steps (step st).parts.steps (step st).parts.ended (ap (λ (m : Parts). is_none m.ended) (sym is) ∙ going_of q.ended r going end) (step_counts st)

pub one_exit : (st : State) (q : Parts) (r : StepEnd) (code : ℕ) → is_none st.parts.ended ≡ true → q ≡ (step st).parts → r ≡ StepExit code → r ≡ step_end q.ended → q.steps ≡ st.parts.steps + 1
one_exit st q r code going is exit end =
    ap (λ (m : Parts). m.steps) is
    ∙ exit_counts st code (none_ended st.parts.ended going) (ap (λ (m : Parts). m.ended) (sym is) ∙ exit_of q.ended code (sym exit ∙ end))

-- and one that traps none
trap_of : (e : Option Ended) (r : StepEnd) → (r ≡ Going → ⊥) → ((code : ℕ) → r ≡ StepExit code → ⊥) → r ≡ step_end e → (x : Cause) × (e ≡ Some (Trap x))
trap_of None r going exit end = absurd (going end)
trap_of (Some (Exit code)) r going exit end = absurd (exit code end)
trap_of (Some (Trap x)) r going exit end = (x, refl)

pub none_trap : (st : State) (q : Parts) (r : StepEnd) → is_none st.parts.ended ≡ true → q ≡ (step st).parts → (r ≡ Going → ⊥) → ((code : ℕ) → r ≡ StepExit code → ⊥) → r ≡ step_end q.ended → q.steps ≡ st.parts.steps
none_trap st q r going is other exit end =
    let t = trap_of q.ended r other exit end in
    ap (λ (m : Parts). m.steps) is ∙ trap_counts st t.0 (none_ended st.parts.ended going) (ap (λ (m : Parts). m.ended) (sym is) ∙ t.1)

-- ---- a machine that hasn't ended

pub goes : (m : MachineState) → has_ended m ≡ false → is_none m.parts.ended ≡ true
goes m h = by_end m.parts.ended h
  where
    by_end : (e : Option Ended) → (is_some e || m.failed) ≡ false → is_none e ≡ true
    by_end None h = refl
    by_end (Some x) h = cc

pub goes_whole : (m : MachineState) → has_ended m ≡ false → m.failed ≡ false
goes_whole m h = by_end m.parts.ended h
  where
    by_end : (e : Option Ended) → (is_some e || m.failed) ≡ false → m.failed ≡ false
    by_end None h = h
    by_end (Some x) h = cc

pub not_ended : (m : MachineState) → is_none m.parts.ended ≡ true → m.failed ≡ false → has_ended m ≡ false
not_ended m going fine = by_end m.parts.ended going
  where
    by_end : (e : Option Ended) → is_none e ≡ true → (is_some e || m.failed) ≡ false
    by_end None h = fine
    by_end (Some x) h = cc

-- ---- streams that never fail

no_rise : (A : Type 0) → Rose 0 0 → A
no_rise A h = absurd (omega (arith, h))

pub not_undone : (r : StepEnd) → (r ≡ ReadFault → Rose 0 0) → (r ≡ WriteFault → Rose 0 0) → (r ≡ ErrorsFault → Rose 0 0) → is_undone r ≡ false
not_undone Going a b c = refl
not_undone (StepExit code) a b c = refl
not_undone (StepTrap t) a b c = refl
not_undone ReadFault a b c = no_rise (true ≡ false) (a refl)
not_undone WriteFault a b c = no_rise (true ≡ false) (b refl)
not_undone ErrorsFault a b c = no_rise (true ≡ false) (c refl)

pub some_is : (a b : List ℕ) → Some a ≡ Some b → a ≡ b
some_is a b h = cc

-- ---- no count is greater than the steps

pub few_more : (new old : ℕ) (b : Bool) → new ≡ (if b then old + 1 else old) → (p q first : ℕ) → q ≡ p + 1 → first ≤ p → old ≤ p - first → new ≤ q - first
few_more new old true is p q first one later few = omega (arith, is, one, later, few)
few_more new old false is p q first one later few = omega (arith, is, one, later, few)
