-- How a run goes on from step to step: what each step counts, what it appends and what it takes.
use Rattle.std.specs.Prelude.{◌≡◌, ◌<◌, ◌≤◌, ◌⊎◌, ℕ, zero, suc, ◌+◌, ◌-◌, ◌%◌, Bool, true, false, List, [], ◌++◌, length, drop, min, Option, Some, None, is_none, nat_eq, if◌then◌else◌}
use Rattle.std.proofs.Common.{inl, inr, refl, ap, sym, ◌∙◌, append_assoc, append-nil, arith, length-drop}
use Rattle.std.proofs.lemmas.List.{drop-drop, drop_min}
use Rattle.emu_model.specs.declared.access.Kind.TheVariants.{Fetch as FetchKind}
use Rattle.emu_model.specs.declared.trap.TrapKind.TheVariants.{PcAlign}
use Rattle.emu_model.specs.declared.trap.Effect.{Effect}
use Rattle.emu_model.specs.declared.trap.Effect.TheVariants.{Next, Branch, Call, Trap as Trapping}
use Rattle.emu_model.specs.Access.{Memory, refused, value}
use Rattle.emu_model.specs.State.{Core, Vectors, Parts, State, IsPrefix}
use Rattle.emu_system.specs.Start.{with_input}
use Rattle.emu_run.specs.declared.insn.Insn.{Insn}
use Rattle.emu_system.specs.SystemCall.{Action, fails, answers, maps, moves_break, sets_length, takes, puts, exits, Stepped, quiet, total, call_done, action}
use Rattle.emu_model.specs.Done.{Done}
use Rattle.emu_run.specs.Step.{decode, performed, trapped, finished, undefined, executed, fetched, step_from, taken_by, step}
use Rattle.emu_run.specs.Run.{goes_on, until_end, run}

-- ---- the equations of a run

pub until_end_none : (st : State) → until_end st 0 ≡ st
unfolding until_end
until_end_none st = refl

pub until_end_one : (st : State) (k : ℕ) → goes_on st ≡ true → until_end st (suc k) ≡ until_end (step st) k
unfolding until_end
until_end_one st k h = ap (λ (b : Bool). if b then until_end (step st) k else st) h

pub until_end_over : (st : State) (k : ℕ) → goes_on st ≡ false → until_end st k ≡ st
unfolding until_end
until_end_over st zero h = refl
until_end_over st (suc k) h = ap (λ (b : Bool). if b then until_end (step st) k else st) h

pub run_one : (st : State) (budget : ℕ) → goes_on st ≡ true → st.parts.steps < budget → run st budget ≡ until_end (step st) (budget - (st.parts.steps + 1))
run_one st budget h below = let e : budget - st.parts.steps ≡ suc (budget - (st.parts.steps + 1)) = omega arith in rw e (until_end_one st _ h)

-- a step that counted
pub run_on : (st : State) (budget : ℕ) → goes_on st ≡ true → st.parts.steps < budget → (step st).parts.steps ≡ st.parts.steps + 1 → run st budget ≡ run (step st) budget
run_on st budget h below e = run_one st budget h below ∙ ap (λ n. until_end (step st) (budget - n)) (sym e)

-- a step that ended
pub run_ended : (st : State) (budget : ℕ) → goes_on st ≡ true → st.parts.steps < budget → goes_on (step st) ≡ false → run st budget ≡ step st
run_ended st budget h below e = run_one st budget h below ∙ until_end_over (step st) _ e

pub run_spent : (st : State) (budget : ℕ) → budget ≤ st.parts.steps → run st budget ≡ st
run_spent st budget h = let e : budget - st.parts.steps ≡ 0 = omega arith in rw e (until_end_none st)

-- ---- each step counts one or ends, and leaves a rest of the input

abbrev pub CountsOrEnds : Parts → Parts → Type 0
CountsOrEnds old new = (is_none new.ended ≡ false) ⊎ (new.steps ≡ old.steps + 1)

-- these bytes without some of the first
pub record IsRest (old new : List ℕ) : Type 0 where
  pub taken : ℕ
  pub within : taken ≤ length old
  pub is : new ≡ drop taken old

pub rest_all : (xs : List ℕ) → IsRest xs xs
rest_all xs = record { taken = 0; within = omega arith; is = refl }

pub rest_trans : (xs ys zs : List ℕ) → IsRest xs ys → IsRest ys zs → IsRest xs zs
rest_trans xs ys zs p q = record {
  taken = p.taken + q.taken;
  within = let e : length ys ≡ length xs - p.taken = ap length p.is ∙ length-drop p.taken xs in omega arith;
  is = q.is ∙ ap (λ (l : List ℕ). drop q.taken l) p.is ∙ drop-drop q.taken p.taken xs;
}

pub record IsTurn (m : Parts) (input : List ℕ) (t : Stepped) : Type 0 where
  pub counts : CountsOrEnds m t.parts
  pub takes : IsRest input t.input

done_turns : (a : Action) (m : Parts) (input : List ℕ) → IsTurn m input (call_done a m input)
done_turns (fails e) m input = record { counts = inr refl; takes = rest_all input }
done_turns (answers v) m input = record { counts = inr refl; takes = rest_all input }
done_turns (maps memory v) m input = record { counts = inr refl; takes = rest_all input }
done_turns (moves_break memory to) m input = record { counts = inr refl; takes = rest_all input }
done_turns (sets_length bits) m input = record { counts = inr refl; takes = rest_all input }
done_turns (takes ranges) m input = record { counts = inr refl; takes = record { taken = min (total ranges) (length input); within = omega arith; is = sym (drop_min (total ranges) input) } }
done_turns (puts file ranges) m input = record { counts = inr refl; takes = rest_all input }
done_turns (exits code) m input = record { counts = inl refl; takes = rest_all input }

finished_turns : (m : Parts) (input : List ℕ) (c : Core) (v : Vectors) (memory : Memory) (e : Effect) → IsTurn m input (finished m input c v memory e)
finished_turns m input c v memory Next = record { counts = inr refl; takes = rest_all input }
finished_turns m input c v memory (Branch a) = record { counts = inr refl; takes = rest_all input }
finished_turns m input c v memory Call = done_turns (action m) m input
finished_turns m input c v memory (Trapping t) = record { counts = inl refl; takes = rest_all input }

undefined_turns : (m : Parts) (input : List ℕ) → IsTurn m input (undefined m input)
undefined_turns m input = record { counts = inl refl; takes = rest_all input }

executed_turns : (m : Parts) (input : List ℕ) (i : Option Insn) → IsTurn m input (executed m input i)
executed_turns m input None = undefined_turns m input
executed_turns m input (Some i) =
    let d : Done = performed i m.core m.vectors m.memory in
    finished_turns m input d.core d.vectors d.memory d.effect

fetched_turns : (m : Parts) (input : List ℕ) (o : Option ℕ) → IsTurn m input (fetched m input o)
fetched_turns m input (Some a) = record { counts = inl refl; takes = rest_all input }
fetched_turns m input None = executed_turns m input (decode (value m.memory m.core.pc 4))

pub turn_turns : (m : Parts) (input : List ℕ) → IsTurn m input (step_from m input)
turn_turns m input =
    elim (nat_eq (m.core.pc % 4) 0) as (λ b. IsTurn m input (if b then fetched m input (refused m.memory m.core.pc 4 FetchKind) else quiet (trapped m PcAlign m.core.pc) input)) [
      | true ↦ fetched_turns m input (refused m.memory m.core.pc 4 FetchKind)
      | false ↦ record { counts = inl refl; takes = rest_all input }
    ]

pub step_counts : (st : State) → CountsOrEnds st.parts (step st).parts
step_counts st = (turn_turns st.parts st.input).counts

-- ---- a machine only appends to its outputs, and takes from the front of its input

pub prefix_refl : (xs : List ℕ) → IsPrefix xs xs
prefix_refl xs = ([], sym (append-nil xs))

pub prefix_trans : (xs ys zs : List ℕ) → IsPrefix xs ys → IsPrefix ys zs → IsPrefix xs zs
prefix_trans xs ys zs p q = (p.0 ++ q.0, q.1 ∙ ap (λ (l : List ℕ). l ++ q.0) p.1 ∙ append_assoc xs p.0 q.0)

pub record Moves (old new : State) : Type 0 where
  pub input : IsRest old.input new.input
  pub output : IsPrefix old.output new.output
  pub errors : IsPrefix old.errors new.errors

pub moves_not : (st : State) → Moves st st
moves_not st = record { input = rest_all st.input; output = prefix_refl st.output; errors = prefix_refl st.errors }

pub moves_trans : (a b c : State) → Moves a b → Moves b c → Moves a c
moves_trans a b c p q = record {
  input = rest_trans a.input b.input c.input p.input q.input;
  output = prefix_trans a.output b.output c.output p.output q.output;
  errors = prefix_trans a.errors b.errors c.errors p.errors q.errors;
}

pub step_moves : (st : State) → Moves st (step st)
step_moves st = let t : Stepped = step_from st.parts st.input in record { input = (turn_turns st.parts st.input).takes; output = (t.output, refl); errors = (t.errors, refl) }

pub until_end_moves : (st : State) (k : ℕ) → Moves st (until_end st k)
until_end_moves st zero = rw (until_end_none st) (moves_not st)
until_end_moves st (suc k) =
    elim (goes_on st) as (λ b. goes_on st ≡ b → Moves st (until_end st (suc k))) [
      | true ↦ λ e. rw (until_end_one st k e) (moves_trans st (step st) (until_end (step st) k) (step_moves st) (until_end_moves (step st) k))
      | false ↦ λ e. rw (until_end_over st (suc k) e) (moves_not st)
    ] refl

-- what a step leaves moves on to what the run leaves
pub run_moves : (st : State) (budget : ℕ) → goes_on st ≡ true → st.parts.steps < budget → Moves (step st) (run st budget)
run_moves st budget h below = rw (run_one st budget h below) (until_end_moves (step st) (budget - (st.parts.steps + 1)))

-- ---- a machine doesn't look at what it has written

-- a state with these bytes in front of what it has written
abbrev pub behind : List ℕ → List ℕ → State → State
behind output errors st = record st { output = output ++ st.output; errors = errors ++ st.errors }

taken_behind : (o e : List ℕ) (st : State) (t : Stepped) → taken_by (behind o e st) t ≡ behind o e (taken_by st t)
taken_behind o e st t = simp append_assoc

pub step_behind : (o e : List ℕ) (st : State) → step (behind o e st) ≡ behind o e (step st)
step_behind o e st = taken_behind o e st (step_from st.parts st.input)

pub until_end_behind : (o e : List ℕ) (st : State) (k : ℕ) → until_end (behind o e st) k ≡ behind o e (until_end st k)
until_end_behind o e st zero = until_end_none (behind o e st) ∙ ap (λ (s : State). behind o e s) (sym (until_end_none st))
until_end_behind o e st (suc k) =
    elim (goes_on st) as (λ b. goes_on st ≡ b → until_end (behind o e st) (suc k) ≡ behind o e (until_end st (suc k))) [
      | true ↦ λ h. until_end_one (behind o e st) k h ∙ ap (λ (s : State). until_end s k) (step_behind o e st) ∙ until_end_behind o e (step st) k ∙ ap (λ (s : State). behind o e s) (sym (until_end_one st k h))
      | false ↦ λ h. until_end_over (behind o e st) (suc k) h ∙ ap (λ (s : State). behind o e s) (sym (until_end_over st (suc k) h))
    ] refl

-- a run from what stands is the run from nothing, with what stands in front
pub run_behind : (o e : List ℕ) (st : State) (budget : ℕ) → run (behind o e st) budget ≡ behind o e (run st budget)
run_behind o e st budget = until_end_behind o e st (budget - st.parts.steps)

-- what a step of a machine that has written nothing leaves
pub step_of_turn : (m : Parts) (input : List ℕ) → step (with_input m input) ≡ behind (step_from m input).output (step_from m input).errors (with_input (step_from m input).parts (step_from m input).input)
step_of_turn m input = let t : Stepped = step_from m input in simp append-nil

-- a run whose first step counts
pub run_after_turn : (m : Parts) (input : List ℕ) (budget : ℕ) → is_none m.ended ≡ true → m.steps < budget → (step_from m input).parts.steps ≡ m.steps + 1
    → run (with_input m input) budget ≡ behind (step_from m input).output (step_from m input).errors (run (with_input (step_from m input).parts (step_from m input).input) budget)
run_after_turn m input budget going below counted =
    run_on (with_input m input) budget going below counted
    ∙ ap (λ (s : State). run s budget) (step_of_turn m input)
    ∙ run_behind (step_from m input).output (step_from m input).errors (with_input (step_from m input).parts (step_from m input).input) budget
