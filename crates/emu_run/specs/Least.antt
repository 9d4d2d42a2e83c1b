-- A run ends at the least number of steps at which the machine has ended or has counted its budget.
use Rattle.std.specs.Prelude.{◌≡◌, ◌<◌, ◌≤◌, ℕ, zero, suc, ◌+◌, ◌-◌, true, false, ◌⊎◌}
use Rattle.std.proofs.Common.{inl, inr, refl, sym, subst, ◌∙◌, arith}
use Rattle.emu_model.specs.State.{State}
use Rattle.emu_run.specs.Step.{step}
use Rattle.emu_run.specs.Run.{goes_on, until_end, run}
use Rattle.emu_run.specs.RunLaws.{until_end_none, until_end_one, until_end_over, step_counts}

-- the state after k steps
unfoldable pub after : State → ℕ → State
after st zero = st
after st (suc k) = after (step st) k

-- it has ended, or has counted its budget
abbrev pub HasStopped : ℕ → State → Type 0
HasStopped budget st = (goes_on st ≡ true → ⊥) ⊎ (st.parts.steps ≡ budget)

-- `end` is the state after the least number of steps at which the machine has stopped
pub record IsRun (budget : ℕ) (st end : State) : Type 0 where
  pub count : ℕ
  pub reached : end ≡ after st count
  pub stopped : HasStopped budget end
  pub least : (k : ℕ) → k < count → HasStopped budget (after st k) → ⊥

after_none : (st : State) → after st 0 ≡ st
unfolding after
after_none st = refl

after_more : (st : State) (k : ℕ) → after st (suc k) ≡ after (step st) k
unfolding after
after_more st k = refl

ended : (budget : ℕ) (st : State) → goes_on st ≡ false → HasStopped budget st
ended budget st is = inl (λ goes. let f : true ≡ false = sym goes ∙ is in cc)

going : (budget : ℕ) (st : State) → goes_on st ≡ true → st.parts.steps < budget → HasStopped budget st → ⊥
going budget st goes below (inl h) = h goes
going budget st goes below (inr e) = absurd (omega arith)

-- a machine that has stopped runs no step
at_once : (budget : ℕ) (st : State) → HasStopped budget st → IsRun budget st st
at_once budget st h = record { count = 0; reached = sym (after_none st); stopped = h; least = λ k below _. absurd (omega arith) }

-- one that hasn't runs a step more than the machine after its step
not_before : (budget n : ℕ) (st : State) → (HasStopped budget st → ⊥) → ((k : ℕ) → k < n → HasStopped budget (after (step st) k) → ⊥) → (k : ℕ) → k < n + 1 → HasStopped budget (after st k) → ⊥
not_before budget n st here least zero below h = here (subst (λ (s : State). HasStopped budget s) (after_none st) h)
not_before budget n st here least (suc k) below h = least k (omega arith) (subst (λ (s : State). HasStopped budget s) (after_more st k) h)

one_more : (budget : ℕ) (st end : State) → (HasStopped budget st → ⊥) → IsRun budget (step st) end → IsRun budget st end
one_more budget st end here r = record {
  count = suc r.count;
  reached = r.reached ∙ sym (after_more st r.count);
  stopped = r.stopped;
  least = λ k below h. not_before budget r.count st here r.least k (omega arith) h;
}

is_run : (k budget : ℕ) (st : State) → st.parts.steps + k ≡ budget → IsRun budget st (until_end st k)
is_run zero budget st e = rw (until_end_none st) (at_once budget st (inr (omega arith)))
is_run (suc k) budget st e =
    elim (goes_on st) as (λ b. goes_on st ≡ b → IsRun budget st (until_end st (suc k))) [
      | true ↦ λ goes. rw (until_end_one st k goes) (one_more budget st (until_end (step st) k) (going budget st goes (omega arith)) (
          elim (step_counts st) as (λ _. IsRun budget (step st) (until_end (step st) k)) [
            | inl over ↦ rw (until_end_over (step st) k over) (at_once budget (step st) (ended budget (step st) over))
            | inr one ↦ is_run k budget (step st) (omega arith)
          ]))
      | false ↦ λ over. rw (until_end_over st (suc k) over) (at_once budget st (ended budget st over))
    ] refl

pub run_is_least : (st : State) (budget : ℕ) → st.parts.steps ≤ budget → IsRun budget st (run st budget)
run_is_least st budget h = is_run (budget - st.parts.steps) budget st (omega arith)
