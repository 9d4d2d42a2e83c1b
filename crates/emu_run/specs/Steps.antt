-- Steps up to a state, and then on from there, are the steps from the start.
use Rattle.std.specs.Prelude.{◌≡◌, ◌≤◌, ℕ, zero, suc, ◌+◌, ◌-◌, true, false}
use Rattle.std.proofs.Common.{refl, ap, sym, ◌∙◌, arith, zero-add}
use Rattle.emu_model.specs.State.{State}
use Rattle.emu_run.specs.Step.{step}
use Rattle.emu_run.specs.Run.{goes_on, until_end}
use Rattle.emu_run.specs.RunLaws.{until_end_none, until_end_one, until_end_over}

pub until_end_added : (j k : ℕ) (st : State) → until_end (until_end st j) k ≡ until_end st (j + k)
until_end_added zero k st = ap (λ (s : State). until_end s k) (until_end_none st) ∙ ap (until_end st) (sym (zero-add k))
until_end_added (suc j) k st =
    elim (goes_on st) as (λ b. goes_on st ≡ b → until_end (until_end st (suc j)) k ≡ until_end st (suc j + k)) [
      | true ↦ λ h.
          let e : suc (j + k) ≡ suc j + k = omega arith in
          ap (λ (s : State). until_end s k) (until_end_one st j h) ∙ until_end_added j k (step st) ∙ sym (until_end_one st (j + k) h) ∙ ap (until_end st) e
      | false ↦ λ h. ap (λ (s : State). until_end s k) (until_end_over st (suc j) h) ∙ until_end_over st k h ∙ sym (until_end_over st (suc j + k) h)
    ] refl

-- a machine that goes back to one that it was, and takes its steps again
pub again : (st : State) (j n : ℕ) → j ≤ n → until_end (until_end st j) (n - j) ≡ until_end st n
again st j n h = let e : j + (n - j) ≡ n = omega arith in until_end_added j (n - j) st ∙ ap (until_end st) e
