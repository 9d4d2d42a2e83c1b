-- A run, step after step: with any budget that isn't counted yet, what remains leaves the machine and the input that the whole leaves.
use Rattle.std.proofs.Common.{◌≡◌, ◌≤◌, ℕ, ◌+◌, Bool, true, false, List, Option, Some, None, is_none, IfSome, refl, sym, ap, subst, ◌∙◌, arith}
use Rattle.emu_model.specs.State.{Parts, State}
use Rattle.emu_system.specs.Start.{with_input}
use Rattle.emu_system.specs.SystemCall.{Stepped}
use Rattle.emu_run.specs.Step.{step, step_from}
use Rattle.emu_run.specs.Run.{run}
use Rattle.emu_run.specs.RunLaws.{run_after_turn, run_spent}
use Rattle.emu_machine.specs.Ends.{IsKept}
use Rattle.emu_machine.proofs.Runs.{LeadsRun, LedRun, Ran, ran_at}

-- a machine and what is left of its input
abbrev seen : State → Parts × List ℕ
seen s = (s.parts, s.input)

abbrev pub StandsAt : Parts → List ℕ → Parts → List ℕ → Type 0
StandsAt old bytes now input = (b : ℕ) → now.steps ≤ b → seen (run (with_input old bytes) b) ≡ seen (run (with_input now input) b)

abbrev pub Stands : Parts → Option (List ℕ) → Parts → Option (List ℕ) → Type 0
Stands old told now left = IfSome told (λ bytes. IfSome left (λ input. StandsAt old bytes now input))

pub stands_start : (old : Parts) (told : Option (List ℕ)) → Stands old told old told
stands_start old None = tt
stands_start old (Some bytes) = λ b h. refl

module _ (budget : ℕ) (old p : Parts) (left_p ho hp eo ep : Option (List ℕ)) where
  stands_at : (bytes : List ℕ) (led : LedRun budget old p bytes left_p ho hp eo ep) → IfSome left_p (λ input. StandsAt old bytes p input) → StandsAt old bytes p led.input
  stands_at bytes led stands = subst (λ (left : Option (List ℕ)). IfSome left (λ input. StandsAt old bytes p input)) led.left stands

  -- a step counted
  pub stands_on : (q : Parts) (left_q hq eq told : Option (List ℕ)) → LeadsRun budget old p told left_p ho hp eo ep → Ran step p q left_p left_q hp hq ep eq false
      → is_none p.ended ≡ true → q.steps ≡ p.steps + 1 → Stands old told p left_p → Stands old told q left_q
  stands_on q left_q hq eq None led r going counted stands = tt
  stands_on q left_q hq eq (Some bytes) led r going counted stands =
      let t : Stepped = step_from p led.input in
      let d = (ran_at step p q led.input left_p left_q hp hq ep eq false led.left r).state refl in
      let steps : t.parts.steps ≡ p.steps + 1 = ap (λ (x : Parts). x.steps) (sym d.0) ∙ counted in
      let now : StandsAt old bytes q t.input = λ b h.
      stands_at bytes led stands b (omega (arith, counted, h))
      ∙ ap seen (run_after_turn p led.input b going (omega (arith, counted, h)) steps)
      ∙ ap (λ (x : Parts). seen (run (with_input x t.input) b)) (sym d.0) in
      subst (λ (left : Option (List ℕ)). IfSome left (λ input. StandsAt old bytes q input)) (sym d.1) now

  -- it is what the run with just the steps counted leaves, and so is the input
  pub stands_there : (told : Option (List ℕ)) → LeadsRun budget old p told left_p ho hp eo ep → Stands old told p left_p
      → IfSome told (λ bytes. (p ≡ (run (with_input old bytes) p.steps).parts) × (left_p ≡ Some (run (with_input old bytes) p.steps).input))
  stands_there None led stands = tt
  stands_there (Some bytes) led stands =
      let same : seen (run (with_input old bytes) p.steps) ≡ (p, led.input) =
      stands_at bytes led stands p.steps (omega arith) ∙ ap seen (run_spent (with_input p led.input) p.steps (omega arith)) in
      (sym (ap (λ (x : Parts × List ℕ). x.0) same), led.left ∙ ap (λ (x : Parts × List ℕ). Some x.1) (sym same))

-- and a machine whose next step wasn't done is kept as that run leaves it
pub kept_there : (old p q : Parts) (told left_p left_q : Option (List ℕ)) (broken : Bool) → (broken ≡ true → IsKept p q left_p left_q)
    → IfSome told (λ bytes. (p ≡ (run (with_input old bytes) p.steps).parts) × (left_p ≡ Some (run (with_input old bytes) p.steps).input))
    → IfSome told (λ bytes. broken ≡ true → IsKept (run (with_input old bytes) q.steps).parts q (Some (run (with_input old bytes) q.steps).input) left_q)
kept_there old p q None left_p left_q broken kept there = tt
kept_there old p q (Some bytes) left_p left_q broken kept there = λ h.
    let k = kept h in
    let steps : p.steps ≡ q.steps = sym (ap (λ (x : Parts). x.steps) k.is) in
    let same : IsKept (run (with_input old bytes) p.steps).parts q (Some (run (with_input old bytes) p.steps).input) left_q =
    subst (λ (t : Option (List ℕ)). IsKept (run (with_input old bytes) p.steps).parts q t left_q) there.1 (subst (λ (x : Parts). IsKept x q left_p left_q) there.0 k) in
    subst (λ (n : ℕ). IsKept (run (with_input old bytes) n).parts q (Some (run (with_input old bytes) n).input) left_q) steps same
