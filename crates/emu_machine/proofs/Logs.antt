-- The accesses of a run, step after step: those of the last step that was taken.
use Rattle.std.proofs.Common.{◌≡◌, ◌<◌, ◌≤◌, ℕ, zero, suc, ◌+◌, ◌-◌, Bool, true, false, List, Option, Some, None, is_none, IfSome, if◌then◌else◌, refl, sym, ap, subst, ◌∙◌, arith}
use Rattle.emu_model.specs.declared.access.Access.{Access}
use Rattle.emu_model.specs.State.{Parts}
use Rattle.emu_system.specs.SystemCall.{Stepped}
use Rattle.emu_run.specs.Step.{accesses, step, step_from}
use Rattle.emu_machine.specs.Accesses.{last_accesses, run_accesses}
use Rattle.emu_machine.proofs.Runs.{LeadsRun, LedRun, Ran, ran_at}

-- ---- the equations

pub last_none : (l : List Access) (m : Parts) (input : List ℕ) → last_accesses l m input 0 ≡ l
unfolding last_accesses
last_none l m input = refl

last_one : (l : List Access) (m : Parts) (input : List ℕ) (k : ℕ) → is_none m.ended ≡ true
    → last_accesses l m input (suc k) ≡ last_accesses (accesses m) (step_from m input).parts (step_from m input).input k
unfolding last_accesses
last_one l m input k going = ap (λ (b : Bool). if b then last_accesses (accesses m) (step_from m input).parts (step_from m input).input k else l) going

last_over : (l : List Access) (m : Parts) (input : List ℕ) (k : ℕ) → is_none m.ended ≡ false → last_accesses l m input k ≡ l
unfolding last_accesses
last_over l m input zero over = refl
last_over l m input (suc k) over = ap (λ (b : Bool). if b then last_accesses (accesses m) (step_from m input).parts (step_from m input).input k else l) over

pub log_one : (l : List Access) (m : Parts) (input : List ℕ) (budget : ℕ) → is_none m.ended ≡ true → m.steps < budget
    → run_accesses l m input budget ≡ last_accesses (accesses m) (step_from m input).parts (step_from m input).input (budget - (m.steps + 1))
log_one l m input budget going below = let e : budget - m.steps ≡ suc (budget - (m.steps + 1)) = omega arith in rw e (last_one l m input _ going)

pub log_spent : (l : List Access) (m : Parts) (input : List ℕ) (budget : ℕ) → budget ≤ m.steps → run_accesses l m input budget ≡ l
log_spent l m input budget over = let e : budget - m.steps ≡ 0 = omega arith in rw e (last_none l m input)

-- ---- what the log of a run has come to

-- what remains leaves the accesses that the whole does
abbrev pub Logs : ℕ → List Access → Parts → Option (List ℕ) → List Access → Parts → Option (List ℕ) → Type 0
Logs budget before old told log now left = IfSome told (λ bytes. IfSome left (λ input. run_accesses before old bytes budget ≡ run_accesses log now input budget))

pub logs_start : (budget : ℕ) (before : List Access) (old : Parts) (told : Option (List ℕ)) → Logs budget before old told before old told
logs_start budget before old None = tt
logs_start budget before old (Some bytes) = refl

module _ (budget : ℕ) (before log : List Access) (old p : Parts) (left_p ho hp eo ep : Option (List ℕ)) where
  logs_at : (bytes : List ℕ) (led : LedRun budget old p bytes left_p ho hp eo ep) → IfSome left_p (λ input. run_accesses before old bytes budget ≡ run_accesses log p input budget)
      → run_accesses before old bytes budget ≡ run_accesses log p led.input budget
  logs_at bytes led logs = subst (λ (left : Option (List ℕ)). IfSome left (λ input. run_accesses before old bytes budget ≡ run_accesses log p input budget)) led.left logs

  -- the budget is spent
  pub logs_spent : (told : Option (List ℕ)) → LeadsRun budget old p told left_p ho hp eo ep → Logs budget before old told log p left_p → budget ≤ p.steps
      → IfSome told (λ bytes. log ≡ run_accesses before old bytes budget)
  logs_spent None led logs over = tt
  logs_spent (Some bytes) led logs over = sym (logs_at bytes led logs ∙ log_spent log p led.input budget over)

  module _ (q : Parts) (left_q hq eq : Option (List ℕ)) (going : is_none p.ended ≡ true) (below : p.steps < budget) where
    -- the step counted
    pub logs_on : (told : Option (List ℕ)) → LeadsRun budget old p told left_p ho hp eo ep → Ran step p q left_p left_q hp hq ep eq false
        → Logs budget before old told log p left_p → q.steps ≡ p.steps + 1 → Logs budget before old told (accesses p) q left_q
    logs_on None led r logs counted = tt
    logs_on (Some bytes) led r logs counted =
        let t : Stepped = step_from p led.input in
        let d = (ran_at step p q led.input left_p left_q hp hq ep eq false led.left r).state refl in
        let steps : p.steps + 1 ≡ t.parts.steps = sym counted ∙ ap (λ (x : Parts). x.steps) d.0 in
        let whole : run_accesses before old bytes budget ≡ run_accesses (accesses p) t.parts t.input budget =
        logs_at bytes led logs ∙ log_one log p led.input budget going below ∙ ap (λ n. last_accesses (accesses p) t.parts t.input (budget - n)) steps in
        let now : run_accesses before old bytes budget ≡ run_accesses (accesses p) q t.input budget = whole ∙ ap (λ (x : Parts). run_accesses (accesses p) x t.input budget) (sym d.0) in
        subst (λ (left : Option (List ℕ)). IfSome left (λ input. run_accesses before old bytes budget ≡ run_accesses (accesses p) q input budget)) (sym d.1) now

    -- the step ended the machine
    pub logs_end : (told : Option (List ℕ)) → LeadsRun budget old p told left_p ho hp eo ep → Ran step p q left_p left_q hp hq ep eq false
        → Logs budget before old told log p left_p → is_none q.ended ≡ false → IfSome told (λ bytes. accesses p ≡ run_accesses before old bytes budget)
    logs_end None led r logs over = tt
    logs_end (Some bytes) led r logs over =
        let t : Stepped = step_from p led.input in
        let d = (ran_at step p q led.input left_p left_q hp hq ep eq false led.left r).state refl in
        let ended : is_none t.parts.ended ≡ false = ap (λ (x : Parts). is_none x.ended) (sym d.0) ∙ over in
        sym (logs_at bytes led logs ∙ log_one log p led.input budget going below ∙ last_over (accesses p) t.parts t.input (budget - (p.steps + 1)) ended)

-- the same where the answer is that of the last step
pub logs_as : (budget : ℕ) (before log : List Access) (old : Parts) (told : Option (List ℕ)) (b c : Bool) → b ≡ c
    → (b ≡ false → IfSome told (λ bytes. log ≡ run_accesses before old bytes budget)) → IfSome told (λ bytes. c ≡ false → log ≡ run_accesses before old bytes budget)
logs_as budget before log old None b c same h = tt
logs_as budget before log old (Some bytes) b c same h = λ fine. h (same ∙ fine)
