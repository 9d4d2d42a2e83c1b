-- Steps that are no calls, one after the other, and what a run comes to by them.
use Rattle.std.specs.Prelude.{⊤}
use Rattle.std.proofs.Common.{◌≡◌, ◌<◌, ◌≤◌, ℕ, suc, ◌+◌, ◌-◌, Bool, true, false, List, [], Option, Some, None, IfSome, is_none, refl, sym, ap, subst, ◌∙◌, arith}
use Rattle.emu_model.specs.declared.access.Access.{Access}
use Rattle.emu_model.specs.State.{Parts, State}
use Rattle.emu_system.specs.Start.{with_input}
use Rattle.emu_system.specs.SystemCall.{Stepped, call, quiet}
use Rattle.emu_run.specs.Step.{accesses, step, step_from}
use Rattle.emu_run.specs.Run.{run, until_end}
use Rattle.emu_run.specs.RunLaws.{behind, run_after_turn, run_one, run_spent, until_end_none}
use Rattle.io_gate.specs.Streams.{Causes}
use Rattle.emu_machine.specs.Accesses.{last_accesses, run_accesses}
use Rattle.emu_machine.specs.Advances.{Advances, AsksCall, EndsBy, IsAhead, IsLastStep, IsSpent, MatchCall}
use Rattle.emu_machine.specs.declared.ends.Progress.{Progress}
use Rattle.emu_machine.specs.declared.ends.Progress.TheVariants.{GoesOn, Trapped, AtCall}
use Rattle.emu_machine.specs.declared.ends.StepEnd.TheVariants.{Going}
use Rattle.emu_machine.specs.Ends.{step_end}
use Rattle.emu_machine.specs.Machines.{MachineState, is_at_call, makes_call}
use Rattle.emu_machine.proofs.Logs.{Logs, last_none, log_one, log_spent, logs_end, logs_spent}
use Rattle.emu_machine.proofs.Runs.{LeadsRun, Ran, not_ended, quietly_ran, run_spends, run_stops}
use Rattle.emu_machine.proofs.Stands.{Stands}

-- ---- how far the steps came

pub ahead_start : (old : Parts) (log : List Access) → is_none old.ended ≡ true → IsAhead old old log log
ahead_start old log goes = record { alone = (0, refl); goes = goes; after = omega arith; first = λ e. refl; leads = λ b input h. refl; logs = λ b input h. refl }

pub ahead_on : (old p q : Parts) (before log : List Access) → IsAhead old p before log → makes_call p ≡ false → ((input : List ℕ) → step_from p input ≡ quiet q input) → q.steps ≡ p.steps + 1 → is_none q.ended ≡ true
    → IsAhead old q before (accesses p)
ahead_on old p q before log a calls turns counted goes =
    let from = a.after in
    let so_far = a.alone in
    record {
      alone = (suc so_far.0, (p, (so_far.1, record { calls = calls; turns = turns; goes = goes; counted = counted })));
      goes = goes;
      after = omega (arith, from, counted);
      first = λ e. absurd (omega (arith, from, counted, e));
      leads = λ b input h.
          let below : p.steps < b = omega (arith, counted, h) in
          a.leads b input (omega (arith, below))
          ∙ run_after_turn p input b a.goes below (ap (λ (t : Stepped). t.parts.steps) (turns input) ∙ counted)
          ∙ ap (λ (t : Stepped). behind t.output t.errors (run (with_input t.parts t.input) b)) (turns input);
      logs = λ b input h.
          let below : p.steps < b = omega (arith, counted, h) in
          a.logs b input (omega (arith, below))
          ∙ log_one log p input b a.goes below
          ∙ ap (λ (t : Stepped). last_accesses (accesses p) t.parts t.input (b - (p.steps + 1))) (turns input)
          ∙ ap (λ n. last_accesses (accesses p) q input (b - n)) (sym counted);
    }

-- ---- one step

module _ (m new : MachineState) where
  asked_same : AsksCall (m.parts.steps + 1) m new → new.parts ≡ m.parts
  asked_same a = let from = a.ahead.after in let below = a.below in a.ahead.first (omega (arith, from, below))

  last_same : (d : IsLastStep (m.parts.steps + 1) m new) → d.at ≡ m.parts
  last_same d = let from = d.ahead.after in let below = d.below in d.ahead.first (omega (arith, from, below))

  spent_turn : is_none m.parts.ended ≡ true → IsSpent (m.parts.steps + 1) m new → (input : List ℕ) → step_from m.parts input ≡ quiet new.parts input
  spent_turn going d input =
      let b : ℕ = m.parts.steps + 1 in
      let s = d.spent in
      let st : State = with_input m.parts input in
      let none : b - (m.parts.steps + 1) ≡ 0 = omega arith in
      let one : run st b ≡ step st = run_one st b going (omega arith) ∙ ap (λ n. until_end (step st) n) none ∙ until_end_none (step st) in
      let made : step st ≡ with_input new.parts input = sym one ∙ d.ahead.leads b input (omega (arith, s)) ∙ run_spent (with_input new.parts input) b (omega (arith, s)) in
      ap (λ (x : State). record { parts = x.parts; input = x.input; output = x.output; errors = x.errors }) made

  spent_accesses : is_none m.parts.ended ≡ true → IsSpent (m.parts.steps + 1) m new → new.accesses ≡ accesses m.parts
  spent_accesses going d =
      let b : ℕ = m.parts.steps + 1 in
      let s = d.spent in
      let none : b - (m.parts.steps + 1) ≡ 0 = omega arith in
      let t : Stepped = step_from m.parts [] in
      sym (log_spent new.accesses new.parts [] b (omega (arith, s)))
      ∙ sym (d.ahead.logs b [] (omega (arith, s)))
      ∙ log_one m.accesses m.parts [] b going (omega arith)
      ∙ ap (λ n. last_accesses (accesses m.parts) t.parts t.input n) none
      ∙ last_none (accesses m.parts) t.parts t.input

  last_turn : IsLastStep (m.parts.steps + 1) m new → (input : List ℕ) → step_from m.parts input ≡ quiet new.parts input
  last_turn d input = subst (λ (x : Parts). step_from x input ≡ quiet new.parts input) (last_same d) (d.turns input)

  last_accesses_of : IsLastStep (m.parts.steps + 1) m new → new.accesses ≡ accesses m.parts
  last_accesses_of d = d.accesses ∙ ap accesses (last_same d)

  pub once_turn : (r : Progress) → is_none m.parts.ended ≡ true → Advances (m.parts.steps + 1) m new r
      → MatchCall r ((input : List ℕ) → step_from m.parts input ≡ call m.parts input) ((input : List ℕ) → step_from m.parts input ≡ quiet new.parts input)
  once_turn GoesOn going d = spent_turn going d
  once_turn Trapped going d = last_turn d
  once_turn AtCall going d = λ input. subst (λ (x : Parts). step_from x input ≡ call x input) (asked_same d) (d.calls input)

  pub once_kept : (r : Progress) → Advances (m.parts.steps + 1) m new r → MatchCall r (new.parts ≡ m.parts) ⊤
  once_kept GoesOn d = tt
  once_kept Trapped d = tt
  once_kept AtCall d = asked_same d

  pub once_svc : (r : Progress) → Advances (m.parts.steps + 1) m new r → r ≡ AtCall → is_at_call m.parts ≡ true
  once_svc GoesOn d is = cc
  once_svc Trapped d is = cc
  once_svc AtCall d is = ap is_at_call (sym (asked_same d)) ∙ d.svc

  pub once_ended : (r : Progress) → Advances (m.parts.steps + 1) m new r → EndsBy r new.parts
  once_ended GoesOn d = d.ahead.goes
  once_ended Trapped d = d.ended
  once_ended AtCall d = tt

  pub once_counted : (r : Progress) → Advances (m.parts.steps + 1) m new r → r ≡ GoesOn → new.parts.steps ≡ m.parts.steps + 1
  once_counted GoesOn d is = d.spent
  once_counted Trapped d is = cc
  once_counted AtCall d is = cc

  pub once_accesses : (r : Progress) → is_none m.parts.ended ≡ true → Advances (m.parts.steps + 1) m new r → new.accesses ≡ accesses m.parts
  once_accesses GoesOn going d = spent_accesses going d
  once_accesses Trapped going d = last_accesses_of d
  once_accesses AtCall going d = d.clear ∙ ap accesses (asked_same d)

-- what it makes of the machine where it makes no call
module _ (r : Progress) (m n : Parts) (other : r ≡ AtCall → ⊥) where
  pub turned : MatchCall r ((input : List ℕ) → step_from m input ≡ call m input) ((input : List ℕ) → step_from m input ≡ quiet n input) → (input : List ℕ) → step_from m input ≡ quiet n input
  turned is = by_progress r other is
    where
      by_progress : (x : Progress) → (x ≡ AtCall → ⊥) → MatchCall x ((input : List ℕ) → step_from m input ≡ call m input) ((input : List ℕ) → step_from m input ≡ quiet n input) → (input : List ℕ) → step_from m input ≡ quiet n input
      by_progress GoesOn apart h = h
      by_progress Trapped apart h = h
      by_progress AtCall apart h = absurd (apart refl)

  pub counted_as : EndsBy r n → (r ≡ GoesOn → n.steps ≡ m.steps + 1) → Going ≡ step_end n.ended → n.steps ≡ m.steps + 1
  counted_as ends counted going = by_progress r other ends counted
    where
      by_progress : (x : Progress) → (x ≡ AtCall → ⊥) → EndsBy x n → (x ≡ GoesOn → n.steps ≡ m.steps + 1) → n.steps ≡ m.steps + 1
      by_progress GoesOn apart e h = h refl
      by_progress Trapped apart e h = not_ended (n.steps ≡ m.steps + 1) n.ended going e
      by_progress AtCall apart e h = absurd (apart refl)

-- ---- a run

module _ (budget : ℕ) (old p q : Parts) (before log_p log_q : List Access) (a : IsAhead p q log_p log_q) where
  pub leads_ahead : (told left ho hp eo ep : Option (List ℕ)) → q.steps ≤ budget → LeadsRun budget old p told left ho hp eo ep → LeadsRun budget old q told left ho hp eo ep
  leads_ahead None left ho hp eo ep h led = tt
  leads_ahead (Some bytes) left ho hp eo ep h led = record {
    input = led.input;
    output = led.output;
    errors = led.errors;
    left = led.left;
    rest = led.rest;
    same = led.same ∙ ap (λ (x : State). behind led.output led.errors x) (a.leads budget led.input h);
    held = led.held;
    errs = led.errs;
  }

  pub logs_ahead : (told left : Option (List ℕ)) → q.steps ≤ budget → Logs budget before old told log_p p left → Logs budget before old told log_q q left
  logs_ahead None left h logs = tt
  logs_ahead (Some bytes) None h logs = tt
  logs_ahead (Some bytes) (Some input) h logs = logs ∙ a.logs budget input h

  pub stands_ahead : (told left : Option (List ℕ)) → Stands old told p left → Stands old told q left
  stands_ahead None left stands = tt
  stands_ahead (Some bytes) None stands = tt
  stands_ahead (Some bytes) (Some input) stands = λ b h.
      let from = a.after in
      stands b (omega (arith, from, h)) ∙ ap (λ (s : State). (s.parts, s.input)) (a.leads b input h)

module _ (budget : ℕ) (old : Parts) (before : List Access) (p new : MachineState) (told left ho hp eo ep : Option (List ℕ)) (led : LeadsRun budget old p.parts told left ho hp eo ep) where
  pub spent_ran : IsSpent budget p new → Ran (λ s. run s budget) old new.parts told left ho hp eo ep false
  spent_ran d =
      let s = d.spent in
      run_spends budget old new.parts told left ho hp eo ep (leads_ahead budget old p.parts new.parts before p.accesses new.accesses d.ahead told left ho hp eo ep (omega (arith, s)) led) (omega (arith, s))

  pub last_ran : IsLastStep budget p new → Ran (λ s. run s budget) old new.parts told left ho hp eo ep false
  last_ran d =
      let below = d.below in
      run_stops budget old d.at new.parts told left left ho hp hp eo ep ep (leads_ahead budget old p.parts d.at before p.accesses d.log d.ahead told left ho hp eo ep (omega (arith, below)) led) d.ahead.goes d.below
      false (quietly_ran d.at new.parts left hp ep false d.turns) (λ fine. d.ended)

  module _ (logs : Logs budget before old told p.accesses p.parts left) where
    pub spent_logs : IsSpent budget p new → IfSome told (λ bytes. new.accesses ≡ run_accesses before old bytes budget)
    spent_logs d =
        let s = d.spent in
        logs_spent budget before new.accesses old new.parts left ho hp eo ep told
        (leads_ahead budget old p.parts new.parts before p.accesses new.accesses d.ahead told left ho hp eo ep (omega (arith, s)) led)
        (logs_ahead budget old p.parts new.parts before p.accesses new.accesses d.ahead told left (omega (arith, s)) logs) (omega (arith, s))

    pub last_logs : IsLastStep budget p new → IfSome told (λ bytes. new.accesses ≡ run_accesses before old bytes budget)
    last_logs d =
        let below = d.below in
        subst (λ (log : List Access). IfSome told (λ bytes. log ≡ run_accesses before old bytes budget)) (sym d.accesses)
        (logs_end budget before d.log old d.at left ho hp eo ep new.parts left hp ep d.ahead.goes d.below told
        (leads_ahead budget old p.parts d.at before p.accesses d.log d.ahead told left ho hp eo ep (omega (arith, below)) led)
        (quietly_ran d.at new.parts left hp ep false d.turns)
        (logs_ahead budget old p.parts d.at before p.accesses d.log d.ahead told left (omega (arith, below)) logs)
        d.ended)

-- ---- a run that isn't broken off

pub not_both : (b : Bool) (A : Type 0) → b ≡ false → b ≡ true → A
not_both false A f t = cc
not_both true A f t = cc

pub none_broken : (told : Option (List ℕ)) (b : Bool) (P : List ℕ → Type 0) → b ≡ false → IfSome told (λ bytes. b ≡ true → P bytes)
none_broken None b P fine = tt
none_broken (Some bytes) b P fine = λ h. not_both b (P bytes) fine h

pub causes_not : (Q : Type 0) (a b : ℕ) → b ≡ a → (Q → ⊥) → Causes Q a b
causes_not Q a b same never = record {
  later = omega (arith, same);
  rose = λ q. absurd (never q);
  kept = λ other. same;
}
