-- A run, step after step: what has come to the streams so far, and what remains.
use Rattle.std.proofs.Common.{◌≡◌, ◌<◌, ◌≤◌, ℕ, ◌+◌, ◌-◌, Bool, true, false, List, length, Option, Some, None, IfSome, MatchBool, is_none, is_some, refl, sym, ap, subst, ◌∙◌, arith, ◌||◌}
use Rattle.emu_model.specs.declared.trap.Ended.{Ended}
use Rattle.emu_model.specs.declared.trap.Ended.TheVariants.{Exit, Trap}
use Rattle.emu_model.specs.State.{Parts, State}
use Rattle.emu_system.specs.Start.{with_input}
use Rattle.emu_system.specs.SystemCall.{Stepped, action, call, quiet}
use Rattle.emu_run.specs.Step.{step, taken_by, step_from}
use Rattle.emu_run.specs.Run.{run}
use Rattle.emu_run.specs.RunLaws.{moves_not, step_moves, until_end_moves, run_moves, run_on, run_ended, run_spent, run_behind}
use Rattle.emu_machine.specs.declared.ends.StepEnd.{StepEnd}
use Rattle.emu_machine.specs.declared.ends.StepEnd.TheVariants.{Going, Exit as StepExit, Trap as StepTrap, ReadFault, WriteFault, ErrorsFault}
use Rattle.emu_machine.specs.declared.ends.RunEnd.{RunEnd}
use Rattle.emu_machine.specs.declared.ends.RunEnd.TheVariants.{Exit as RunExit, Trap as RunTrap, Spent, ReadFault as RunReadFault, WriteFault as RunWriteFault, ErrorsFault as RunErrorsFault}
use Rattle.io_gate.specs.Streams.{Causes, Rose}
use Rattle.linux_calls.specs.Ends.{OfInput}
use Rattle.linux_calls.specs.Names.{NamesRead}
use Rattle.emu_system.specs.Gained.{Gains}
use Rattle.emu_machine.specs.Ends.{Becomes, IsKept, LeftOf, OfStep, TakesWithin, Puts, PutsAlways, step_end, run_end, run_end_of, is_undone, is_unput, is_broken_off}
use Rattle.emu_machine.specs.Machines.{MachineState, call_made, has_ended, is_at_call}
use Rattle.emu_machine.proofs.CallLaws.{of_all, of_each}
use Rattle.emu_machine.proofs.Composed.{Blind, Moving, Came, Comes, Led, Leads, came_at, comes_by, comes_cut, comes_same, comes_still, gains_none, leads_on, leads_end}

-- ---- the clauses of a step and a run, together

pub record Ran (f : State → State) (old new : Parts) (told left held_old held_new errs_old errs_new : Option (List ℕ)) (broken : Bool) : Type 0 where
  pub state : Becomes f old new told left broken
  pub input : TakesWithin f old told left broken
  pub output : Puts (λ st. (f st).output) old told held_old held_new broken
  pub errors : Puts (λ st. (f st).errors) old told errs_old errs_new broken

pub ran_when : (f : State → State) (old new : Parts) (told left ho hn eo en : Option (List ℕ)) (b c : Bool) → b ≡ c → Ran f old new told left ho hn eo en b → Ran f old new told left ho hn eo en c
ran_when f old new told left ho hn eo en b c is r = subst (λ (x : Bool). Ran f old new told left ho hn eo en x) is r

-- the same, of what was made
pub ran_by : (f : State → State) (old new : Parts) (told left ho hn eo en : Option (List ℕ)) (b : Bool) → Ran f old new told left ho hn eo en b → Comes f old new told left ho hn eo en b
ran_by f old new told left ho hn eo en b r = comes_by f old new told left ho hn eo en b b refl r.state r.input r.output r.errors

pub ran_of : (f : State → State) (old new : Parts) (told left ho hn eo en : Option (List ℕ)) (b : Bool) → Comes f old new told left ho hn eo en b → Ran f old new told left ho hn eo en b
ran_of f old new None left ho hn eo en b c = record { state = tt; input = tt; output = tt; errors = tt }
ran_of f old new (Some bytes) left ho hn eo en b c = record { state = c.state; input = c.input; output = c.output; errors = c.errors }

-- where the input told these bytes
pub ran_at : (f : State → State) (old new : Parts) (bytes : List ℕ) (told left ho hn eo en : Option (List ℕ)) (b : Bool) → told ≡ Some bytes → Ran f old new told left ho hn eo en b → Came (f (with_input old bytes)) new bytes left ho hn eo en b
ran_at f old new bytes told left ho hn eo en b is r = came_at f old new told left ho hn eo en b bytes is (ran_by f old new told left ho hn eo en b r)

-- ---- a step, whose puts don't rest on what the input tells

told_puts : (f : State → List ℕ) (old : Parts) (told held_old held_new : Option (List ℕ)) (b : Bool) → PutsAlways f old held_old held_new b → Puts f old told held_old held_new b
told_puts f old None held_old held_new b h = tt
told_puts f old (Some bytes) held_old held_new b h = h bytes

module _ (p q : Parts) (told left ho hn eo en : Option (List ℕ)) (b : Bool) where
  pub ran_step : Becomes step p q told left b → TakesWithin step p told left b → PutsAlways (λ st. (step st).output) p ho hn b → PutsAlways (λ st. (step st).errors) p eo en b → Ran step p q told left ho hn eo en b
  ran_step s i o e = record { state = s; input = i; output = told_puts (λ st. (step st).output) p told ho hn b o; errors = told_puts (λ st. (step st).errors) p told eo en b e }

  pub comes_step : (c : Bool) → b ≡ c → Becomes step p q told left b → TakesWithin step p told left b → PutsAlways (λ st. (step st).output) p ho hn b → PutsAlways (λ st. (step st).errors) p eo en b → Comes step p q told left ho hn eo en c
  comes_step c is s i o e = comes_by step p q told left ho hn eo en b c is s i (told_puts (λ st. (step st).output) p told ho hn b o) (told_puts (λ st. (step st).errors) p told eo en b e)

-- a step that makes a call puts what the call puts
module _ (m p : Parts) (held_old held_new : Option (List ℕ)) (b : Bool) (same : p ≡ m) (is : (input : List ℕ) → step_from m input ≡ call m input) where
  pub puts_by_call : PutsAlways (λ st. (call_made st).output) p held_old held_new b → PutsAlways (λ st. (step st).output) m held_old held_new b
  puts_by_call h bytes = subst (λ (out : List ℕ). IfSome held_old (λ had. Gains b held_new had out)) (ap (λ (x : Parts). (call x bytes).output) same ∙ ap (λ (t : Stepped). t.output) (sym (is bytes))) (h bytes)

  pub puts_errors_by_call : PutsAlways (λ st. (call_made st).errors) p held_old held_new b → PutsAlways (λ st. (step st).errors) m held_old held_new b
  puts_errors_by_call h bytes = subst (λ (out : List ℕ). IfSome held_old (λ had. Gains b held_new had out)) (ap (λ (x : Parts). (call x bytes).errors) same ∙ ap (λ (t : Stepped). t.errors) (sym (is bytes))) (h bytes)

-- and leaves what the call leaves, and ends as it ends
module _ (m p : Parts) (b : Bool) (same : p ≡ m) (is : (input : List ℕ) → step_from m input ≡ call m input) where
  stepped_by_call : (bytes : List ℕ) → call_made (with_input p bytes) ≡ step (with_input m bytes)
  stepped_by_call bytes = ap (λ (x : Parts). call_made (with_input x bytes)) same ∙ ap (λ (t : Stepped). taken_by (with_input m bytes) t) (sym (is bytes))

  pub becomes_by_call : (new : Parts) (told left : Option (List ℕ)) → Becomes call_made p new told left b → Becomes step m new told left b
  becomes_by_call new None left h = tt
  becomes_by_call new (Some bytes) left h = λ fine. subst (λ (s : State). (new ≡ s.parts) × (left ≡ Some s.input)) (stepped_by_call bytes) (h fine)

  pub takes_by_call : (told left : Option (List ℕ)) → TakesWithin call_made p told left b → TakesWithin step m told left b
  takes_by_call None left h = tt
  takes_by_call (Some bytes) left h = λ broken. subst (λ (s : State). LeftOf bytes (length s.input) left) (stepped_by_call bytes) (h broken)

  pub ends_by_call : (bytes : List ℕ) (r : StepEnd) → (b ≡ false → r ≡ step_end (call_made (with_input p bytes)).parts.ended) → b ≡ false → r ≡ step_end (step (with_input m bytes)).parts.ended
  ends_by_call bytes r h fine = h fine ∙ ap (λ (x : Parts). step_end (call x bytes).parts.ended) same ∙ ap (λ (t : Stepped). step_end t.parts.ended) (sym (is bytes))

  pub made_by_call : (told : Option (List ℕ)) (new : Parts) → is_at_call m ≡ true → OfInput (action p) told (λ bytes. b ≡ false → new ≡ (call_made (with_input p bytes)).parts)
      → OfStep m told (λ bytes. b ≡ false → new ≡ (step (with_input m bytes)).parts)
  made_by_call told new at h =
      let P : List ℕ → Type 0 = λ bytes. b ≡ false → new ≡ (call_made (with_input p bytes)).parts in
      let Q : List ℕ → Type 0 = λ bytes. b ≡ false → new ≡ (step (with_input m bytes)).parts in
      let by : (bytes : List ℕ) → P bytes → Q bytes = λ bytes made fine. made fine ∙ ap (λ (x : Parts). (call x bytes).parts) same ∙ ap (λ (t : Stepped). t.parts) (sym (is bytes)) in
      subst (λ (c : Bool). MatchBool c (OfInput (action m) told Q) ((bytes : List ℕ) → Q bytes)) (sym at)
      (subst (λ (x : Parts). OfInput (action x) told Q) same (of_each (action p) told P Q by h))

-- ---- a step that puts and takes nothing

of_any : (m : Parts) (told : Option (List ℕ)) (P : List ℕ → Type 0) → ((bytes : List ℕ) → P bytes) → OfStep m told P
of_any m told P f = by_place (is_at_call m)
  where
    by_place : (c : Bool) → MatchBool c (OfInput (action m) told P) ((bytes : List ℕ) → P bytes)
    by_place true = of_all (action m) told P f
    by_place false = f

pub quietly_made : (m q : Parts) (told : Option (List ℕ)) (b : Bool) → ((input : List ℕ) → step_from m input ≡ quiet q input) → OfStep m told (λ bytes. b ≡ false → q ≡ (step (with_input m bytes)).parts)
quietly_made m q told b is = of_any m told (λ bytes. b ≡ false → q ≡ (step (with_input m bytes)).parts) (λ bytes _. ap (λ (t : Stepped). t.parts) (sym (is bytes)))

pub quietly_ran : (m q : Parts) (told held errs : Option (List ℕ)) (b : Bool) → ((input : List ℕ) → step_from m input ≡ quiet q input) → Ran step m q told told held held errs errs b
quietly_ran m q None held errs b is = record { state = tt; input = tt; output = tt; errors = tt }
quietly_ran m q (Some bytes) held errs b is = record {
  state = λ _. (ap (λ (t : Stepped). t.parts) (sym (is bytes)), ap (λ (t : Stepped). Some t.input) (sym (is bytes)));
  input = λ _. record { taken = 0; most = omega arith; is = refl };
  output = rw (ap (λ (t : Stepped). t.output) (is bytes)) (gains_none b held);
  errors = rw (ap (λ (t : Stepped). t.errors) (is bytes)) (gains_none b errs);
}

-- ---- a run, step after step

pub step_moving : Moving step
step_moving st = step_moves st

pub run_blind : (budget : ℕ) → Blind (λ s. run s budget)
run_blind budget o e st = run_behind o e st budget

pub run_moving : (budget : ℕ) → Moving (λ s. run s budget)
run_moving budget st = until_end_moves st (budget - st.parts.steps)

-- what remains of a run ends as the whole does
abbrev pub LeadsRun : ℕ → Parts → Parts → Option (List ℕ) → Option (List ℕ) → Option (List ℕ) → Option (List ℕ) → Option (List ℕ) → Option (List ℕ) → Type 0
LeadsRun budget old now told left held_old held_now errs_old errs_now = Leads (λ s. run s budget) (λ s. run s budget) old now told left held_old held_now errs_old errs_now

abbrev pub LedRun : ℕ → Parts → Parts → List ℕ → Option (List ℕ) → Option (List ℕ) → Option (List ℕ) → Option (List ℕ) → Option (List ℕ) → Type 0
LedRun budget old now bytes left held_old held_now errs_old errs_now = Led (λ s. run s budget) (λ s. run s budget) old now bytes left held_old held_now errs_old errs_now

module _ (budget : ℕ) (old p q : Parts) (told left_p left_q ho hp hq eo ep eq : Option (List ℕ)) (led : LeadsRun budget old p told left_p ho hp eo ep) (going : is_none p.ended ≡ true) (below : p.steps < budget) where
  -- the step counted
  pub run_counts : q.steps ≡ p.steps + 1 → Ran step p q left_p left_q hp hq ep eq false → LeadsRun budget old q told left_q ho hq eo eq
  run_counts counted r =
      leads_on (λ s. run s budget) (λ s. run s budget) old p q left_p left_q ho hp hq eo ep eq told step (λ s. run s budget) (run_blind budget) step_moving
      (λ input is. run_on (with_input p input) budget going below (ap (λ (m : Parts). m.steps) (sym is) ∙ counted)) led (ran_by step p q left_p left_q hp hq ep eq false r)

  -- it ended the machine
  run_ends : is_none q.ended ≡ false → Ran step p q left_p left_q hp hq ep eq false → Ran (λ s. run s budget) old q told left_q ho hq eo eq false
  run_ends over r =
      ran_of (λ s. run s budget) old q told left_q ho hq eo eq false
      (leads_end (λ s. run s budget) (λ s. s) old q q left_q left_q ho hq hq eo eq eq told false moves_not
      (leads_on (λ s. run s budget) (λ s. run s budget) old p q left_p left_q ho hp hq eo ep eq told step (λ s. s) (λ o e st. refl) step_moving
      (λ input is. run_ended (with_input p input) budget going below (ap (λ (m : Parts). is_none m.ended) (sym is) ∙ over)) led (ran_by step p q left_p left_q hp hq ep eq false r))
      (comes_still q left_q hq eq))

  -- it wasn't done
  run_breaks : Ran step p q left_p left_q hp hq ep eq true → Ran (λ s. run s budget) old q told left_q ho hq eo eq true
  run_breaks r =
      ran_of (λ s. run s budget) old q told left_q ho hq eo eq true
      (leads_end (λ s. run s budget) (λ s. run s budget) old p q left_p left_q ho hp hq eo ep eq told true (run_moving budget) led
      (comes_cut step (λ s. run s budget) p q left_p left_q hp hq ep eq (λ input. run_moves (with_input p input) budget going below) (ran_by step p q left_p left_q hp hq ep eq true r)))

  pub run_stops : (b : Bool) → Ran step p q left_p left_q hp hq ep eq b → (b ≡ false → is_none q.ended ≡ false) → Ran (λ s. run s budget) old q told left_q ho hq eo eq b
  run_stops false r over = run_ends (over refl) r
  run_stops true r over = run_breaks r

-- the budget is spent
pub run_spends : (budget : ℕ) (old p : Parts) (told left ho hp eo ep : Option (List ℕ)) → LeadsRun budget old p told left ho hp eo ep → budget ≤ p.steps → Ran (λ s. run s budget) old p told left ho hp eo ep false
run_spends budget old p told left ho hp eo ep led over =
    ran_of (λ s. run s budget) old p told left ho hp eo ep false
    (leads_end (λ s. run s budget) (λ s. run s budget) old p p left left ho hp hp eo ep ep told false (run_moving budget) led
    (comes_same (λ s. s) (λ s. run s budget) p p left left hp hp ep ep false (λ input. sym (run_spent (with_input p input) budget over)) (comes_still p left hp ep)))

-- ---- the answers

pub broken_as : (r : StepEnd) → is_undone r ≡ is_broken_off (run_end_of r)
broken_as Going = refl
broken_as (StepExit code) = refl
broken_as (StepTrap t) = refl
broken_as ReadFault = refl
broken_as WriteFault = refl
broken_as ErrorsFault = refl

-- the same of the answer of the run
pub ran_as : (f : State → State) (old new : Parts) (told left ho hn eo en : Option (List ℕ)) (step : StepEnd) (end : RunEnd) → end ≡ run_end_of step → Ran f old new told left ho hn eo en (is_undone step) → Ran f old new told left ho hn eo en (is_broken_off end)
ran_as f old new told left ho hn eo en step end is r = ran_when f old new told left ho hn eo en _ _ (broken_as step ∙ ap is_broken_off (sym is)) r

pub done_by_end : (e : Option Ended) → is_undone (step_end e) ≡ false
done_by_end None = refl
done_by_end (Some (Exit code)) = refl
done_by_end (Some (Trap t)) = refl

pub unput_by_end : (e : Option Ended) → is_unput (step_end e) ≡ false
unput_by_end None = refl
unput_by_end (Some (Exit code)) = refl
unput_by_end (Some (Trap t)) = refl

pub not_going : (e : Option Ended) (r : StepEnd) → r ≡ step_end e → (r ≡ Going → ⊥) → is_none e ≡ false
not_going None r is other = absurd (other is)
not_going (Some (Exit code)) r is other = refl
not_going (Some (Trap t)) r is other = refl

pub is_going : (e : Option Ended) → Going ≡ step_end e → is_some e ≡ false
is_going None is = refl
is_going (Some (Exit code)) is = cc
is_going (Some (Trap t)) is = cc

-- where the machine goes on
pub going_by : (e : Option Ended) → is_none e ≡ true → Spent ≡ run_end e
going_by None is = refl
going_by (Some x) is = cc

-- no machine that ended goes on
pub not_ended : (A : Type 0) (e : Option Ended) → Going ≡ step_end e → is_none e ≡ false → A
not_ended A None is over = cc
not_ended A (Some (Exit code)) is over = cc
not_ended A (Some (Trap t)) is over = cc

pub goes_on_after : (s : MachineState) (r : StepEnd) → r ≡ Going → r ≡ step_end s.parts.ended → s.failed ≡ is_undone r → has_ended s ≡ false
goes_on_after s r going end failed =
    let e : is_some s.parts.ended ≡ false = is_going s.parts.ended (sym going ∙ end) in
    let f : s.failed ≡ false = failed ∙ ap is_undone going in
    rw (e, f) refl

pub goes : (e : Option Ended) (failed : Bool) → (is_some e || failed) ≡ false → is_none e ≡ true
goes None failed is = refl
goes (Some x) failed is = cc

abbrev pub step_of : RunEnd → StepEnd
step_of (RunExit code) = StepExit code
step_of (RunTrap t) = StepTrap t
step_of Spent = Going
step_of RunReadFault = ReadFault
step_of RunWriteFault = WriteFault
step_of RunErrorsFault = ErrorsFault

step_of_run : (r : StepEnd) → step_of (run_end_of r) ≡ r
step_of_run Going = refl
step_of_run (StepExit code) = refl
step_of_run (StepTrap t) = refl
step_of_run ReadFault = refl
step_of_run WriteFault = refl
step_of_run ErrorsFault = refl

-- the last step's answer by the run's
pub last_step : (r : StepEnd) (x y : RunEnd) → x ≡ run_end_of r → x ≡ y → r ≡ step_of y
last_step r x y is same = sym (step_of_run r) ∙ ap step_of (sym is ∙ same)

end_by : (e : Option Ended) → run_end_of (step_end e) ≡ run_end e
end_by None = refl
end_by (Some (Exit code)) = refl
end_by (Some (Trap t)) = refl

pub end_as : (r : StepEnd) (x : RunEnd) (e : Option Ended) → x ≡ run_end_of r → (is_undone r ≡ false → r ≡ step_end e) → is_broken_off x ≡ false → x ≡ run_end e
end_as r x e is end fine = is ∙ ap run_end_of (end (broken_as r ∙ ap is_broken_off (sym is) ∙ fine)) ∙ end_by e

pub failed_as : (r : StepEnd) (x : RunEnd) (failed : Bool) → x ≡ run_end_of r → failed ≡ is_undone r → failed ≡ is_broken_off x
failed_as r x failed is f = f ∙ broken_as r ∙ ap is_broken_off (sym is)

-- a step that goes on has no other answer
pub going_is_no : (r x : StepEnd) → (Going ≡ x → ⊥) → r ≡ Going → r ≡ x → ⊥
going_is_no r x other going is = other (sym going ∙ is)

-- a call that wasn't done leaves what x8 and x0 name
pub still_reads : (p q : Parts) (told left : Option (List ℕ)) → IsKept p q told left → NamesRead p.core → NamesRead q.core
still_reads p q told left kept names = subst NamesRead (sym (ap (λ (m : Parts). m.core) kept.is)) names

-- a cause in the last step is one in the run, where the count stayed before it
pub causes_from : (P Q : Type 0) (a b c : ℕ) → b ≡ a → Causes P b c → (Q → P) → (P → Q) → Causes Q a c
causes_from P Q a b c stayed cause named names = record {
  later = let later = cause.later in omega arith;
  rose = λ q. let rose : Rose b c = cause.rose (named q) in omega arith;
  kept = λ none. cause.kept (λ p. none (names p)) ∙ stayed;
}
