-- `go`, step after step.
use Rattle.std.proofs.Common.{◌≡◌, ◌<◌, ◌≤◌, ℕ, suc, ◌+◌, ◌-◌, Bool, true, false, List, Option, Some, None, is_none, if◌then◌else◌, Result, Ok, sym, ap, ◌∙◌, arith}
use Rattle.std.specs.Prelude.{position}
use Rattle.io_gate.specs.declared.streams.Failed.{Failed}
use Rattle.io_gate.specs.Pieces.{PutsAll}
use Rattle.emu_model.specs.declared.access.Access.{Access}
use Rattle.emu_model.specs.State.{Parts, State}
use Rattle.emu_system.specs.Start.{with_input}
use Rattle.emu_run.specs.Step.{accesses, step}
use Rattle.emu_run.specs.Run.{goes_on, run}
use Rattle.emu_run.specs.RunLaws.{Moves, moves_not}
use Rattle.emu_machine.specs.Ends.{Becomes, Puts}
use Rattle.dbg_model.specs.declared.script.Stop.{Stop}
use Rattle.dbg_model.specs.Session.{Points, no_points, is_touched, point_met, watch_met, stop_line}
use Rattle.dbg_model.specs.Forward.{stopped_or, go}
use Rattle.dbg_model.specs.ForwardEquations.{go-zero}
use Rattle.dbg_core.specs.declared.ends.SessionEnd.{SessionEnd}
use Rattle.dbg_core.specs.declared.ends.SessionEnd.TheVariants.{Done}
use Rattle.dbg_core.specs.Ends.{Obeys, is_fault, end_of_put}
use Rattle.emu_machine.proofs.Composed.{Blind, Moving, Comes, Leads, comes_cut, comes_same, comes_when, leads_on, leads_end}
use Rattle.emu_machine.proofs.Runs.{step_moving}
use Rattle.dbg_core.proofs.Sessions.{prints, prints_blind, prints_moving, ending_text, go_blind, go_free, go_moves, go_one, go_over, stopped_moves}
use Rattle.dbg_core.proofs.Obeying.{comes_put, not_done, obeys_of}
use Rattle.dbg_core.proofs.Leaving.{with_all, all_put}

abbrev pub go_at : Points → ℕ → State → State
go_at points budget st = go points st (budget - st.parts.steps)

at_blind : (points : Points) (budget : ℕ) → Blind (go_at points budget)
at_blind points budget o e st = go_blind points (budget - st.parts.steps) o e st

at_moving : (points : Points) (budget : ℕ) → Moving (go_at points budget)
at_moving points budget st = go_moves points (budget - st.parts.steps) st

-- ---- what `go` makes of a state

pub at_over : (points : Points) (budget : ℕ) (st : State) → goes_on st ≡ false → go_at points budget st ≡ prints ending_text st
at_over points budget st over = go_over points st (budget - st.parts.steps) over

pub at_spent : (points : Points) (budget : ℕ) (st : State) → budget ≤ st.parts.steps → go_at points budget st ≡ prints ending_text st
at_spent points budget st spent = let e : budget - st.parts.steps ≡ 0 = omega arith in ap (λ (k : ℕ). go points st k) e ∙ go-zero points st

at_one : (points : Points) (budget : ℕ) (st : State) → goes_on st ≡ true → st.parts.steps < budget
    → go_at points budget st ≡ stopped_or (point_met points (accesses st.parts) (step st).parts) (step st) (go points (step st) (budget - (st.parts.steps + 1)))
at_one points budget st going below =
    let e : budget - st.parts.steps ≡ suc (budget - (st.parts.steps + 1)) = omega arith in ap (λ (k : ℕ). go points st k) e ∙ go_one points st (budget - (st.parts.steps + 1)) going

at_met : (points : Points) (budget : ℕ) (st : State) (met : Option Stop) → goes_on st ≡ true → st.parts.steps < budget → point_met points (accesses st.parts) (step st).parts ≡ met
    → go_at points budget st ≡ stopped_or met (step st) (go points (step st) (budget - (st.parts.steps + 1)))
at_met points budget st met going below is =
    at_one points budget st going below ∙ ap (λ (m : Option Stop). stopped_or m (step st) (go points (step st) (budget - (st.parts.steps + 1)))) is

at_on : (points : Points) (budget : ℕ) (st : State) → goes_on st ≡ true → st.parts.steps < budget → point_met points (accesses st.parts) (step st).parts ≡ None → (step st).parts.steps ≡ st.parts.steps + 1
    → go_at points budget st ≡ go_at points budget (step st)
at_on points budget st going below none counted =
    at_met points budget st None going below none ∙ ap (λ (n : ℕ). go points (step st) (budget - n)) (sym counted)

-- an ended machine meets no point
none_over : (points : Points) (made : List Access) (m : Parts) → is_none m.ended ≡ false → point_met points made m ≡ None
none_over points made m over = ap (λ (b : Bool). if b then watch_met points m.core.pc (position (is_touched made) points.watches) else None) over

at_ended : (points : Points) (budget : ℕ) (st : State) → goes_on st ≡ true → st.parts.steps < budget → goes_on (step st) ≡ false → go_at points budget st ≡ prints ending_text (step st)
at_ended points budget st going below over =
    at_met points budget st None going below (none_over points (accesses st.parts) (step st).parts over) ∙ go_over points (step st) (budget - (st.parts.steps + 1)) over

at_cut : (points : Points) (budget : ℕ) (st : State) → goes_on st ≡ true → st.parts.steps < budget → Moves (step st) (go_at points budget st)
at_cut points budget st going below =
    rw (at_one points budget st going below) (stopped_moves (point_met points (accesses st.parts) (step st).parts) (step st) (step st) (go points (step st) (budget - (st.parts.steps + 1))) (moves_not (step st))
    (go_moves points (budget - (st.parts.steps + 1)) (step st)))

-- without a point
pub at_free : (budget : ℕ) (st : State) → go_at no_points budget st ≡ prints ending_text (run st budget)
at_free budget st = go_free (budget - st.parts.steps) st

-- ---- the loop

module _ (points : Points) (budget : ℕ) (old p q : Parts) (told left_p left_q ho hp hq eo ep eq : Option (List ℕ))
    (led : Leads (go_at points budget) (go_at points budget) old p told left_p ho hp eo ep) where
  -- the budget is spent
  pub go_spent : (hu : Option (List ℕ)) (put : Result (Unit {0}) Failed) → budget ≤ p.steps → PutsAll hp hu (ending_text p) put → Obeys (go_at points budget) old p told left_p ho hu eo ep (end_of_put put)
  go_spent hu put spent puts =
      obeys_of (go_at points budget) old p told left_p ho hu eo ep (end_of_put put)
      (leads_end (go_at points budget) (go_at points budget) old p p left_p left_p ho hp hu eo ep ep told (is_fault (end_of_put put)) (at_moving points budget) led
      (comes_same (prints ending_text) (go_at points budget) p p left_p left_p hp hu ep ep (is_fault (end_of_put put)) (λ input. sym (at_spent points budget (with_input p input) spent)) (comes_put ending_text p left_p hp hu ep put puts)))

  -- and the machine is what `go` makes of it, whether the line was put or not
  pub whole_spent : budget ≤ p.steps → Becomes (go_at points budget) old p told left_p false
  whole_spent spent = (go_spent (with_all (ending_text p) hp) (Ok tt) spent (all_put (ending_text p) hp)).state

  pub spent_errors : budget ≤ p.steps → Puts (λ st. (go_at points budget st).errors) old told eo ep false
  spent_errors spent = (go_spent (with_all (ending_text p) hp) (Ok tt) spent (all_put (ending_text p) hp)).errors

  module _ (going : is_none p.ended ≡ true) (below : p.steps < budget) where
    -- the step counted, and no point is met
    pub go_goes : q.steps ≡ p.steps + 1 → point_met points (accesses p) q ≡ None → Comes step p q left_p left_q hp hq ep eq false
        → Leads (go_at points budget) (go_at points budget) old q told left_q ho hq eo eq
    go_goes counted none c =
        leads_on (go_at points budget) (go_at points budget) old p q left_p left_q ho hp hq eo ep eq told step (go_at points budget) (at_blind points budget) step_moving
        (λ input is. at_on points budget (with_input p input) going below (ap (point_met points (accesses p)) (sym is) ∙ none) (ap (λ (m : Parts). m.steps) (sym is) ∙ counted)) led c

    -- behind the step comes a line
    go_lines : (text : Parts → List ℕ) (hu : Option (List ℕ)) (put : Result (Unit {0}) Failed) → ((input : List ℕ) → q ≡ (step (with_input p input)).parts → go_at points budget (with_input p input) ≡ prints text (step (with_input p input)))
        → Comes step p q left_p left_q hp hq ep eq false → PutsAll hq hu (text q) put → Obeys (go_at points budget) old q told left_q ho hu eo eq (end_of_put put)
    go_lines text hu put split c puts =
        obeys_of (go_at points budget) old q told left_q ho hu eo eq (end_of_put put)
        (leads_end (go_at points budget) (prints text) old q q left_q left_q ho hq hu eo eq eq told (is_fault (end_of_put put)) (prints_moving text)
        (leads_on (go_at points budget) (go_at points budget) old p q left_p left_q ho hp hq eo ep eq told step (prints text) (prints_blind text) step_moving split led c)
        (comes_put text q left_q hq hu eq put puts))

    -- a point is met
    pub go_stops : (stop : Stop) (hu : Option (List ℕ)) (put : Result (Unit {0}) Failed) → point_met points (accesses p) q ≡ Some stop → Comes step p q left_p left_q hp hq ep eq false → PutsAll hq hu (stop_line stop q) put
        → Obeys (go_at points budget) old q told left_q ho hu eo eq (end_of_put put)
    go_stops stop hu put met c puts =
        go_lines (stop_line stop) hu put (λ input is. at_met points budget (with_input p input) (Some stop) going below (ap (point_met points (accesses p)) (sym is) ∙ met)) c puts

    -- the machine ended
    pub go_ends : (hu : Option (List ℕ)) (put : Result (Unit {0}) Failed) → is_none q.ended ≡ false → Comes step p q left_p left_q hp hq ep eq false → PutsAll hq hu (ending_text q) put
        → Obeys (go_at points budget) old q told left_q ho hu eo eq (end_of_put put)
    go_ends hu put over c puts =
        go_lines ending_text hu put (λ input is. at_ended points budget (with_input p input) going below (ap (λ (m : Parts). is_none m.ended) (sym is) ∙ over)) c puts

    -- and the machine is what `go` makes of it, whether the line was put or not
    pub whole_stops : (stop : Stop) → point_met points (accesses p) q ≡ Some stop → Comes step p q left_p left_q hp hq ep eq false → Becomes (go_at points budget) old q told left_q false
    whole_stops stop met c = (go_stops stop (with_all (stop_line stop q) hq) (Ok tt) met c (all_put (stop_line stop q) hq)).state

    pub whole_ends : is_none q.ended ≡ false → Comes step p q left_p left_q hp hq ep eq false → Becomes (go_at points budget) old q told left_q false
    whole_ends over c = (go_ends (with_all (ending_text q) hq) (Ok tt) over c (all_put (ending_text q) hq)).state

    -- and the errors have what `go` puts there
    pub stops_errors : (stop : Stop) → point_met points (accesses p) q ≡ Some stop → Comes step p q left_p left_q hp hq ep eq false → Puts (λ st. (go_at points budget st).errors) old told eo eq false
    stops_errors stop met c = (go_stops stop (with_all (stop_line stop q) hq) (Ok tt) met c (all_put (stop_line stop q) hq)).errors

    pub ends_errors : is_none q.ended ≡ false → Comes step p q left_p left_q hp hq ep eq false → Puts (λ st. (go_at points budget st).errors) old told eo eq false
    ends_errors over c = (go_ends (with_all (ending_text q) hq) (Ok tt) over c (all_put (ending_text q) hq)).errors

    -- the step wasn't done
    pub go_breaks : (end : SessionEnd) → (end ≡ Done → ⊥) → Comes step p q left_p left_q hp hq ep eq true → Obeys (go_at points budget) old q told left_q ho hq eo eq end
    go_breaks end other c =
        let b = not_done end other in
        obeys_of (go_at points budget) old q told left_q ho hq eo eq end
        (leads_end (go_at points budget) (go_at points budget) old p q left_p left_q ho hp hq eo ep eq told (is_fault end) (at_moving points budget) led
        (comes_when (go_at points budget) p q left_p left_q hp hq ep eq true (is_fault end) (sym b)
        (comes_cut step (go_at points budget) p q left_p left_q hp hq ep eq (λ input. at_cut points budget (with_input p input) going below) c)))
