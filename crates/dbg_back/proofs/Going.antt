-- `go`, step after step, with breaks and watches.
use Rattle.std.proofs.Common.{◌≡◌, ◌≤◌, ◌<◌, ℕ, suc, ◌+◌, ◌-◌, min, Bool, true, false, List, ◌++◌, Option, Some, None, is_none, is_some, nat_le, nat_lt, if◌then◌else◌, refl, sym, ap, ◌∙◌, arith}
use Rattle.std.specs.Prelude.{position}
use Rattle.std.proofs.lemmas.Bool.Decides.{nat_tests}
use Rattle.emu_model.specs.declared.access.Access.{Access}
use Rattle.emu_model.specs.declared.trap.Ended.{Ended as Ending}
use Rattle.emu_model.specs.State.{Parts, State}
use Rattle.emu_run.specs.Reports.{ending_line}
use Rattle.emu_run.specs.Run.{goes_on}
use Rattle.emu_run.specs.Step.{accesses}
use Rattle.emu_machine.specs.Machines.{MachineState}
use Rattle.dbg_model.specs.declared.script.Stop.{Stop as Met}
use Rattle.dbg_model.specs.declared.script.Stop.TheVariants.{AtWatch, AtBreak}
use Rattle.dbg_model.specs.Session.{Points, point_met, is_touched, stop_line, watch_met, Course, ended_line, go, walked, printed, stepped, stopped_or}
use Rattle.dbg_core.specs.declared.points.Stop.{Stop}
use Rattle.dbg_core.specs.declared.points.Stop.TheVariants.{Ended, Watch, Break, Spent}
use Rattle.dbg_core.specs.Stops.{HasEnded, first_met, line_of_stop, met_or, spent_met}
use Rattle.dbg_model.specs.CourseLaws.{moved_one}
use Rattle.dbg_model.specs.SessionEquations.{go-zero, walked-zero}
use Rattle.dbg_back.specs.Walks.{IsIn, advanced, part_end}
use Rattle.dbg_back.proofs.Courses.{Appends, appends_go, appends_put, go_one, go_over, stepped_counts}
use Rattle.dbg_back.proofs.Running.{part_below}

abbrev pub go_at : Points → ℕ → Course → Course
go_at points budget c = go points c (budget - c.state.parts.steps)

-- ---- one step

-- it stands below the furthest count, or at it
pub one_step : (c : Course) → goes_on c.state ≡ true → c.state.parts.steps ≤ c.top → advanced (c.state.parts.steps + 1) c ≡ stepped c
one_step c going below =
    let until : ℕ = c.state.parts.steps + 1 in
    let ends : part_end c until ≡ until = elim (nat_lt c.state.parts.steps c.top) as (λ b. nat_lt c.state.parts.steps c.top ≡ b → part_end c until ≡ until) [
      | true ↦ λ h.
          let under : c.state.parts.steps < c.top = grind (arith, nat_tests, h) in
          let least : min until c.top ≡ until = omega (arith, under) in
          part_below c until under ∙ least
      | false ↦ λ h. ap (λ (b : Bool). if b then min until c.top else until) h
    ] refl in
    let one : part_end c until - c.state.parts.steps ≡ 1 = omega (arith, ends) in
    ap (walked c) one ∙ moved_one c 0 going ∙ walked-zero (stepped c)

-- ---- the tests behind it

none_over : (points : Points) (made : List Access) (m : Parts) → is_none m.ended ≡ false → point_met points made m ≡ None
none_over points made m over = ap (λ (b : Bool). if b then watch_met points m.core.pc (position (is_touched made) points.watches) else None) over

-- what the first of the four tests says of the others
pub record Tested (points : Points) (budget : ℕ) (made : List Access) (m : Parts) (found : Option Stop) : Type 0 where
  pub none : found ≡ None → (is_none m.ended ≡ true) × (point_met points made m ≡ None) × (m.steps < budget)
  pub ended : found ≡ Some Ended → is_none m.ended ≡ false
  pub watch : (k : ℕ) → found ≡ Some (Watch k) → point_met points made m ≡ Some (AtWatch k)
  pub stands : found ≡ Some Break → point_met points made m ≡ Some AtBreak
  pub spent : found ≡ Some Spent → (is_none m.ended ≡ true) × (point_met points made m ≡ None) × (budget ≤ m.steps)

tested_spent : (points : Points) (budget : ℕ) (made : List Access) (m : Parts) → is_none m.ended ≡ true → point_met points made m ≡ None → Tested points budget made m (spent_met m.steps budget)
tested_spent points budget made m going none =
    elim (nat_le budget m.steps) as (λ b. nat_le budget m.steps ≡ b → Tested points budget made m (if b then Some Spent else None)) [
      | true ↦ λ h. record {
        none = λ (e : Some Spent ≡ None). cc;
        ended = λ (e : Some Spent ≡ Some Ended). cc;
        watch = λ k (e : Some Spent ≡ Some (Watch k)). cc;
        stands = λ (e : Some Spent ≡ Some Break). cc;
        spent = λ e. (going, none, grind (arith, nat_tests, h));
      }
      | false ↦ λ h. record {
        none = λ e. (going, none, grind (arith, nat_tests, h));
        ended = λ (e : None ≡ Some Ended). cc;
        watch = λ k (e : None ≡ Some (Watch k)). cc;
        stands = λ (e : None ≡ Some Break). cc;
        spent = λ (e : None ≡ Some Spent). cc;
      }
    ] refl

tested_met : (points : Points) (budget : ℕ) (made : List Access) (m : Parts) (met : Option Met) → is_none m.ended ≡ true → point_met points made m ≡ met → Tested points budget made m (met_or met (spent_met m.steps budget))
tested_met points budget made m None going is = tested_spent points budget made m going is
tested_met points budget made m (Some (AtWatch k)) going is = record {
  none = λ (e : Some (Watch k) ≡ None). cc;
  ended = λ (e : Some (Watch k) ≡ Some Ended). cc;
  watch = λ j (e : Some (Watch k) ≡ Some (Watch j)). let same : k ≡ j = cc in is ∙ ap (λ (i : ℕ). Some (AtWatch i)) same;
  stands = λ (e : Some (Watch k) ≡ Some Break). cc;
  spent = λ (e : Some (Watch k) ≡ Some Spent). cc;
}
tested_met points budget made m (Some AtBreak) going is = record {
  none = λ (e : Some Break ≡ None). cc;
  ended = λ (e : Some Break ≡ Some Ended). cc;
  watch = λ j (e : Some Break ≡ Some (Watch j)). cc;
  stands = λ _. is;
  spent = λ (e : Some Break ≡ Some Spent). cc;
}

tested_at : (e : Option Ending) (points : Points) (budget : ℕ) (made : List Access) (m : Parts) → m.ended ≡ e → Tested points budget made m (if is_some e then Some Ended else met_or (point_met points made m) (spent_met m.steps budget))
tested_at None points budget made m is = tested_met points budget made m (point_met points made m) (ap (λ (x : Option Ending). is_none x) is) refl
tested_at (Some x) points budget made m is = record {
  none = λ (e : Some Ended ≡ None). cc;
  ended = λ _. ap (λ (y : Option Ending). is_none y) is;
  watch = λ k (e : Some Ended ≡ Some (Watch k)). cc;
  stands = λ (e : Some Ended ≡ Some Break). cc;
  spent = λ (e : Some Ended ≡ Some Spent). cc;
}

pub tested : (points : Points) (budget : ℕ) (made : List Access) (m : Parts) → Tested points budget made m (first_met points budget made m)
tested points budget made m = tested_at m.ended points budget made m refl

-- a machine of which it is said that it has ended has
some_of : (e : Option Ending) → is_none e ≡ false → is_some e ≡ true
some_of None h = cc
some_of (Some x) h = refl

pub has_ended_by : (stop : Stop) (points : Points) (budget : ℕ) (made : List Access) (m : Parts) → first_met points budget made m ≡ Some stop → HasEnded stop m
has_ended_by Ended points budget made m is = some_of m.ended ((tested points budget made m).ended is)
has_ended_by (Watch k) points budget made m is = tt
has_ended_by Break points budget made m is = tt
has_ended_by Spent points budget made m is = tt

-- ---- what `go` makes of a course that goes on

stop_appends : (stop : Option Met) (d e : Course) → Appends d e → Appends d (stopped_or stop d e)
stop_appends None d e more = more
stop_appends (Some stop) d e more = appends_put (stop_line stop) d

module _ (points : Points) (budget : ℕ) (c : Course) (going : goes_on c.state ≡ true) (below : c.state.parts.steps < budget) where
  abbrev met_there : Option Met
  met_there = point_met points (accesses c.state.parts) (stepped c).state.parts

  go_met : (met : Option Met) → met_there ≡ met → go_at points budget c ≡ stopped_or met (stepped c) (go points (stepped c) (budget - (c.state.parts.steps + 1)))
  go_met met is =
      let one : budget - c.state.parts.steps ≡ suc (budget - (c.state.parts.steps + 1)) = omega (arith, below) in
      ap (go points c) one ∙ go_one points c (budget - (c.state.parts.steps + 1)) going
      ∙ ap (λ (x : Option Met). stopped_or x (stepped c) (go points (stepped c) (budget - (c.state.parts.steps + 1)))) is

  -- none of the tests holds
  pub go_goes : first_met points budget (accesses c.state.parts) (stepped c).state.parts ≡ None → go_at points budget c ≡ go_at points budget (stepped c)
  go_goes is =
      let n = (tested points budget (accesses c.state.parts) (stepped c).state.parts).none is in
      let counted = stepped_counts c n.0 in
      go_met None n.1 ∙ ap (λ (k : ℕ). go points (stepped c) (budget - k)) (sym counted)

  none_is : (e : Option Ending) → is_none e ≡ true → e ≡ None
  none_is None h = refl
  none_is (Some x) h = cc

  -- one does
  pub go_stops : (stop : Stop) → first_met points budget (accesses c.state.parts) (stepped c).state.parts ≡ Some stop → go_at points budget c ≡ printed (line_of_stop stop) (stepped c)
  go_stops Ended is =
      let over = (tested points budget (accesses c.state.parts) (stepped c).state.parts).ended is in
      go_met None (none_over points (accesses c.state.parts) (stepped c).state.parts over) ∙ go_over points (stepped c) (budget - (c.state.parts.steps + 1)) over
  go_stops (Watch k) is = go_met (Some (AtWatch k)) ((tested points budget (accesses c.state.parts) (stepped c).state.parts).watch k is)
  go_stops Break is = go_met (Some AtBreak) ((tested points budget (accesses c.state.parts) (stepped c).state.parts).stands is)
  go_stops Spent is =
      let n = (tested points budget (accesses c.state.parts) (stepped c).state.parts).spent is in
      let counted = stepped_counts c n.0 in
      let over = n.2 in
      let left : budget - (c.state.parts.steps + 1) ≡ 0 = omega (arith, counted, over) in
      go_met None n.1 ∙ ap (go points (stepped c)) left ∙ go-zero points (stepped c)
      ∙ ap (λ (e : Option Ending). record { state = record (stepped c).state { output = (stepped c).state.output ++ ending_line (stepped c).state.parts e }; top = (stepped c).top }) (none_is (stepped c).state.parts.ended n.0)

  -- the step is the first of what `go` does
  pub go_appends : Appends (stepped c) (go_at points budget c)
  go_appends =
      rw (go_met met_there refl) (stop_appends met_there (stepped c) (go points (stepped c) (budget - (c.state.parts.steps + 1))) (appends_go points (budget - (c.state.parts.steps + 1)) (stepped c)))

-- ---- it has ended, or the budget is spent

pub go_rests : (points : Points) (budget : ℕ) (c : Course) → budget ≤ c.state.parts.steps → go_at points budget c ≡ printed ended_line c
go_rests points budget c over = let none : budget - c.state.parts.steps ≡ 0 = omega (arith, over) in ap (go points c) none ∙ go-zero points c

pub go_ended : (points : Points) (budget : ℕ) (c : Course) → goes_on c.state ≡ false → go_at points budget c ≡ printed ended_line c
go_ended points budget c over = go_over points c (budget - c.state.parts.steps) over

-- ---- the same of the machine

pub first_met_of : (points : Points) (budget : ℕ) (st : State) (input : List ℕ) (m : MachineState) (place : ℕ) (made : List Access) → IsIn st input m place → first_met points budget made m.parts ≡ first_met points budget made st.parts
first_met_of points budget st input m place made h = ap (first_met points budget made) h.parts

pub accesses_of : (st : State) (input : List ℕ) (m : MachineState) (place : ℕ) → IsIn st input m place → accesses m.parts ≡ accesses st.parts
accesses_of st input m place h = ap accesses h.parts
