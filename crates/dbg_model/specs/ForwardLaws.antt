-- A session none of whose commands goes back is that of `Forward`, by the states alone: its machine always has counted
-- as many steps as any before it.
use Rattle.std.specs.Prelude.{◌≡◌, ℕ, zero, suc, ◌+◌, ◌-◌, min, Bool, true, false, ◌||◌, List, [], ◌∷◌, ◌++◌, take, Option, Some, None, if◌then◌else◌}
use Rattle.std.proofs.Common.{refl, sym, ap, ◌∙◌}
use Rattle.emu_model.specs.State.{Parts, State}
use Rattle.emu_run.specs.Step.{accesses, step}
use Rattle.emu_run.specs.Run.{goes_on}
use Rattle.dbg_model.specs.declared.script.Command.{Command}
use Rattle.dbg_model.specs.declared.script.Command.TheVariants.{Step, Go, Break, Watch, Regs, Vl, Zreg, Preg, Ffr, Lanes, Mem, Back}
use Rattle.dbg_model.specs.declared.script.Stop.{Stop}
use Rattle.dbg_model.specs.Commands.{has_back, is_back}
use Rattle.dbg_model.specs.CourseLaws.{moved_beyond, stepped_beyond}
use Rattle.dbg_model.specs.Forward as forward
use Rattle.dbg_model.specs.ForwardEquations as equations
use Rattle.dbg_model.specs.Session.{Course, Points, begun, ended_line, go, no_points, obeyed, obeyed_all, point_met, printed, session, stepped, stepped_text, stopped_or, walked, with_point}
use Rattle.dbg_model.specs.SessionEquations.{go-suc, go-zero}

-- ---- a course at the furthest count

abbrev at_top : State → Course
at_top s = record { state = s; top = s.parts.steps }

as_top : (c : Course) → c.top ≡ c.state.parts.steps → c ≡ at_top c.state
as_top c at = ap (λ (n : ℕ). record { state = c.state; top = n }) at

stop_top : (stop : Option Stop) (s r : State) → stopped_or stop (at_top s) (at_top r) ≡ at_top (forward.stopped_or stop s r)
stop_top None s r = refl
stop_top (Some stop) s r = refl

go_top : (points : Points) (k : ℕ) (s : State) → go points (at_top s) k ≡ at_top (forward.go points s k)
go_top points zero s = go-zero points (at_top s) ∙ ap at_top (sym (equations.go-zero points s))
go_top points (suc k) s =
    go-suc points (at_top s) k
    ∙ (elim (goes_on s) as (λ b. (if b then stopped_or (point_met points (accesses s.parts) (stepped (at_top s)).state.parts) (stepped (at_top s)) (go points (stepped (at_top s)) k) else printed ended_line (at_top s)) ≡ at_top (if b then forward.stopped_or (point_met points (accesses s.parts) (step s).parts) (step s) (forward.go points (step s) k) else forward.ending_printed s)) [
      | true ↦
          ap (λ (d : Course). stopped_or (point_met points (accesses s.parts) d.state.parts) d (go points d k)) (stepped_beyond (at_top s) refl)
          ∙ ap (λ (r : Course). stopped_or (point_met points (accesses s.parts) (step s).parts) (at_top (step s)) r) (go_top points k (step s))
          ∙ stop_top (point_met points (accesses s.parts) (step s).parts) (step s) (forward.go points (step s) k)
      | false ↦ refl
    ])
    ∙ ap at_top (sym (equations.go-suc points s k))

-- ---- commands

obeyed_top : (start : State) (command : Command) (points : Points) (budget : ℕ) (s : State) → is_back command ≡ false → obeyed start command points budget (at_top s) ≡ at_top (forward.obeyed command points budget s)
obeyed_top start (Step n) points budget s ahead =
    ap (printed (stepped_text (s.parts.steps + n))) (moved_beyond (min (s.parts.steps + n) budget - s.parts.steps) (at_top s) refl)
obeyed_top start Go points budget s ahead = go_top points (budget - s.parts.steps) s
obeyed_top start (Break address) points budget s ahead = refl
obeyed_top start (Watch address count) points budget s ahead = refl
obeyed_top start Regs points budget s ahead = refl
obeyed_top start Vl points budget s ahead = refl
obeyed_top start (Zreg k) points budget s ahead = refl
obeyed_top start (Preg k) points budget s ahead = refl
obeyed_top start Ffr points budget s ahead = refl
obeyed_top start (Lanes k size) points budget s ahead = refl
obeyed_top start (Mem address count) points budget s ahead = refl
obeyed_top start (Back k) points budget s ahead = cc

first_false : (a b : Bool) → (a || b) ≡ false → a ≡ false
first_false true b h = h
first_false false b h = refl

second_false : (a b : Bool) → (a || b) ≡ false → b ≡ false
second_false true b h = cc
second_false false b h = h

both_false : (a b : Bool) → a ≡ false → b ≡ false → (a || b) ≡ false
both_false a b p q = rw (p, q) refl

all_top : (start : State) (commands : List Command) (points : Points) (budget : ℕ) (s : State) → has_back commands ≡ false → obeyed_all start commands points budget (at_top s) ≡ at_top (forward.obeyed_all commands points budget s)
all_top start [] points budget s ahead = refl
all_top start (command ∷ commands) points budget s ahead =
    ap (obeyed_all start commands (with_point command points) budget) (obeyed_top start command points budget s (first_false (is_back command) (has_back commands) ahead))
    ∙ all_top start commands (with_point command points) budget (forward.obeyed command points budget s) (second_false (is_back command) (has_back commands) ahead)

pub session_ahead : (commands : List Command) (budget : ℕ) (start : State) → has_back commands ≡ false → start.parts.steps ≡ 0 → session commands budget start ≡ forward.session commands budget start
session_ahead commands budget start ahead none =
    ap (λ (c : Course). (obeyed_all start commands no_points budget c).state) (as_top (begun start) (sym none))
    ∙ ap (λ (c : Course). c.state) (all_top start commands no_points budget start ahead)

-- the first of commands none of which goes back
pub take_ahead : (n : ℕ) (commands : List Command) → has_back commands ≡ false → has_back (take n commands) ≡ false
take_ahead zero commands ahead = refl
take_ahead (suc n) [] ahead = refl
take_ahead (suc n) (command ∷ commands) ahead =
    both_false (is_back command) (has_back (take n commands)) (first_false (is_back command) (has_back commands) ahead)
    (take_ahead n commands (second_false (is_back command) (has_back commands) ahead))
