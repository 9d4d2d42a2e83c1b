-- The commands of a session don't look at what was written before them, and only append to the outputs and take from the input.
use Rattle.std.proofs.Common.{◌≡◌, ℕ, zero, suc, ◌+◌, ◌-◌, min, Bool, true, false, List, [], ◌∷◌, ◌++◌, Option, Some, None, is_none, if◌then◌else◌, refl, sym, ap, ◌∙◌, append_assoc}
use Rattle.std.specs.Prelude.{position}
use Rattle.emu_model.specs.declared.access.Access.{Access}
use Rattle.emu_model.specs.State.{Parts, State}
use Rattle.emu_run.specs.Step.{accesses, step}
use Rattle.emu_run.specs.Run.{goes_on, until_end, run}
use Rattle.emu_run.specs.Reports.{ending_line}
use Rattle.emu_run.specs.RunLaws.{rest_all, Moves, moves_not, moves_trans, prefix_refl, step_moves, until_end_none, until_end_one, until_end_over, behind, run_behind, step_behind}
use Rattle.dbg_model.specs.declared.script.Command.{Command}
use Rattle.dbg_model.specs.declared.script.Command.TheVariants.{Step, Go, Break, Watch, Regs, Vl, Zreg, Preg, Ffr, Lanes, Mem, Back}
use Rattle.dbg_model.specs.declared.script.Stop.{Stop}
use Rattle.dbg_model.specs.Session.{Points, no_points, with_point, is_touched, point_met, watch_met, command_text, stop_line, stepped_text}
use Rattle.dbg_model.specs.Forward.{printed, ending_printed, stepped, stopped_or, go, obeyed, obeyed_all}
use Rattle.dbg_model.specs.ForwardEquations.{go-zero, go-suc}
use Rattle.emu_machine.proofs.Composed.{Blind, Moving}
use Rattle.emu_machine.proofs.Runs.{run_moving}

-- ---- a line that is printed

abbrev pub prints : (Parts → List ℕ) → State → State
prints text st = printed (text st.parts) st

pub prints_blind : (text : Parts → List ℕ) → Blind (prints text)
prints_blind text o e st = ap (λ (l : List ℕ). record st { output = l; errors = e ++ st.errors }) (append_assoc o st.output (text st.parts))

pub prints_moving : (text : Parts → List ℕ) → Moving (prints text)
prints_moving text st = record { input = rest_all st.input; output = (text st.parts, refl); errors = prefix_refl st.errors }

abbrev pub ending_text : Parts → List ℕ
ending_text m = ending_line m m.ended

-- ---- `step`

stepped_blind : (target budget : ℕ) → Blind (stepped target budget)
stepped_blind target budget o e st =
    ap (prints (stepped_text target)) (run_behind o e st (min target budget)) ∙ prints_blind (stepped_text target) o e (run st (min target budget))

stepped_moving : (target budget : ℕ) → Moving (stepped target budget)
stepped_moving target budget st =
    let end : State = run st (min target budget) in
    moves_trans st end (prints (stepped_text target) end) (run_moving (min target budget) st) (prints_moving (stepped_text target) end)

-- ---- go

pub go_one : (points : Points) (st : State) (k : ℕ) → goes_on st ≡ true → go points st (suc k) ≡ stopped_or (point_met points (accesses st.parts) (step st).parts) (step st) (go points (step st) k)
go_one points st k h =
    go-suc points st k ∙ ap (λ (b : Bool). if b then stopped_or (point_met points (accesses st.parts) (step st).parts) (step st) (go points (step st) k) else ending_printed st) h

pub go_over : (points : Points) (st : State) (k : ℕ) → goes_on st ≡ false → go points st k ≡ ending_printed st
go_over points st zero h = go-zero points st
go_over points st (suc k) h =
    go-suc points st k ∙ ap (λ (b : Bool). if b then stopped_or (point_met points (accesses st.parts) (step st).parts) (step st) (go points (step st) k) else ending_printed st) h

stopped_blind : (stop : Option Stop) (o e : List ℕ) (s t r u : State) → t ≡ behind o e s → u ≡ behind o e r → stopped_or stop t u ≡ behind o e (stopped_or stop s r)
stopped_blind None o e s t r u here there = there
stopped_blind (Some stop) o e s t r u here there = ap (prints (stop_line stop)) here ∙ prints_blind (stop_line stop) o e s

pub go_blind : (points : Points) (k : ℕ) (o e : List ℕ) (st : State) → go points (behind o e st) k ≡ behind o e (go points st k)
go_blind points zero o e st = go-zero points (behind o e st) ∙ prints_blind ending_text o e st ∙ ap (λ (s : State). behind o e s) (sym (go-zero points st))
go_blind points (suc k) o e st =
    elim (goes_on st) as (λ b. goes_on st ≡ b → go points (behind o e st) (suc k) ≡ behind o e (go points st (suc k))) [
      | true ↦ λ h.
          go_one points (behind o e st) k h
          ∙ stopped_blind (point_met points (accesses st.parts) (step st).parts) o e (step st) (step (behind o e st)) (go points (step st) k) (go points (step (behind o e st)) k) (step_behind o e st)
          (ap (λ (s : State). go points s k) (step_behind o e st) ∙ go_blind points k o e (step st))
          ∙ ap (λ (s : State). behind o e s) (sym (go_one points st k h))
      | false ↦ λ h. go_over points (behind o e st) (suc k) h ∙ prints_blind ending_text o e st ∙ ap (λ (s : State). behind o e s) (sym (go_over points st (suc k) h))
    ] refl

pub stopped_moves : (stop : Option Stop) (st s r : State) → Moves st s → Moves st r → Moves st (stopped_or stop s r)
stopped_moves None st s r here there = there
stopped_moves (Some stop) st s r here there = moves_trans st s (prints (stop_line stop) s) here (prints_moving (stop_line stop) s)

pub go_moves : (points : Points) (k : ℕ) (st : State) → Moves st (go points st k)
go_moves points zero st = rw (go-zero points st) (prints_moving ending_text st)
go_moves points (suc k) st =
    elim (goes_on st) as (λ b. goes_on st ≡ b → Moves st (go points st (suc k))) [
      | true ↦ λ h. rw (go_one points st k h) (stopped_moves (point_met points (accesses st.parts) (step st).parts) st (step st) (go points (step st) k) (step_moves st)
          (moves_trans st (step st) (go points (step st) k) (step_moves st) (go_moves points k (step st))))
      | false ↦ λ h. rw (go_over points st (suc k) h) (prints_moving ending_text st)
    ] refl

-- without a point it is a run, and how that ended
none_when : (b : Bool) (met : Option Stop) → met ≡ None → (if b then met else None) ≡ None
none_when true met none = none
none_when false met none = refl

none_met : (made : List Access) (m : Parts) → point_met no_points made m ≡ None
none_met made m = none_when (is_none m.ended) (watch_met no_points m.core.pc (position (is_touched made) no_points.watches)) refl

pub go_free : (k : ℕ) (st : State) → go no_points st k ≡ ending_printed (until_end st k)
go_free zero st = go-zero no_points st ∙ ap ending_printed (sym (until_end_none st))
go_free (suc k) st =
    elim (goes_on st) as (λ b. goes_on st ≡ b → go no_points st (suc k) ≡ ending_printed (until_end st (suc k))) [
      | true ↦ λ h.
          go_one no_points st k h
          ∙ ap (λ (stop : Option Stop). stopped_or stop (step st) (go no_points (step st) k)) (none_met (accesses st.parts) (step st).parts)
          ∙ go_free k (step st)
          ∙ ap ending_printed (sym (until_end_one st k h))
      | false ↦ λ h. go_over no_points st (suc k) h ∙ ap ending_printed (sym (until_end_over st (suc k) h))
    ] refl

-- ---- any command, and all commands

pub obeyed_blind : (command : Command) (points : Points) (budget : ℕ) → Blind (obeyed command points budget)
obeyed_blind (Step n) points budget o e st = stepped_blind (st.parts.steps + n) budget o e st
obeyed_blind Go points budget o e st = go_blind points (budget - st.parts.steps) o e st
obeyed_blind (Break address) points budget o e st = prints_blind (command_text (Break address)) o e st
obeyed_blind (Watch address count) points budget o e st = prints_blind (command_text (Watch address count)) o e st
obeyed_blind Regs points budget o e st = prints_blind (command_text Regs) o e st
obeyed_blind Vl points budget o e st = prints_blind (command_text Vl) o e st
obeyed_blind (Zreg k) points budget o e st = prints_blind (command_text (Zreg k)) o e st
obeyed_blind (Preg k) points budget o e st = prints_blind (command_text (Preg k)) o e st
obeyed_blind Ffr points budget o e st = prints_blind (command_text Ffr) o e st
obeyed_blind (Lanes k size) points budget o e st = prints_blind (command_text (Lanes k size)) o e st
obeyed_blind (Mem address count) points budget o e st = prints_blind (command_text (Mem address count)) o e st
obeyed_blind (Back k) points budget o e st = prints_blind (command_text (Back k)) o e st

pub obeyed_moving : (command : Command) (points : Points) (budget : ℕ) → Moving (obeyed command points budget)
obeyed_moving (Step n) points budget st = stepped_moving (st.parts.steps + n) budget st
obeyed_moving Go points budget st = go_moves points (budget - st.parts.steps) st
obeyed_moving (Break address) points budget st = prints_moving (command_text (Break address)) st
obeyed_moving (Watch address count) points budget st = prints_moving (command_text (Watch address count)) st
obeyed_moving Regs points budget st = prints_moving (command_text Regs) st
obeyed_moving Vl points budget st = prints_moving (command_text Vl) st
obeyed_moving (Zreg k) points budget st = prints_moving (command_text (Zreg k)) st
obeyed_moving (Preg k) points budget st = prints_moving (command_text (Preg k)) st
obeyed_moving Ffr points budget st = prints_moving (command_text Ffr) st
obeyed_moving (Lanes k size) points budget st = prints_moving (command_text (Lanes k size)) st
obeyed_moving (Mem address count) points budget st = prints_moving (command_text (Mem address count)) st
obeyed_moving (Back k) points budget st = prints_moving (command_text (Back k)) st

pub all_blind : (commands : List Command) (points : Points) (budget : ℕ) → Blind (obeyed_all commands points budget)
all_blind [] points budget o e st = refl
all_blind (command ∷ commands) points budget o e st =
    ap (obeyed_all commands (with_point command points) budget) (obeyed_blind command points budget o e st) ∙ all_blind commands (with_point command points) budget o e (obeyed command points budget st)

pub all_moving : (commands : List Command) (points : Points) (budget : ℕ) → Moving (obeyed_all commands points budget)
all_moving [] points budget st = moves_not st
all_moving (command ∷ commands) points budget st =
    let next : State = obeyed command points budget st in
    moves_trans st next (obeyed_all commands (with_point command points) budget next) (obeyed_moving command points budget st) (all_moving commands (with_point command points) budget next)
