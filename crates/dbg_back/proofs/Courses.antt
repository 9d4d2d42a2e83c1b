-- The course of a session only appends to what was put; its steps in parts, and how many they count.
use Rattle.std.proofs.Common.{◌≡◌, ◌≤◌, ℕ, zero, suc, ◌+◌, ◌-◌, min, Bool, true, false, List, [], ◌∷◌, Option, Some, None, is_none, nat_lt, if◌then◌else◌, inl, inr, refl, sym, ap, ◌∙◌, arith}
use Rattle.std.specs.Prelude.{position}
use Rattle.emu_model.specs.declared.access.Access.{Access}
use Rattle.emu_model.specs.State.{Parts, State, IsPrefix}
use Rattle.emu_run.specs.Step.{accesses, step}
use Rattle.emu_run.specs.Run.{goes_on, until_end}
use Rattle.emu_run.specs.RunLaws.{Moves, prefix_refl, prefix_trans, step_moves, until_end_none, until_end_one, until_end_over}
use Rattle.dbg_model.specs.declared.script.Command.{Command}
use Rattle.dbg_model.specs.declared.script.Command.TheVariants.{Step, Go, Break, Watch, Regs, Vl, Zreg, Preg, Ffr, Lanes, Mem, Back}
use Rattle.dbg_model.specs.declared.script.Stop.{Stop}
use Rattle.dbg_model.specs.Session.{Points, no_points, is_touched, point_met, with_point, command_text, stepped_text, stop_line, watch_met, Course, back_text, ended_line, go, walked, moved_to, obeyed, obeyed_all, printed, stepped, stopped_or}
use Rattle.dbg_model.specs.CourseLaws.{moved_added, moved_one, moved_over, step_most, stepped_parts, turn_counts}
use Rattle.dbg_model.specs.SessionEquations.{go-suc, go-zero, walked-zero}

-- ---- what was put stays in front

pub record Appends (c d : Course) : Type 0 where
  pub output : IsPrefix c.state.output d.state.output
  pub errors : IsPrefix c.state.errors d.state.errors

pub appends_not : (c : Course) → Appends c c
appends_not c = record { output = prefix_refl c.state.output; errors = prefix_refl c.state.errors }

pub appends_trans : (c d e : Course) → Appends c d → Appends d e → Appends c e
appends_trans c d e p q = record {
  output = prefix_trans c.state.output d.state.output e.state.output p.output q.output;
  errors = prefix_trans c.state.errors d.state.errors e.state.errors p.errors q.errors;
}

pub appends_put : (text : Parts → List ℕ) (c : Course) → Appends c (printed text c)
appends_put text c = record { output = (text c.state.parts, refl); errors = prefix_refl c.state.errors }

appends_either : (b : Bool) (c : Course) → Appends c (if b then record { state = step c.state; top = (step c.state).parts.steps } else record { state = moved_to (step c.state) c.state; top = c.top })
appends_either true c = let m : Moves c.state (step c.state) = step_moves c.state in record { output = m.output; errors = m.errors }
appends_either false c = record { output = prefix_refl c.state.output; errors = prefix_refl c.state.errors }

pub appends_stepped : (c : Course) → Appends c (stepped c)
appends_stepped c = appends_either (nat_lt c.top (step c.state).parts.steps) c

pub appends_moved : (k : ℕ) (c : Course) → Appends c (walked c k)
appends_moved zero c = rw (walked-zero c) (appends_not c)
appends_moved (suc k) c =
    elim (goes_on c.state) as (λ b. goes_on c.state ≡ b → Appends c (walked c (suc k))) [
      | true ↦ λ h. rw (moved_one c k h) (appends_trans c (stepped c) (walked (stepped c) k) (appends_stepped c) (appends_moved k (stepped c)))
      | false ↦ λ h. rw (moved_over c (suc k) h) (appends_not c)
    ] refl

appends_stop : (stop : Option Stop) (c d e : Course) → Appends c d → Appends c e → Appends c (stopped_or stop d e)
appends_stop None c d e here there = there
appends_stop (Some stop) c d e here there = appends_trans c d (printed (stop_line stop) d) here (appends_put (stop_line stop) d)

pub appends_go : (points : Points) (k : ℕ) (c : Course) → Appends c (go points c k)
appends_go points zero c = rw (go-zero points c) (appends_put ended_line c)
appends_go points (suc k) c =
    rw (go-suc points c k) (elim (goes_on c.state) as (λ b. Appends c (if b then stopped_or (point_met points (accesses c.state.parts) (stepped c).state.parts) (stepped c) (go points (stepped c) k) else printed ended_line c)) [
      | true ↦
          appends_stop (point_met points (accesses c.state.parts) (stepped c).state.parts) c (stepped c) (go points (stepped c) k) (appends_stepped c)
          (appends_trans c (stepped c) (go points (stepped c) k) (appends_stepped c) (appends_go points k (stepped c)))
      | false ↦ appends_put ended_line c
    ])

pub appends_obeyed : (start : State) (command : Command) (points : Points) (budget : ℕ) (c : Course) → Appends c (obeyed start command points budget c)
appends_obeyed start (Step n) points budget c =
    let k : ℕ = min (c.state.parts.steps + n) budget - c.state.parts.steps in
    appends_trans c (walked c k) (obeyed start (Step n) points budget c) (appends_moved k c) (appends_put (stepped_text (c.state.parts.steps + n)) (walked c k))
appends_obeyed start Go points budget c = appends_go points (budget - c.state.parts.steps) c
appends_obeyed start (Break address) points budget c = appends_put (command_text (Break address)) c
appends_obeyed start (Watch address count) points budget c = appends_put (command_text (Watch address count)) c
appends_obeyed start Regs points budget c = appends_put (command_text Regs) c
appends_obeyed start Vl points budget c = appends_put (command_text Vl) c
appends_obeyed start (Zreg k) points budget c = appends_put (command_text (Zreg k)) c
appends_obeyed start (Preg k) points budget c = appends_put (command_text (Preg k)) c
appends_obeyed start Ffr points budget c = appends_put (command_text Ffr) c
appends_obeyed start (Lanes k size) points budget c = appends_put (command_text (Lanes k size)) c
appends_obeyed start (Mem address count) points budget c = appends_put (command_text (Mem address count)) c
appends_obeyed start (Back k) points budget c = record { output = (back_text (until_end start (c.state.parts.steps - k)).parts, refl); errors = prefix_refl c.state.errors }

pub appends_all : (start : State) (commands : List Command) (points : Points) (budget : ℕ) (c : Course) → Appends c (obeyed_all start commands points budget c)
appends_all start [] points budget c = appends_not c
appends_all start (command ∷ commands) points budget c =
    let next : Course = obeyed start command points budget c in
    appends_trans c next (obeyed_all start commands (with_point command points) budget next) (appends_obeyed start command points budget c) (appends_all start commands (with_point command points) budget next)

-- ---- how many steps are counted

pub until_most : (k : ℕ) (st : State) → (until_end st k).parts.steps ≤ st.parts.steps + k
until_most zero st = let e = ap (λ (s : State). s.parts.steps) (until_end_none st) in omega (arith, e)
until_most (suc k) st =
    elim (goes_on st) as (λ b. goes_on st ≡ b → (until_end st (suc k)).parts.steps ≤ st.parts.steps + suc k) [
      | true ↦ λ h.
          let e = ap (λ (s : State). s.parts.steps) (until_end_one st k h) in
          let one = step_most st in
          let rest = until_most k (step st) in
          omega (arith, e, one, rest)
      | false ↦ λ h. let e = ap (λ (s : State). s.parts.steps) (until_end_over st (suc k) h) in omega (arith, e)
    ] refl

-- a step behind which the machine goes on counted
pub stepped_counts : (c : Course) → goes_on (stepped c).state ≡ true → (stepped c).state.parts.steps ≡ c.state.parts.steps + 1
stepped_counts c going =
    let same = stepped_parts c in
    elim (turn_counts c.state.parts c.state.input) as (λ _. (stepped c).state.parts.steps ≡ c.state.parts.steps + 1) [
      | inl one ↦ ap (λ (m : Parts). m.steps) same ∙ one
      | inr none ↦ let both : true ≡ false = sym going ∙ ap (λ (m : Parts). is_none m.ended) same ∙ none.ended in cc
    ]

pub moved_counts : (k : ℕ) (c : Course) → goes_on (walked c k).state ≡ true → (walked c k).state.parts.steps ≡ c.state.parts.steps + k
moved_counts zero c going = let e = ap (λ (d : Course). d.state.parts.steps) (walked-zero c) in omega (arith, e)
moved_counts (suc k) c going =
    elim (goes_on c.state) as (λ b. goes_on c.state ≡ b → (walked c (suc k)).state.parts.steps ≡ c.state.parts.steps + suc k) [
      | true ↦ λ h.
          let one = moved_one c k h in
          let e = ap (λ (d : Course). d.state.parts.steps) one in
          let rest = moved_counts k (stepped c) (ap (λ (d : Course). goes_on d.state) (sym one) ∙ going) in
          elim (goes_on (stepped c).state) as (λ b. goes_on (stepped c).state ≡ b → (walked c (suc k)).state.parts.steps ≡ c.state.parts.steps + suc k) [
            | true ↦ λ g. let counted = stepped_counts c g in omega (arith, e, rest, counted)
            | false ↦ λ g.
                let over = moved_over (stepped c) k g in
                let both : true ≡ false = sym going ∙ ap (λ (d : Course). goes_on d.state) (one ∙ over) ∙ g in cc
          ] refl
      | false ↦ λ h. let both : true ≡ false = sym going ∙ ap (λ (d : Course). goes_on d.state) (moved_over c (suc k) h) ∙ h in cc
    ] refl

-- ---- in parts

-- steps up to `target`, of which those up to `part` are taken first
pub moved_split : (target part : ℕ) (c : Course) → c.state.parts.steps ≤ part → part ≤ target
    → walked c (target - c.state.parts.steps) ≡ walked (walked c (part - c.state.parts.steps)) (target - (walked c (part - c.state.parts.steps)).state.parts.steps)
moved_split target part c from to =
    let k : ℕ = part - c.state.parts.steps in
    let d : Course = walked c k in
    let sum : target - c.state.parts.steps ≡ k + (target - part) = omega (arith, from, to) in
    ap (walked c) sum ∙ moved_added k (target - part) c
    ∙ elim (goes_on d.state) as (λ b. goes_on d.state ≡ b → walked d (target - part) ≡ walked d (target - d.state.parts.steps)) [
      | true ↦ λ h.
          let counted = moved_counts k c h in
          let same : target - part ≡ target - d.state.parts.steps = omega (arith, from, counted) in
          ap (walked d) same
      | false ↦ λ h. moved_over d (target - part) h ∙ sym (moved_over d (target - d.state.parts.steps) h)
    ] refl

-- nothing is left to do
pub moved_done : (target : ℕ) (c : Course) → target ≤ c.state.parts.steps → walked c (target - c.state.parts.steps) ≡ c
moved_done target c over = let none : target - c.state.parts.steps ≡ 0 = omega (arith, over) in ap (walked c) none ∙ walked-zero c

-- ---- `go` without a break or a watch

none_when : (b : Bool) (met : Option Stop) → met ≡ None → (if b then met else None) ≡ None
none_when true met none = none
none_when false met none = refl

none_met : (made : List Access) (m : Parts) → point_met no_points made m ≡ None
none_met made m = none_when (is_none m.ended) (watch_met no_points m.core.pc (position (is_touched made) no_points.watches)) refl

pub go_over : (points : Points) (c : Course) (k : ℕ) → goes_on c.state ≡ false → go points c k ≡ printed ended_line c
go_over points c zero h = go-zero points c
go_over points c (suc k) h =
    go-suc points c k ∙ ap (λ (b : Bool). if b then stopped_or (point_met points (accesses c.state.parts) (stepped c).state.parts) (stepped c) (go points (stepped c) k) else printed ended_line c) h

pub go_one : (points : Points) (c : Course) (k : ℕ) → goes_on c.state ≡ true → go points c (suc k) ≡ stopped_or (point_met points (accesses c.state.parts) (stepped c).state.parts) (stepped c) (go points (stepped c) k)
go_one points c k h =
    go-suc points c k ∙ ap (λ (b : Bool). if b then stopped_or (point_met points (accesses c.state.parts) (stepped c).state.parts) (stepped c) (go points (stepped c) k) else printed ended_line c) h

pub go_without : (k : ℕ) (c : Course) → go no_points c k ≡ printed ended_line (walked c k)
go_without zero c = go-zero no_points c ∙ ap (printed ended_line) (sym (walked-zero c))
go_without (suc k) c =
    elim (goes_on c.state) as (λ b. goes_on c.state ≡ b → go no_points c (suc k) ≡ printed ended_line (walked c (suc k))) [
      | true ↦ λ h.
          go_one no_points c k h
          ∙ ap (λ (stop : Option Stop). stopped_or stop (stepped c) (go no_points (stepped c) k)) (none_met (accesses c.state.parts) (stepped c).state.parts)
          ∙ go_without k (stepped c)
          ∙ ap (printed ended_line) (sym (moved_one c k h))
      | false ↦ λ h. go_over no_points c (suc k) h ∙ ap (printed ended_line) (sym (moved_over c (suc k) h))
    ] refl
