-- The machine of a session is one that the run from its start passes, within the budget and no further than the machine's end.
use Rattle.std.specs.Prelude.{◌≡◌, ◌≤◌, ◌⊎◌, ℕ, zero, suc, ◌+◌, ◌-◌, min, true, false, List, [], ◌∷◌, Option, Some, None, is_none, if◌then◌else◌}
use Rattle.std.proofs.Common.{inl, inr, refl, sym, ap, ◌∙◌, append-nil, arith}
use Rattle.emu_model.specs.State.{Parts, State}
use Rattle.emu_system.specs.Start.{with_input}
use Rattle.emu_run.specs.Step.{accesses, step}
use Rattle.emu_run.specs.Run.{goes_on, until_end, run}
use Rattle.emu_run.specs.RunLaws.{behind, step_counts, until_end_none, until_end_one, until_end_over, until_end_behind}
use Rattle.emu_run.specs.Steps.{until_end_added}
use Rattle.dbg_model.specs.declared.script.Command.{Command}
use Rattle.dbg_model.specs.declared.script.Command.TheVariants.{Step, Go, Break, Watch, Regs, Vl, Zreg, Preg, Ffr, Lanes, Mem, Back}
use Rattle.dbg_model.specs.declared.script.Stop.{Stop}
use Rattle.dbg_model.specs.Session.{Points, no_points, with_point, point_met}
use Rattle.dbg_model.specs.Forward.{printed, stopped_or, go, obeyed, obeyed_all, session, ending_printed}
use Rattle.dbg_model.specs.ForwardEquations.{go-zero, go-suc}

-- some number of steps, at most the limit, leads from one machine and its input to the other, with none past the machine's end
pub record IsReached (limit : ℕ) (old new : State) : Type 0 where
  pub count : ℕ
  pub within : count ≤ limit
  pub parts : new.parts ≡ (until_end old count).parts
  pub input : new.input ≡ (until_end old count).input

-- ---- steps and then steps

-- the machine has ended, or has counted each of so many steps
abbrev pub EndsOrCounts : ℕ → State → State → Type 0
EndsOrCounts k old new = (goes_on new ≡ false) ⊎ (new.parts.steps ≡ old.parts.steps + k)

one_more : (k : ℕ) (st new : State) → (step st).parts.steps ≡ st.parts.steps + 1 → EndsOrCounts k (step st) new → EndsOrCounts (suc k) st new
one_more k st new one (inl over) = inl over
one_more k st new one (inr more) = inr (omega arith)

pub until_end_counts : (k : ℕ) (st : State) → EndsOrCounts k st (until_end st k)
until_end_counts zero st = rw (until_end_none st) (inr (omega arith))
until_end_counts (suc k) st =
    elim (goes_on st) as (λ b. goes_on st ≡ b → EndsOrCounts (suc k) st (until_end st (suc k))) [
      | true ↦ λ h. rw (until_end_one st k h) (
          elim (step_counts st) as (λ _. EndsOrCounts (suc k) st (until_end (step st) k)) [
            | inl over ↦ rw (until_end_over (step st) k over) (inl over)
            | inr one ↦ one_more k st (until_end (step st) k) one (until_end_counts k (step st))
          ])
      | false ↦ λ h. rw (until_end_over st (suc k) h) (inl h)
    ] refl

-- steps don't look at what was written
from_nothing : (s : State) → s ≡ behind s.output s.errors (with_input s.parts s.input)
from_nothing s = simp append-nil

seen_until : (s : State) (k : ℕ) → until_end s k ≡ behind s.output s.errors (until_end (with_input s.parts s.input) k)
seen_until s k = ap (λ (t : State). until_end t k) (from_nothing s) ∙ until_end_behind s.output s.errors (with_input s.parts s.input) k

pub same_seen : (a b : State) → a.parts ≡ b.parts → a.input ≡ b.input → with_input a.parts a.input ≡ with_input b.parts b.input
same_seen a b parts input = ap (λ (m : Parts). with_input m a.input) parts ∙ ap (λ (i : List ℕ). with_input b.parts i) input

pub same_parts : (a b : State) (k : ℕ) → with_input a.parts a.input ≡ with_input b.parts b.input → (until_end a k).parts ≡ (until_end b k).parts
same_parts a b k same =
    ap (λ (s : State). s.parts) (seen_until a k) ∙ ap (λ (s : State). (until_end s k).parts) same ∙ sym (ap (λ (s : State). s.parts) (seen_until b k))

pub same_input : (a b : State) (k : ℕ) → with_input a.parts a.input ≡ with_input b.parts b.input → (until_end a k).input ≡ (until_end b k).input
same_input a b k same =
    ap (λ (s : State). s.input) (seen_until a k) ∙ ap (λ (s : State). (until_end s k).input) same ∙ sym (ap (λ (s : State). s.input) (seen_until b k))

-- one machine has counted a steps of the budget, and p further steps make it count b
sum_within : (budget a b p q : ℕ) → p ≤ budget - a → q ≤ budget - b → b ≡ a + p → p + q ≤ budget - a
sum_within budget a b p q first more is = omega arith

-- within what is left of a budget, and then within what is left of it there; where the machine has ended on the way, it stays
reached_then : (budget : ℕ) (a b c : State) → IsReached (budget - a.parts.steps) a b → IsReached (budget - b.parts.steps) b c → IsReached (budget - a.parts.steps) a c
reached_then budget a b c p q =
    elim (until_end_counts p.count a) as (λ _. IsReached (budget - a.parts.steps) a c) [
      | inl over ↦
          let ended : goes_on b ≡ false = ap (λ (m : Parts). is_none m.ended) p.parts ∙ over in
          let stays : until_end b q.count ≡ b = until_end_over b q.count ended in
          record {
            count = p.count;
            within = p.within;
            parts = q.parts ∙ ap (λ (s : State). s.parts) stays ∙ p.parts;
            input = q.input ∙ ap (λ (s : State). s.input) stays ∙ p.input;
          }
      | inr counted ↦
          let same = same_seen b (until_end a p.count) p.parts p.input in
          record {
            count = p.count + q.count;
            within = sum_within budget a.parts.steps b.parts.steps p.count q.count p.within q.within (ap (λ (m : Parts). m.steps) p.parts ∙ counted);
            parts = q.parts ∙ same_parts b (until_end a p.count) q.count same ∙ ap (λ (s : State). s.parts) (until_end_added p.count q.count a);
            input = q.input ∙ same_input b (until_end a p.count) q.count same ∙ ap (λ (s : State). s.input) (until_end_added p.count q.count a);
          }
    ]

-- ---- what a command makes of a machine

reached_here : (limit : ℕ) (st : State) → IsReached limit st st
reached_here limit st =
    record { count = 0; within = omega arith; parts = ap (λ (s : State). s.parts) (sym (until_end_none st)); input = ap (λ (s : State). s.input) (sym (until_end_none st)) }

-- from one step on
reached_on : (limit : ℕ) (st end : State) → goes_on st ≡ true → IsReached limit (step st) end → IsReached (suc limit) st end
reached_on limit st end goes p =
    let below : p.count ≤ limit = p.within in
    let one : until_end (step st) p.count ≡ until_end st (suc p.count) = sym (until_end_one st p.count goes) in
    record { count = suc p.count; within = omega arith; parts = p.parts ∙ ap (λ (s : State). s.parts) one; input = p.input ∙ ap (λ (s : State). s.input) one }

reached_printed : (limit : ℕ) (text : List ℕ) (a b : State) → IsReached limit a b → IsReached limit a (printed text b)
reached_printed limit text a b p = record { count = p.count; within = p.within; parts = p.parts; input = p.input }

reached_shown : (limit : ℕ) (text : List ℕ) (st : State) → IsReached limit st (printed text st)
reached_shown limit text st = reached_printed limit text st st (reached_here limit st)

reached_run : (limit k : ℕ) (st : State) → k ≤ limit → IsReached limit st (until_end st k)
reached_run limit k st h = record { count = k; within = h; parts = refl; input = refl }

reached_stop : (limit : ℕ) (stop : Option Stop) (a s r : State) → IsReached limit a s → IsReached limit a r → IsReached limit a (stopped_or stop s r)
reached_stop limit None a s r here there = there
reached_stop limit (Some stop) a s r here there = reached_printed limit _ a s here

reached_go : (points : Points) (k : ℕ) (st : State) → IsReached k st (go points st k)
reached_go points zero st = rw (go-zero points st) (reached_shown 0 _ st)
reached_go points (suc k) st =
    rw (go-suc points st k) (elim (goes_on st) as (λ b. goes_on st ≡ b → IsReached (suc k) st (if b then stopped_or (point_met points (accesses st.parts) (step st).parts) (step st) (go points (step st) k) else ending_printed st)) [
      | true ↦ λ h. reached_stop (suc k) (point_met points (accesses st.parts) (step st).parts) st (step st) (go points (step st) k)
          (reached_on k st (step st) h (reached_here k (step st)))
          (reached_on k st (go points (step st) k) h (reached_go points k (step st)))
      | false ↦ λ h. reached_shown (suc k) _ st
    ] refl)

reached_obeyed : (command : Command) (points : Points) (budget : ℕ) (st : State) → IsReached (budget - st.parts.steps) st (obeyed command points budget st)
reached_obeyed (Step n) points budget st =
    reached_printed _ _ st (run st (min (st.parts.steps + n) budget)) (reached_run (budget - st.parts.steps) (min (st.parts.steps + n) budget - st.parts.steps) st (omega arith))
reached_obeyed Go points budget st = reached_go points (budget - st.parts.steps) st
reached_obeyed (Break address) points budget st = reached_shown _ _ st
reached_obeyed (Watch address count) points budget st = reached_shown _ _ st
reached_obeyed Regs points budget st = reached_shown _ _ st
reached_obeyed Vl points budget st = reached_shown _ _ st
reached_obeyed (Zreg k) points budget st = reached_shown _ _ st
reached_obeyed (Preg k) points budget st = reached_shown _ _ st
reached_obeyed Ffr points budget st = reached_shown _ _ st
reached_obeyed (Lanes k size) points budget st = reached_shown _ _ st
reached_obeyed (Mem address count) points budget st = reached_shown _ _ st
reached_obeyed (Back k) points budget st = reached_shown _ _ st

-- ---- the commands one after the other

reached_all : (commands : List Command) (points : Points) (budget : ℕ) (st : State) → IsReached (budget - st.parts.steps) st (obeyed_all commands points budget st)
reached_all [] points budget st = reached_here _ st
reached_all (command ∷ commands) points budget st =
    let next : State = obeyed command points budget st in
    reached_then budget st next (obeyed_all commands (with_point command points) budget next) (reached_obeyed command points budget st) (reached_all commands (with_point command points) budget next)

pub sessions_are_reached : (commands : List Command) (budget : ℕ) (st : State) → IsReached (budget - st.parts.steps) st (session commands budget st)
sessions_are_reached commands budget st = reached_all commands no_points budget st
