-- The commands that were obeyed so far, and where the machine stands behind them.
use Rattle.std.proofs.Common.{◌≡◌, ◌<◌, ℕ, ◌+◌, ◌-◌, Bool, true, false, List, [], ◌∷◌, ◌++◌, length, take, Option, Some, None, IfSome, refl, sym, ap, subst, ◌∙◌, arith}
use Rattle.std.specs.Prelude.{slice_get}
use Rattle.std.proofs.lemmas.List.{take_more}
use Rattle.std.proofs.lemmas.Option.{get_or_from_slice_get}
use Rattle.emu_model.specs.State.{Parts, State}
use Rattle.emu_system.specs.Start.{with_input}
use Rattle.emu_run.specs.Run.{until_end}
use Rattle.emu_run.specs.RunLaws.{behind, run_behind}
use Rattle.emu_machine.specs.Ends.{Becomes, IsKept}
use Rattle.emu_machine.specs.Machines.{MachineState}
use Rattle.dbg_model.specs.declared.script.Command.{Command}
use Rattle.dbg_model.specs.Session.{Points, no_points, with_point}
use Rattle.dbg_model.specs.Forward.{obeyed, obeyed_all, session}
use Rattle.dbg_core.specs.declared.ends.SessionEnd.{SessionEnd}
use Rattle.dbg_core.specs.Ends.{Halts, LeavesMachine, StandsIn}
use Rattle.emu_machine.proofs.Composed.{Blind, from_nothing}
use Rattle.dbg_core.proofs.Sessions.{obeyed_blind}
use Rattle.dbg_core.proofs.Leaving.{becomes_same, broken_whole, made_of, no_halt}

-- the points of commands, behind others
abbrev pub points_all : List Command → Points → Points
points_all [] points = points
points_all (command ∷ commands) points = points_all commands (with_point command points)

-- ---- one command more

points_more : (commands : List Command) (command : Command) (points : Points) → points_all (commands ++ command ∷ []) points ≡ with_point command (points_all commands points)
points_more [] command points = refl
points_more (first ∷ commands) command points = points_more commands command (with_point first points)

obeyed_more : (commands : List Command) (command : Command) (points : Points) (budget : ℕ) (st : State)
    → obeyed_all (commands ++ command ∷ []) points budget st ≡ obeyed command (points_all commands points) budget (obeyed_all commands points budget st)
obeyed_more [] command points budget st = refl
obeyed_more (first ∷ commands) command points budget st = obeyed_more commands command (with_point first points) budget (obeyed first points budget st)

-- ---- what one function makes behind another

made_behind : (h r : State → State) (old p q : Parts) (told left_p left_q : Option (List ℕ)) → Blind r → Becomes h old p told left_p false → Becomes r p q left_p left_q false → Becomes (λ st. r (h st)) old q told left_q false
made_behind h r old p q None left_p left_q blind before done = tt
made_behind h r old p q (Some bytes) left_p left_q blind before done = λ _.
    let s : State = h (with_input old bytes) in
    let b = before refl in
    let here : Becomes r p q (Some s.input) left_q false = subst (λ (t : Option (List ℕ)). Becomes r p q t left_q false) b.1 done in
    let d = here refl in
    let same = made_of r s p blind b.0 in
    (d.0 ∙ ap (λ (t : State). t.parts) (sym same), d.1 ∙ ap (λ (t : State). Some t.input) (sym same))

-- steps don't look at what was written
ends_behind : (o e : List ℕ) (st : State) (k : ℕ) → until_end (behind o e st) k ≡ behind o e (until_end st k)
ends_behind o e st k =
    let same : (st.parts.steps + k) - st.parts.steps ≡ k = omega arith in
    subst (λ (n : ℕ). until_end (behind o e st) n ≡ behind o e (until_end st n)) same (run_behind o e st (st.parts.steps + k))

pub seen_ends : (s : State) (k : ℕ) → until_end s k ≡ behind s.output s.errors (until_end (with_input s.parts s.input) k)
seen_ends s k = ap (λ (t : State). until_end t k) (from_nothing s) ∙ ends_behind s.output s.errors (with_input s.parts s.input) k

-- broken off behind it
halted_behind : (h : State → State) (old p q : Parts) (told left_p left_q : Option (List ℕ)) (failed : Bool) → Becomes h old p told left_p false
    → IfSome left_p (λ input. failed ≡ true → Halts (with_input p input) q left_q) → IfSome told (λ bytes. failed ≡ true → Halts (h (with_input old bytes)) q left_q)
halted_behind h old p q None left_p left_q failed before halted = tt
halted_behind h old p q (Some bytes) left_p left_q failed before halted = λ broken.
    let s : State = h (with_input old bytes) in
    let b = before refl in
    let here : IfSome (Some s.input) (λ input. failed ≡ true → Halts (with_input p input) q left_q) = subst (λ (t : Option (List ℕ)). IfSome t (λ input. failed ≡ true → Halts (with_input p input) q left_q)) b.1 halted in
    let there : Halts (with_input s.parts s.input) q left_q = subst (λ (m : Parts). Halts (with_input m s.input) q left_q) b.0 (here broken) in
    record {
      steps = there.steps;
      kept = subst (λ (t : State). IsKept t.parts q (Some t.input) left_q) (sym (seen_ends s there.steps)) there.kept;
    }

-- ---- where the machine stands

pub stands_start : (old : Parts) (told : Option (List ℕ)) → Becomes (λ st. st) old old told told false
stands_start old None = tt
stands_start old (Some bytes) = λ _. (refl, refl)

stands_of : (script : List Command) (first budget : ℕ) (old : Parts) (new : MachineState) (told left : Option (List ℕ)) → Becomes (session (take first script) budget) old new.parts told left new.failed
    → IfSome told (λ bytes. new.failed ≡ true → Halts (session (take first script) budget (with_input old bytes)) new.parts left) → IfSome told (λ bytes. StandsIn script budget (with_input old bytes) new left)
stands_of script first budget old new None left whole halted = tt
stands_of script first budget old new (Some bytes) left whole halted = record { first = first; whole = whole; halted = halted }

-- no step was broken off
pub stands_whole : (script : List Command) (first budget : ℕ) (old : Parts) (new : MachineState) (told left : Option (List ℕ)) → new.failed ≡ false → Becomes (session (take first script) budget) old new.parts told left false
    → IfSome told (λ bytes. StandsIn script budget (with_input old bytes) new left)
stands_whole script first budget old new told left fine whole =
    stands_of script first budget old new told left (subst (λ (b : Bool). Becomes (session (take first script) budget) old new.parts told left b) (sym fine) whole)
    (no_halt (λ bytes. Halts (session (take first script) budget (with_input old bytes)) new.parts left) told new.failed fine)

module _ (script : List Command) (k : ℕ) (command : Command) (is : slice_get script k ≡ Some command) (within : k < length script) where
  one_taken : take (k + 1) script ≡ take k script ++ command ∷ []
  one_taken = take_more script k command within ∙ ap (λ (c : Command). take k script ++ c ∷ []) (get_or_from_slice_get script k command command is)

  pub points_next : (points more : Points) → more ≡ with_point command points → points ≡ points_all (take k script) no_points → more ≡ points_all (take (k + 1) script) no_points
  points_next points more added so_far =
      added ∙ ap (λ (m : Points). with_point command m) so_far ∙ sym (ap (λ (cs : List Command). points_all cs no_points) one_taken ∙ points_more (take k script) command no_points)

  module _ (points : Points) (so_far : points ≡ points_all (take k script) no_points) (budget : ℕ) (old p : Parts) (told left_p : Option (List ℕ)) (stood : Becomes (session (take k script) budget) old p told left_p false) where
    pub next_of : (st : State) → obeyed command points budget (session (take k script) budget st) ≡ session (take (k + 1) script) budget st
    next_of st =
        ap (λ (m : Points). obeyed command m budget (session (take k script) budget st)) so_far
        ∙ sym (ap (λ (cs : List Command). session cs budget st) one_taken ∙ obeyed_more (take k script) command no_points budget st)

    -- the command was obeyed
    pub stands_next : (q : Parts) (left_q : Option (List ℕ)) → Becomes (obeyed command points budget) p q left_p left_q false → Becomes (session (take (k + 1) script) budget) old q told left_q false
    stands_next q left_q done =
        becomes_same (λ st. obeyed command points budget (session (take k script) budget st)) (session (take (k + 1) script) budget) old q told left_q false (λ input. next_of (with_input old input))
        (made_behind (session (take k script) budget) (obeyed command points budget) old p q told left_p left_q (obeyed_blind command points budget) stood done)

    -- it was broken off
    pub stands_broken : (new : MachineState) (left_q : Option (List ℕ)) (end : SessionEnd) → LeavesMachine (obeyed command points budget) budget p new left_p left_q end → IfSome told (λ bytes. StandsIn script budget (with_input old bytes) new left_q)
    stands_broken new left_q end l =
        elim new.failed as (λ b. new.failed ≡ b → IfSome told (λ bytes. StandsIn script budget (with_input old bytes) new left_q)) [
          | true ↦ λ h.
              stands_of script k budget old new told left_q (broken_whole (session (take k script) budget) old new.parts told left_q new.failed h)
              (halted_behind (session (take k script) budget) old p new.parts told left_p left_q new.failed stood l.halted)
          | false ↦ λ h.
              stands_whole script (k + 1) budget old new told left_q h
              (stands_next new.parts left_q (subst (λ (b : Bool). Becomes (obeyed command points budget) p new.parts left_p left_q b) h l.whole))
        ] refl
