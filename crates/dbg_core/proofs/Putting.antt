-- What a sink that didn't fail has gained where a part of a session was broken off, or a line of it couldn't be put.
use Rattle.std.proofs.Common.{◌≡◌, ◌⊎◌, ℕ, suc, ◌+◌, ◌-◌, ◌<◌, Bool, true, false, List, [], ◌++◌, length, take, Option, Some, None, is_none, IfSome, Result, Ok, refl, sym, ap, subst, ◌∙◌}
use Rattle.std.specs.Prelude.{slice_get}
use Rattle.io_gate.specs.declared.streams.Failed.{Failed}
use Rattle.emu_model.specs.State.{Parts, State}
use Rattle.emu_system.specs.Start.{with_input}
use Rattle.emu_run.specs.Step.{step}
use Rattle.emu_run.specs.Run.{goes_on, until_end, run}
use Rattle.emu_run.specs.RunLaws.{step_behind, until_end_moves, until_end_none}
use Rattle.emu_machine.specs.Ends.{Becomes, IsKept, LeftOf, Puts, is_broken_off, is_undone}
use Rattle.emu_machine.specs.Machines.{MachineState}
use Rattle.emu_machine.specs.declared.ends.RunEnd.{RunEnd}
use Rattle.emu_machine.specs.declared.ends.RunEnd.TheVariants as runs
use Rattle.emu_machine.specs.declared.ends.StepEnd.{StepEnd}
use Rattle.emu_machine.specs.declared.ends.StepEnd.TheVariants as steps
use Rattle.dbg_model.specs.declared.script.Command.{Command}
use Rattle.dbg_model.specs.Session.{Points, no_points}
use Rattle.dbg_model.specs.Forward.{obeyed, session}
use Rattle.dbg_core.specs.declared.ends.SessionEnd.{SessionEnd}
use Rattle.dbg_core.specs.declared.ends.SessionEnd.TheVariants.{Done, ReadFault, WriteFault, ErrorsFault}
use Rattle.dbg_core.specs.Ends.{HaltsWith, Spares, StandsWith, is_fault, end_of_run, end_of_step, end_of_put}
use Rattle.emu_machine.proofs.Composed.{Came, Comes, comes_by, comes_same, comes_then, gains_more, gains_none}
use Rattle.emu_machine.proofs.Runs.{step_moving}
use Rattle.emu_machine.proofs.Spared.{each_way, either}
use Rattle.dbg_core.proofs.Leaving.{never, no_halt, one_more}
use Rattle.dbg_core.proofs.Obeying.{last_run, last_step, no_errs, no_read}
use Rattle.dbg_core.proofs.Sessions.{all_moving, obeyed_blind, obeyed_moving}
use Rattle.dbg_core.proofs.Standing.{points_all, next_of, seen_ends}

-- ---- what a sink gained

pub puts_same : (f g : State → List ℕ) (p : Parts) (told held_old held_new : Option (List ℕ)) → ((input : List ℕ) → f (with_input p input) ≡ g (with_input p input)) → Puts f p told held_old held_new false → Puts g p told held_old held_new false
puts_same f g p None held_old held_new same h = tt
puts_same f g p (Some bytes) None held_new same h = tt
puts_same f g p (Some bytes) (Some had) held_new same h = h ∙ ap (λ (l : List ℕ). Some (had ++ l)) (same bytes)

-- nothing came
pub errors_still : (p : Parts) (told errs : Option (List ℕ)) → Puts (λ st. st.errors) p told errs errs false
errors_still p None errs = tt
errors_still p (Some bytes) errs = gains_none false errs

-- ---- no step was broken off

pub spares_line : (f : State → State) (old : Parts) (new : MachineState) (told left ho hn eo en : Option (List ℕ)) (put : Result (Unit {0}) Failed) (end : SessionEnd) → end ≡ end_of_put put → new.failed ≡ false
    → Puts (λ st. (f st).errors) old told eo en false → Spares f old new told left ho hn eo en end
spares_line f old new told left ho hn eo en put end is fine whole = record {
  output =
      let Q : Type 0 = IfSome told (λ bytes. HaltsWith (λ st. st.output) (with_input old bytes) new.parts left ho hn) in
      either (end ≡ ReadFault) (end ≡ ErrorsFault) Q (no_read put end is Q) (no_errs put end is Q);
  errors = λ h _. never (IfSome told (λ bytes. HaltsWith (λ st. st.errors) (with_input old bytes) new.parts left eo en)) new.failed fine h;
  line = λ _. whole;
}

pub spares_still : (f : State → State) (now : MachineState) (told held errs : Option (List ℕ)) → now.failed ≡ false → Puts (λ st. (f st).errors) now.parts told errs errs false → Spares f now.parts now told told held held errs errs Done
spares_still f now told held errs fine whole = spares_line f now.parts now told told held held errs errs (Ok tt) Done refl fine whole

-- another function that puts the same to the errors
pub spares_same : (f g : State → State) (p : Parts) (m : MachineState) (told left ho hn eo en : Option (List ℕ)) (end : SessionEnd) → ((input : List ℕ) → (f (with_input p input)).errors ≡ (g (with_input p input)).errors)
    → Spares f p m told left ho hn eo en end → Spares g p m told left ho hn eo en end
spares_same f g p m told left ho hn eo en end same s = record {
  output = s.output;
  errors = s.errors;
  line = λ fine. puts_same (λ st. (f st).errors) (λ st. (g st).errors) p told eo en same (s.line fine);
}

-- ---- by a run

module _ (p q : Parts) (left ho hn : Option (List ℕ)) (b : Bool) (broken : b ≡ true) where
  run_halts : (put : State → List ℕ) (told : Option (List ℕ)) → IfSome told (λ bytes. b ≡ true → IsKept (run (with_input p bytes) q.steps).parts q (Some (run (with_input p bytes) q.steps).input) left)
      → Puts (λ st. put (run st q.steps)) p told ho hn false → IfSome told (λ bytes. HaltsWith put (with_input p bytes) q left ho hn)
  run_halts put None kept puts = tt
  run_halts put (Some bytes) kept puts = record { steps = q.steps - p.steps; kept = kept broken; gained = puts }

pub spares_run : (target : ℕ) (p : Parts) (new : MachineState) (told left ho hn eo en : Option (List ℕ)) (r : RunEnd) (end : SessionEnd) → end ≡ end_of_run r → new.failed ≡ is_broken_off r
    → IfSome told (λ bytes. is_broken_off r ≡ true → IsKept (run (with_input p bytes) new.parts.steps).parts new.parts (Some (run (with_input p bytes) new.parts.steps).input) left)
    → ((r ≡ runs.ReadFault) ⊎ (r ≡ runs.ErrorsFault) → Puts (λ st. (run st new.parts.steps).output) p told ho hn false)
    → ((r ≡ runs.ReadFault) ⊎ (r ≡ runs.WriteFault) → Puts (λ st. (run st new.parts.steps).errors) p told eo en false)
    → Puts (λ st. (run st target).errors) p told eo en (is_broken_off r)
    → Spares (λ st. run st target) p new told left ho hn eo en end
spares_run target p new told left ho hn eo en r end is failed kept output errors all =
    let of_output : (end ≡ ReadFault) ⊎ (end ≡ ErrorsFault) → (r ≡ runs.ReadFault) ⊎ (r ≡ runs.ErrorsFault) =
    each_way (end ≡ ReadFault) (end ≡ ErrorsFault) (r ≡ runs.ReadFault) (r ≡ runs.ErrorsFault) (λ e. last_run r ReadFault (sym is ∙ e)) (λ e. last_run r ErrorsFault (sym is ∙ e)) in
    let of_errors : (end ≡ ReadFault) ⊎ (end ≡ WriteFault) → (r ≡ runs.ReadFault) ⊎ (r ≡ runs.WriteFault) =
    each_way (end ≡ ReadFault) (end ≡ WriteFault) (r ≡ runs.ReadFault) (r ≡ runs.WriteFault) (λ e. last_run r ReadFault (sym is ∙ e)) (λ e. last_run r WriteFault (sym is ∙ e)) in
    record {
      output = λ h.
          let e = of_output h in
          let broken = either (r ≡ runs.ReadFault) (r ≡ runs.ErrorsFault) (is_broken_off r ≡ true) (λ x. ap is_broken_off x) (λ x. ap is_broken_off x) e in
          run_halts p new.parts left ho hn (is_broken_off r) broken (λ st. st.output) told kept (output e);
      errors = λ _ h.
          let e = of_errors h in
          let broken = either (r ≡ runs.ReadFault) (r ≡ runs.WriteFault) (is_broken_off r ≡ true) (λ x. ap is_broken_off x) (λ x. ap is_broken_off x) e in
          run_halts p new.parts left eo en (is_broken_off r) broken (λ st. st.errors) told kept (errors e);
      line = λ fine. subst (λ (b : Bool). Puts (λ st. (run st target).errors) p told eo en b) (sym failed ∙ fine) all;
    }

-- ---- where steps have come to, with what they put

pub record ComesWith (start : State) (now : Parts) (left ho hp eo ep : Option (List ℕ)) : Type 0 where
  pub count : ℕ
  pub came : Came (until_end start count) now [] left ho hp eo ep false

abbrev pub IsWith : Parts → Parts → Option (List ℕ) → Option (List ℕ) → Option (List ℕ) → Option (List ℕ) → Option (List ℕ) → Option (List ℕ) → Type 0
IsWith old now told left ho hp eo ep = IfSome told (λ bytes. ComesWith (with_input old bytes) now left ho hp eo ep)

started : (old : Parts) (bytes : List ℕ) (held errs : Option (List ℕ)) → Came (with_input old bytes) old [] (Some bytes) held held errs errs false
started old bytes held errs = record {
  state = λ _. (refl, refl);
  input = λ (h : false ≡ true). cc;
  output = gains_none false held;
  errors = gains_none false errs;
}

pub with_start : (old : Parts) (told held errs : Option (List ℕ)) → IsWith old old told told held held errs errs
with_start old None held errs = tt
with_start old (Some bytes) held errs = record {
  count = 0;
  came = subst (λ (s : State). Came s old [] (Some bytes) held held errs errs false) (sym (until_end_none (with_input old bytes))) (started old bytes held errs);
}

module _ (old p q : Parts) (left_p left_q ho hp hq eo ep eq : Option (List ℕ)) where
  came_of : (s : State) (bytes : List ℕ) → Came s q bytes left_q ho hq eo eq false → Came s q [] left_q ho hq eo eq false
  came_of s bytes c = record { state = c.state; input = λ (h : false ≡ true). cc; output = c.output; errors = c.errors }

  came_for : (s : State) (bytes : List ℕ) → Came s p [] left_p ho hp eo ep false → Came s p bytes left_p ho hp eo ep false
  came_for s bytes c = record { state = c.state; input = λ (h : false ≡ true). cc; output = c.output; errors = c.errors }

  -- a step was done
  pub with_next : (told : Option (List ℕ)) → is_none p.ended ≡ true → Comes step p q left_p left_q hp hq ep eq false → IsWith old p told left_p ho hp eo ep → IsWith old q told left_q ho hq eo eq
  with_next None going done here = tt
  with_next (Some bytes) going done here =
      let n : ℕ = here.count in
      let start : State = with_input old bytes in
      let two = comes_then (λ st. until_end st n) step old p q (Some bytes) left_p left_q ho hp hq eo ep eq false step_behind (λ st. until_end_moves st n) step_moving (came_for (until_end start n) bytes here.came) done in
      let goes : goes_on (until_end start n) ≡ true = ap (λ (m : Parts). is_none m.ended) (sym (here.came.state refl).0) ∙ going in
      record {
        count = suc n;
        came = subst (λ (s : State). Came s q [] left_q ho hq eo eq false) (sym (one_more start n goes)) (came_of (step (until_end start n)) bytes two);
      }

  -- the next step was broken off
  module _ (kept : IsKept p q left_p left_q) where
    output_halts : (told : Option (List ℕ)) → hq ≡ hp → IsWith old p told left_p ho hp eo ep → IfSome told (λ bytes. HaltsWith (λ st. st.output) (with_input old bytes) q left_q ho hq)
    output_halts None same here = tt
    output_halts (Some bytes) same here =
        let s : State = until_end (with_input old bytes) here.count in
        let d = here.came.state refl in
        record {
          steps = here.count;
          kept = subst (λ (t : Option (List ℕ)). IsKept s.parts q t left_q) d.1 (subst (λ (m : Parts). IsKept m q left_p left_q) d.0 kept);
          gained = subst (λ (h : Option (List ℕ)). IfSome ho (λ had. h ≡ Some (had ++ s.output))) (sym same) here.came.output;
        }

    errors_halts : (told : Option (List ℕ)) → eq ≡ ep → IsWith old p told left_p ho hp eo ep → IfSome told (λ bytes. HaltsWith (λ st. st.errors) (with_input old bytes) q left_q eo eq)
    errors_halts None same here = tt
    errors_halts (Some bytes) same here =
        let s : State = until_end (with_input old bytes) here.count in
        let d = here.came.state refl in
        record {
          steps = here.count;
          kept = subst (λ (t : Option (List ℕ)). IsKept s.parts q t left_q) d.1 (subst (λ (m : Parts). IsKept m q left_p left_q) d.0 kept);
          gained = subst (λ (h : Option (List ℕ)). IfSome eo (λ had. h ≡ Some (had ++ s.errors))) (sym same) here.came.errors;
        }

pub spares_step : (f : State → State) (old p : Parts) (new : MachineState) (told left_p left_q ho hp hq eo ep eq : Option (List ℕ)) (r : StepEnd) (end : SessionEnd) → end ≡ end_of_step r → is_undone r ≡ true → new.failed ≡ is_undone r
    → IsWith old p told left_p ho hp eo ep → (is_undone r ≡ true → IsKept p new.parts left_p left_q)
    → ((r ≡ steps.ReadFault) ⊎ (r ≡ steps.ErrorsFault) → hq ≡ hp) → ((r ≡ steps.ReadFault) ⊎ (r ≡ steps.WriteFault) → eq ≡ ep) → Spares f old new told left_q ho hq eo eq end
spares_step f old p new told left_p left_q ho hp hq eo ep eq r end is undone failed here kept output errors = record {
  output = λ h. output_halts old p new.parts left_p left_q ho hp hq eo ep eq (kept undone) told
      (output (each_way (end ≡ ReadFault) (end ≡ ErrorsFault) (r ≡ steps.ReadFault) (r ≡ steps.ErrorsFault) (λ e. last_step r ReadFault (sym is ∙ e)) (λ e. last_step r ErrorsFault (sym is ∙ e)) h)) here;
  errors = λ _ h. errors_halts old p new.parts left_p left_q ho hp hq eo ep eq (kept undone) told
      (errors (each_way (end ≡ ReadFault) (end ≡ WriteFault) (r ≡ steps.ReadFault) (r ≡ steps.WriteFault) (λ e. last_step r ReadFault (sym is ∙ e)) (λ e. last_step r WriteFault (sym is ∙ e)) h)) here;
  line = λ fine. never (Puts (λ st. (f st).errors) old told eo eq false) new.failed fine (failed ∙ undone);
}

-- ---- behind the commands that were obeyed so far

-- a fault that no line has is that of a step
pub failed_by : (failed : Bool) (end : SessionEnd) → (failed ≡ false → is_fault end ≡ true → end ≡ WriteFault) → (end ≡ ReadFault) ⊎ (end ≡ ErrorsFault) → failed ≡ true
failed_by true end line h = refl
failed_by false ReadFault line h = let e : ReadFault ≡ WriteFault = line refl refl in cc
failed_by false ErrorsFault line h = let e : ErrorsFault ≡ WriteFault = line refl refl in cc
failed_by false Done line h = either (Done ≡ ReadFault) (Done ≡ ErrorsFault) (false ≡ true) (λ (e : Done ≡ ReadFault). cc) (λ (e : Done ≡ ErrorsFault). cc) h
failed_by false WriteFault line h = either (WriteFault ≡ ReadFault) (WriteFault ≡ ErrorsFault) (false ≡ true) (λ (e : WriteFault ≡ ReadFault). cc) (λ (e : WriteFault ≡ ErrorsFault). cc) h

-- broken off behind what led to s
halts_behind : (put : State → List ℕ) (so_far : List ℕ) (s : State) (q : Parts) (left_q ho hp hq : Option (List ℕ)) → ((k : ℕ) → put (until_end s k) ≡ so_far ++ put (until_end (with_input s.parts s.input) k))
    → IfSome ho (λ had. hp ≡ Some (had ++ so_far)) → HaltsWith put (with_input s.parts s.input) q left_q hp hq → HaltsWith put s q left_q ho hq
halts_behind put so_far s q left_q ho hp hq split before h = record {
  steps = h.steps;
  kept = subst (λ (t : State). IsKept t.parts q (Some t.input) left_q) (sym (seen_ends s h.steps)) h.kept;
  gained = gains_more false ho hp hq so_far (put (until_end (with_input s.parts s.input) h.steps)) (put (until_end s h.steps)) (split h.steps) before h.gained;
}

module _ (script : List Command) (first budget : ℕ) (old p : Parts) (new : MachineState) (left_p left_q ho hp hq eo ep eq : Option (List ℕ)) (failed : new.failed ≡ true) where
  halts_in : (put : State → List ℕ) (s : State) → p ≡ s.parts → left_p ≡ Some s.input → (h0 h1 : Option (List ℕ)) → IfSome left_p (λ input. HaltsWith put (with_input p input) new.parts left_q h0 h1) → HaltsWith put (with_input s.parts s.input) new.parts left_q h0 h1
  halts_in put s parts input h0 h1 h =
      let here : IfSome (Some s.input) (λ i. HaltsWith put (with_input p i) new.parts left_q h0 h1) = subst (λ (t : Option (List ℕ)). IfSome t (λ i. HaltsWith put (with_input p i) new.parts left_q h0 h1)) input h in
      subst (λ (m : Parts). HaltsWith put (with_input m s.input) new.parts left_q h0 h1) parts here

  pub output_stands : (told : Option (List ℕ)) → Comes (session (take first script) budget) old p told left_p ho hp eo ep false → IfSome left_p (λ input. HaltsWith (λ st. st.output) (with_input p input) new.parts left_q hp hq)
      → IfSome told (λ bytes. StandsWith (λ st. st.output) script budget (with_input old bytes) new left_q ho hq)
  output_stands None c h = tt
  output_stands (Some bytes) c h =
      let s : State = session (take first script) budget (with_input old bytes) in
      let d = c.state refl in
      let k = halts_behind (λ st. st.output) s.output s new.parts left_q ho hp hq (λ n. ap (λ (t : State). t.output) (seen_ends s n)) c.output (halts_in (λ st. st.output) s d.0 d.1 hp hq h) in
      record { first = first; steps = k.steps; whole = λ fine. never ((k.steps ≡ 0) × (new.parts ≡ s.parts)) new.failed fine failed; kept = λ _. k.kept; gained = k.gained }

  pub errors_stands : (told : Option (List ℕ)) → Comes (session (take first script) budget) old p told left_p ho hp eo ep false → IfSome left_p (λ input. HaltsWith (λ st. st.errors) (with_input p input) new.parts left_q ep eq)
      → IfSome told (λ bytes. StandsWith (λ st. st.errors) script budget (with_input old bytes) new left_q eo eq)
  errors_stands None c h = tt
  errors_stands (Some bytes) c h =
      let s : State = session (take first script) budget (with_input old bytes) in
      let d = c.state refl in
      let k = halts_behind (λ st. st.errors) s.errors s new.parts left_q eo ep eq (λ n. ap (λ (t : State). t.errors) (seen_ends s n)) c.errors (halts_in (λ st. st.errors) s d.0 d.1 ep eq h) in
      record { first = first; steps = k.steps; whole = λ fine. never ((k.steps ≡ 0) × (new.parts ≡ s.parts)) new.failed fine failed; kept = λ _. k.kept; gained = k.gained }

-- a line wasn't put
line_stands : (script : List Command) (first budget : ℕ) (old : Parts) (new : MachineState) (told left eo en : Option (List ℕ)) → new.failed ≡ false → Comes (session (take first script) budget) old new.parts told left None None eo en false
    → IfSome told (λ bytes. StandsWith (λ st. st.errors) script budget (with_input old bytes) new left eo en)
line_stands script first budget old new None left eo en fine c = tt
line_stands script first budget old new (Some bytes) left eo en fine c =
    let s : State = session (take first script) budget (with_input old bytes) in
    record {
      first = first;
      steps = 0;
      whole = λ _. (refl, (c.state refl).0);
      kept = λ h. never (IsKept (until_end s 0).parts new.parts (Some (until_end s 0).input) left) new.failed fine h;
      gained = subst (λ (t : State). IfSome eo (λ had. en ≡ Some (had ++ t.errors))) (sym (until_end_none s)) c.errors;
    }

no_puts : (f : State → List ℕ) (p : Parts) (told : Option (List ℕ)) → Puts f p told None None false
no_puts f p None = tt
no_puts f p (Some bytes) = tt

-- whatever came to the output
errors_alone : (f : State → State) (p q : Parts) (told left hp hq ep eq : Option (List ℕ)) → Comes f p q told left hp hq ep eq false → Comes f p q told left None None ep eq false
errors_alone f p q None left hp hq ep eq c = tt
errors_alone f p q (Some bytes) left hp hq ep eq c = record { state = c.state; input = c.input; output = tt; errors = c.errors }

module _ (script : List Command) (k : ℕ) (command : Command) (is : slice_get script k ≡ Some command) (within : k < length script) (points : Points) (so_far : points ≡ points_all (take k script) no_points) (budget : ℕ) (old p : Parts) (told left_p : Option (List ℕ))
    (stood : Becomes (session (take k script) budget) old p told left_p false) where
  -- the command was obeyed
  pub comes_next : (q : Parts) (left_q ho hp hq eo ep eq : Option (List ℕ)) → Comes (session (take k script) budget) old p told left_p ho hp eo ep false → Comes (obeyed command points budget) p q left_p left_q hp hq ep eq false
      → Comes (session (take (k + 1) script) budget) old q told left_q ho hq eo eq false
  comes_next q left_q ho hp hq eo ep eq c d =
      comes_same (λ st. obeyed command points budget (session (take k script) budget st)) (session (take (k + 1) script) budget) old q told left_q ho hq eo eq false
      (λ input. next_of script k command is within points so_far budget old p told left_p stood (with_input old input))
      (comes_then (session (take k script) budget) (obeyed command points budget) old p q told left_p left_q ho hp hq eo ep eq false (obeyed_blind command points budget) (all_moving (take k script) no_points budget) (obeyed_moving command points budget) c d)

  module _ (new : MachineState) (left_q ho hp hq eo ep eq : Option (List ℕ)) (end : SessionEnd) (whole : Comes (session (take k script) budget) old p told left_p ho hp eo ep false)
      (becomes : Becomes (obeyed command points budget) p new.parts left_p left_q new.failed) (spared : Spares (obeyed command points budget) p new left_p left_q hp hq ep eq end) where
    -- it was broken off: the output
    pub output_broken : new.failed ≡ true → (end ≡ ReadFault) ⊎ (end ≡ ErrorsFault) → IfSome told (λ bytes. StandsWith (λ st. st.output) script budget (with_input old bytes) new left_q ho hq)
    output_broken failed h = output_stands script k budget old p new left_p left_q ho hp hq eo ep eq failed told whole (spared.output h)

    -- and the errors, also where a line of it wasn't put
    pub errors_broken : (end ≡ ReadFault) ⊎ (end ≡ WriteFault) → IfSome told (λ bytes. StandsWith (λ st. st.errors) script budget (with_input old bytes) new left_q eo eq)
    errors_broken h =
        elim new.failed as (λ b. new.failed ≡ b → IfSome told (λ bytes. StandsWith (λ st. st.errors) script budget (with_input old bytes) new left_q eo eq)) [
          | true ↦ λ failed. errors_stands script k budget old p new left_p left_q ho hp hq eo ep eq failed told whole (spared.errors failed h)
          | false ↦ λ fine.
              let r : State → State = obeyed command points budget in
              let state : Becomes r p new.parts left_p left_q false = subst (λ (b : Bool). Becomes r p new.parts left_p left_q b) fine becomes in
              let d : Comes r p new.parts left_p left_q None None ep eq false =
              comes_by r p new.parts left_p left_q None None ep eq false false refl state (no_halt (λ bytes. LeftOf bytes (length (r (with_input p bytes)).input) left_q) left_p false refl)
              (no_puts (λ st. (r st).output) p left_p) (spared.line fine) in
              line_stands script (k + 1) budget old new told left_q eo eq fine
              (comes_next new.parts left_q None None None eo ep eq (errors_alone (session (take k script) budget) old p told left_p ho hp eo ep whole) d)
        ] refl
