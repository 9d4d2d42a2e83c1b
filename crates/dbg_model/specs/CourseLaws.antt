-- How the course of a session goes from step to step, and that its machine is always one that the run from the start
-- passes.
use Rattle.std.specs.Prelude.{◌≡◌, ◌<◌, ◌≤◌, ◌⊎◌, ℕ, zero, suc, ◌+◌, ◌-◌, ◌%◌, min, Bool, true, false, List, [], ◌∷◌, ◌++◌, Option, Some, None, is_none, nat_eq, nat_lt, if◌then◌else◌}
use Rattle.std.proofs.Common.{inl, inr, refl, sym, ap, ◌∙◌, append-nil, arith, zero-add}
use Rattle.std.proofs.lemmas.Bool.Decides.{nat_tests}
use Rattle.emu_model.specs.declared.access.Kind.TheVariants.{Fetch as FetchKind}
use Rattle.emu_model.specs.declared.trap.TrapKind.TheVariants.{PcAlign}
use Rattle.emu_model.specs.declared.trap.Effect.{Effect}
use Rattle.emu_model.specs.declared.trap.Effect.TheVariants.{Next, Branch, Call, Trap as Trapping}
use Rattle.emu_model.specs.Access.{Memory, refused, value}
use Rattle.emu_model.specs.Done.{Done}
use Rattle.emu_model.specs.State.{Core, Vectors, Parts, State}
use Rattle.emu_system.specs.SystemCall.{Action, fails, answers, maps, moves_break, sets_length, takes, puts, exits, Stepped, action, call_done, quiet}
use Rattle.emu_run.specs.declared.insn.Insn.{Insn}
use Rattle.emu_run.specs.Step.{accesses, decode, executed, fetched, finished, performed, step, trapped, step_from}
use Rattle.emu_run.specs.Run.{goes_on, until_end}
use Rattle.emu_run.specs.RunLaws.{until_end_none, until_end_one, until_end_over}
use Rattle.emu_run.specs.Steps.{until_end_added}
use Rattle.dbg_model.specs.declared.script.Command.{Command}
use Rattle.dbg_model.specs.declared.script.Command.TheVariants.{Step, Go, Break, Watch, Regs, Vl, Zreg, Preg, Ffr, Lanes, Mem, Back}
use Rattle.dbg_model.specs.declared.script.Stop.{Stop}
use Rattle.dbg_model.specs.Reached.{same_input, same_parts, same_seen}
use Rattle.dbg_model.specs.Session.{Points, no_points, point_met, with_point, command_text, stepped_text, stop_line, Course, begun, ended_line, go, walked, moved_to, obeyed, obeyed_all, printed, session, stepped, stopped_or, went_back}
use Rattle.dbg_model.specs.SessionEquations.{go-suc, go-zero, walked-suc, walked-zero}

-- ---- a step counts, or it ends the machine and puts nothing

pub record IsUncounted (m : Parts) (t : Stepped) : Type 0 where
  pub steps : t.parts.steps ≡ m.steps
  pub output : t.output ≡ []
  pub errors : t.errors ≡ []
  pub ended : is_none t.parts.ended ≡ false

abbrev pub CountsOrNot : Parts → Stepped → Type 0
CountsOrNot m t = (t.parts.steps ≡ m.steps + 1) ⊎ IsUncounted m t

done_counts : (a : Action) (m : Parts) (input : List ℕ) → CountsOrNot m (call_done a m input)
done_counts (fails e) m input = inl refl
done_counts (answers v) m input = inl refl
done_counts (maps memory v) m input = inl refl
done_counts (moves_break memory to) m input = inl refl
done_counts (sets_length bits) m input = inl refl
done_counts (takes ranges) m input = inl refl
done_counts (puts file ranges) m input = inl refl
done_counts (exits code) m input = inl refl

finished_counts : (m : Parts) (input : List ℕ) (c : Core) (v : Vectors) (memory : Memory) (e : Effect) → CountsOrNot m (finished m input c v memory e)
finished_counts m input c v memory Next = inl refl
finished_counts m input c v memory (Branch a) = inl refl
finished_counts m input c v memory Call = done_counts (action m) m input
finished_counts m input c v memory (Trapping t) = inr (record { steps = refl; output = refl; errors = refl; ended = refl })

executed_counts : (m : Parts) (input : List ℕ) (i : Option Insn) → CountsOrNot m (executed m input i)
executed_counts m input None = inr (record { steps = refl; output = refl; errors = refl; ended = refl })
executed_counts m input (Some i) =
    let d : Done = performed i m.core m.vectors m.memory in
    finished_counts m input d.core d.vectors d.memory d.effect

fetched_counts : (m : Parts) (input : List ℕ) (o : Option ℕ) → CountsOrNot m (fetched m input o)
fetched_counts m input (Some a) = inr (record { steps = refl; output = refl; errors = refl; ended = refl })
fetched_counts m input None = executed_counts m input (decode (value m.memory m.core.pc 4))

pub turn_counts : (m : Parts) (input : List ℕ) → CountsOrNot m (step_from m input)
turn_counts m input =
    elim (nat_eq (m.core.pc % 4) 0) as (λ b. CountsOrNot m (if b then fetched m input (refused m.memory m.core.pc 4 FetchKind) else quiet (trapped m PcAlign m.core.pc) input)) [
      | true ↦ fetched_counts m input (refused m.memory m.core.pc 4 FetchKind)
      | false ↦ inr (record { steps = refl; output = refl; errors = refl; ended = refl })
    ]

-- at most one
pub step_most : (st : State) → (step st).parts.steps ≤ st.parts.steps + 1
step_most st =
    elim (turn_counts st.parts st.input) as (λ _. (step st).parts.steps ≤ st.parts.steps + 1) [
      | inl one ↦ omega (arith, one)
      | inr none ↦ let same = none.steps in omega (arith, same)
    ]

pub step_least : (st : State) → st.parts.steps ≤ (step st).parts.steps
step_least st =
    elim (turn_counts st.parts st.input) as (λ _. st.parts.steps ≤ (step st).parts.steps) [
      | inl one ↦ omega (arith, one)
      | inr none ↦ let same = none.steps in omega (arith, same)
    ]

-- ---- the machine and the input of another state

pub moved_same : (a b st : State) → a.parts ≡ b.parts → a.input ≡ b.input → moved_to a st ≡ moved_to b st
moved_same a b st parts input =
    ap (λ (m : Parts). record { parts = m; input = a.input; output = st.output; errors = st.errors }) parts
    ∙ ap (λ (i : List ℕ). record { parts = b.parts; input = i; output = st.output; errors = st.errors }) input

-- steps don't look at what was written
pub until_parts : (a b : State) (k : ℕ) → a.parts ≡ b.parts → a.input ≡ b.input → (until_end a k).parts ≡ (until_end b k).parts
until_parts a b k parts input = same_parts a b k (same_seen a b parts input)

pub until_input : (a b : State) (k : ℕ) → a.parts ≡ b.parts → a.input ≡ b.input → (until_end a k).input ≡ (until_end b k).input
until_input a b k parts input = same_input a b k (same_seen a b parts input)

-- ---- one step of a course

abbrev either_step : Bool → Course → Course
either_step b c = if b then record { state = step c.state; top = (step c.state).parts.steps } else record { state = moved_to (step c.state) c.state; top = c.top }

-- from the furthest count on
pub stepped_beyond : (c : Course) → c.top ≡ c.state.parts.steps → stepped c ≡ record { state = step c.state; top = (step c.state).parts.steps }
stepped_beyond c at =
    let t : Stepped = step_from c.state.parts c.state.input in
    elim (turn_counts c.state.parts c.state.input) as (λ _. stepped c ≡ record { state = step c.state; top = (step c.state).parts.steps }) [
      | inl one ↦
          let beyond : nat_lt c.top (step c.state).parts.steps ≡ true = grind (arith, nat_tests, at, one) in
          ap (λ (b : Bool). either_step b c) beyond
      | inr none ↦
          let same : (step c.state).parts.steps ≡ c.state.parts.steps = none.steps in
          let not_beyond : nat_lt c.top (step c.state).parts.steps ≡ false = grind (arith, nat_tests, at, same) in
          let output : c.state.output ≡ c.state.output ++ t.output = sym (append-nil c.state.output) ∙ ap (λ (l : List ℕ). c.state.output ++ l) (sym none.output) in
          let errors : c.state.errors ≡ c.state.errors ++ t.errors = sym (append-nil c.state.errors) ∙ ap (λ (l : List ℕ). c.state.errors ++ l) (sym none.errors) in
          ap (λ (b : Bool). either_step b c) not_beyond
          ∙ ap (λ (n : ℕ). record { state = moved_to (step c.state) c.state; top = n }) (at ∙ sym same)
          ∙ ap (λ (o : List ℕ). record { state = record { parts = t.parts; input = t.input; output = o; errors = c.state.errors }; top = t.parts.steps }) output
          ∙ ap (λ (e : List ℕ). record { state = record { parts = t.parts; input = t.input; output = c.state.output ++ t.output; errors = e }; top = t.parts.steps }) errors
    ]

-- below it
pub stepped_below : (c : Course) → c.state.parts.steps < c.top → stepped c ≡ record { state = moved_to (step c.state) c.state; top = c.top }
stepped_below c below =
    let most = step_most c.state in
    let not_beyond : nat_lt c.top (step c.state).parts.steps ≡ false = grind (arith, nat_tests, below, most) in
    ap (λ (b : Bool). either_step b c) not_beyond

either_parts : (b : Bool) (c : Course) → (either_step b c).state.parts ≡ (step c.state).parts
either_parts true c = refl
either_parts false c = refl

either_input : (b : Bool) (c : Course) → (either_step b c).state.input ≡ (step c.state).input
either_input true c = refl
either_input false c = refl

pub stepped_parts : (c : Course) → (stepped c).state.parts ≡ (step c.state).parts
stepped_parts c = either_parts (nat_lt c.top (step c.state).parts.steps) c

pub stepped_input : (c : Course) → (stepped c).state.input ≡ (step c.state).input
stepped_input c = either_input (nat_lt c.top (step c.state).parts.steps) c

-- ---- steps and then steps

pub moved_one : (c : Course) (k : ℕ) → goes_on c.state ≡ true → walked c (suc k) ≡ walked (stepped c) k
moved_one c k going = walked-suc c k ∙ ap (λ (b : Bool). if b then walked (stepped c) k else c) going

pub moved_over : (c : Course) (k : ℕ) → goes_on c.state ≡ false → walked c k ≡ c
moved_over c zero over = walked-zero c
moved_over c (suc k) over = walked-suc c k ∙ ap (λ (b : Bool). if b then walked (stepped c) k else c) over

pub moved_added : (j k : ℕ) (c : Course) → walked c (j + k) ≡ walked (walked c j) k
moved_added zero k c = ap (walked c) (zero-add k) ∙ ap (λ (d : Course). walked d k) (sym (walked-zero c))
moved_added (suc j) k c =
    elim (goes_on c.state) as (λ b. goes_on c.state ≡ b → walked c (suc j + k) ≡ walked (walked c (suc j)) k) [
      | true ↦ λ h.
          let e : suc j + k ≡ suc (j + k) = omega arith in
          ap (walked c) e ∙ moved_one c (j + k) h ∙ moved_added j k (stepped c) ∙ ap (λ (d : Course). walked d k) (sym (moved_one c j h))
      | false ↦ λ h. moved_over c (suc j + k) h ∙ sym (moved_over c k h) ∙ ap (λ (d : Course). walked d k) (sym (moved_over c (suc j) h))
    ] refl

-- from the furthest count on they are those of a run
pub moved_beyond : (k : ℕ) (c : Course) → c.top ≡ c.state.parts.steps → walked c k ≡ record { state = until_end c.state k; top = (until_end c.state k).parts.steps }
moved_beyond zero c at =
    walked-zero c
    ∙ ap (λ (n : ℕ). record { state = c.state; top = n }) at
    ∙ ap (λ (s : State). record { state = s; top = s.parts.steps }) (sym (until_end_none c.state))
moved_beyond (suc k) c at =
    elim (goes_on c.state) as (λ b. goes_on c.state ≡ b → walked c (suc k) ≡ record { state = until_end c.state (suc k); top = (until_end c.state (suc k)).parts.steps }) [
      | true ↦ λ h.
          moved_one c k h
          ∙ ap (λ (d : Course). walked d k) (stepped_beyond c at)
          ∙ moved_beyond k (record { state = step c.state; top = (step c.state).parts.steps }) refl
          ∙ ap (λ (s : State). record { state = s; top = s.parts.steps }) (sym (until_end_one c.state k h))
      | false ↦ λ h.
          moved_over c (suc k) h
          ∙ ap (λ (n : ℕ). record { state = c.state; top = n }) at
          ∙ ap (λ (s : State). record { state = s; top = s.parts.steps }) (sym (until_end_over c.state (suc k) h))
    ] refl

-- up to it they put nothing of the program
pub moved_below : (k : ℕ) (c : Course) → c.state.parts.steps + k ≤ c.top → walked c k ≡ record { state = moved_to (until_end c.state k) c.state; top = c.top }
moved_below zero c within =
    walked-zero c ∙ ap (λ (s : State). record { state = moved_to s c.state; top = c.top }) (sym (until_end_none c.state))
moved_below (suc k) c within =
    elim (goes_on c.state) as (λ b. goes_on c.state ≡ b → walked c (suc k) ≡ record { state = moved_to (until_end c.state (suc k)) c.state; top = c.top }) [
      | true ↦ λ h.
          let next : State = moved_to (step c.state) c.state in
          let most = step_most c.state in
          let below : c.state.parts.steps < c.top = omega (arith, within) in
          let rest : next.parts.steps + k ≤ c.top = omega (arith, within, most) in
          moved_one c k h
          ∙ ap (λ (d : Course). walked d k) (stepped_below c below)
          ∙ moved_below k (record { state = next; top = c.top }) rest
          ∙ ap (λ (s : State). record { state = s; top = c.top })
          (moved_same (until_end next k) (until_end (step c.state) k) c.state (until_parts next (step c.state) k refl refl) (until_input next (step c.state) k refl refl))
          ∙ ap (λ (s : State). record { state = moved_to s c.state; top = c.top }) (sym (until_end_one c.state k h))
      | false ↦ λ h.
          moved_over c (suc k) h ∙ ap (λ (s : State). record { state = moved_to s c.state; top = c.top }) (sym (until_end_over c.state (suc k) h))
    ] refl

-- ---- the run from the start

-- a machine, and what is left of its input, that the run from the start passes
pub record IsOn (start now : State) : Type 0 where
  pub count : ℕ
  pub parts : now.parts ≡ (until_end start count).parts
  pub input : now.input ≡ (until_end start count).input

pub on_start : (start : State) → IsOn start start
on_start start = record {
  count = 0;
  parts = ap (λ (s : State). s.parts) (sym (until_end_none start));
  input = ap (λ (s : State). s.input) (sym (until_end_none start));
}

pub on_same : (start a b : State) → b.parts ≡ a.parts → b.input ≡ a.input → IsOn start a → IsOn start b
on_same start a b parts input p = record { count = p.count; parts = parts ∙ p.parts; input = input ∙ p.input }

pub on_until : (start st : State) (k : ℕ) → IsOn start st → IsOn start (until_end st k)
on_until start st k p = record {
  count = p.count + k;
  parts = until_parts st (until_end start p.count) k p.parts p.input ∙ ap (λ (s : State). s.parts) (until_end_added p.count k start);
  input = until_input st (until_end start p.count) k p.parts p.input ∙ ap (λ (s : State). s.input) (until_end_added p.count k start);
}

-- one step
until_one : (st : State) → goes_on st ≡ true → until_end st 1 ≡ step st
until_one st going = until_end_one st 0 going ∙ until_end_none (step st)

pub on_step : (start : State) (c : Course) → goes_on c.state ≡ true → IsOn start c.state → IsOn start (stepped c).state
on_step start c going p =
    let one = until_one c.state going in
    on_same start (until_end c.state 1) (stepped c).state
    (stepped_parts c ∙ ap (λ (s : State). s.parts) (sym one))
    (stepped_input c ∙ ap (λ (s : State). s.input) (sym one))
    (on_until start c.state 1 p)

pub on_moved : (start : State) (k : ℕ) (c : Course) → IsOn start c.state → IsOn start (walked c k).state
on_moved start zero c p = rw (walked-zero c) p
on_moved start (suc k) c p =
    elim (goes_on c.state) as (λ b. goes_on c.state ≡ b → IsOn start (walked c (suc k)).state) [
      | true ↦ λ h. rw (moved_one c k h) (on_moved start k (stepped c) (on_step start c h p))
      | false ↦ λ h. rw (moved_over c (suc k) h) p
    ] refl

pub on_put : (start : State) (text : Parts → List ℕ) (c : Course) → IsOn start c.state → IsOn start (printed text c).state
on_put start text c p = record { count = p.count; parts = p.parts; input = p.input }

on_stop : (start : State) (stop : Option Stop) (c d : Course) → IsOn start c.state → IsOn start d.state → IsOn start (stopped_or stop c d).state
on_stop start None c d here there = there
on_stop start (Some stop) c d here there = on_put start (stop_line stop) c here

on_go : (start : State) (points : Points) (k : ℕ) (c : Course) → IsOn start c.state → IsOn start (go points c k).state
on_go start points zero c p = rw (go-zero points c) (on_put start ended_line c p)
on_go start points (suc k) c p =
    rw (go-suc points c k) (elim (goes_on c.state) as (λ b. goes_on c.state ≡ b → IsOn start (if b then stopped_or (point_met points (accesses c.state.parts) (stepped c).state.parts) (stepped c) (go points (stepped c) k) else printed ended_line c).state) [
      | true ↦ λ h.
          let next = on_step start c h p in
          on_stop start (point_met points (accesses c.state.parts) (stepped c).state.parts) (stepped c) (go points (stepped c) k) next (on_go start points k (stepped c) next)
      | false ↦ λ h. on_put start ended_line c p
    ] refl)

pub on_back : (start : State) (k : ℕ) (c : Course) → IsOn start (went_back start k c).state
on_back start k c = record { count = c.state.parts.steps - k; parts = refl; input = refl }

pub on_obeyed : (start : State) (command : Command) (points : Points) (budget : ℕ) (c : Course) → IsOn start c.state → IsOn start (obeyed start command points budget c).state
on_obeyed start (Step n) points budget c p =
    on_put start (stepped_text (c.state.parts.steps + n)) (walked c (min (c.state.parts.steps + n) budget - c.state.parts.steps)) (on_moved start (min (c.state.parts.steps + n) budget - c.state.parts.steps) c p)
on_obeyed start Go points budget c p = on_go start points (budget - c.state.parts.steps) c p
on_obeyed start (Break address) points budget c p = on_put start (command_text (Break address)) c p
on_obeyed start (Watch address count) points budget c p = on_put start (command_text (Watch address count)) c p
on_obeyed start Regs points budget c p = on_put start (command_text Regs) c p
on_obeyed start Vl points budget c p = on_put start (command_text Vl) c p
on_obeyed start (Zreg k) points budget c p = on_put start (command_text (Zreg k)) c p
on_obeyed start (Preg k) points budget c p = on_put start (command_text (Preg k)) c p
on_obeyed start Ffr points budget c p = on_put start (command_text Ffr) c p
on_obeyed start (Lanes k size) points budget c p = on_put start (command_text (Lanes k size)) c p
on_obeyed start (Mem address count) points budget c p = on_put start (command_text (Mem address count)) c p
on_obeyed start (Back k) points budget c p = on_back start k c

on_all : (start : State) (commands : List Command) (points : Points) (budget : ℕ) (c : Course) → IsOn start c.state → IsOn start (obeyed_all start commands points budget c).state
on_all start [] points budget c p = p
on_all start (command ∷ commands) points budget c p =
    on_all start commands (with_point command points) budget (obeyed start command points budget c) (on_obeyed start command points budget c p)

pub sessions_are_on : (commands : List Command) (budget : ℕ) (start : State) → IsOn start (session commands budget start)
sessions_are_on commands budget start = on_all start commands no_points budget (begun start) (on_start start)
