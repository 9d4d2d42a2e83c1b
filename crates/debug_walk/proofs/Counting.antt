-- A machine that the run from the start passes before another goes on, and has counted as many steps as led to it.
use Rattle.std.proofs.Common.{◌≡◌, ◌≤◌, ◌<◌, ℕ, zero, suc, ◌+◌, ◌-◌, ◌%◌, true, false, List, Option, Some, None, is_none, nat_eq, if◌then◌else◌, inl, inr, refl, sym, ap, ◌∙◌, arith}
use Rattle.emu_model.specs.declared.access.Kind.TheVariants.{Fetch as FetchKind}
use Rattle.emu_model.specs.declared.trap.Ended.{Ended}
use Rattle.emu_model.specs.declared.trap.Ended.TheVariants.{Exit, Trap}
use Rattle.emu_model.specs.declared.trap.TrapKind.TheVariants.{PcAlign}
use Rattle.emu_model.specs.declared.trap.Effect.{Effect}
use Rattle.emu_model.specs.declared.trap.Effect.TheVariants.{Next, Branch, Call, Trap as Trapping}
use Rattle.emu_model.specs.Access.{Memory, refused, value}
use Rattle.emu_model.specs.Done.{Done}
use Rattle.emu_model.specs.State.{Core, Vectors, Parts, State}
use Rattle.emu_system.specs.SystemCall.{Action, fails, answers, maps, moves_break, sets_length, takes, puts, exits, Stepped, action, call_done, quiet}
use Rattle.emu_run.specs.declared.insn.Insn.{Insn}
use Rattle.emu_run.specs.Step.{decode, executed, fetched, finished, performed, step, trapped, step_from}
use Rattle.emu_run.specs.Run.{goes_on, until_end}
use Rattle.emu_run.specs.RunLaws.{until_end_none, until_end_one, until_end_over}
use Rattle.emu_run.specs.Steps.{again}
use Rattle.dbg_model.specs.CourseLaws.{step_most}
use Rattle.dbg_model.specs.Reached.{until_end_counts}
use Rattle.dbg_model.specs.Session.{Course}
use Rattle.emu_machine.specs.Machines.{MachineState}
use Rattle.dbg_back.specs.declared.trail.Trail.{Trail}
use Rattle.dbg_back.specs.Walks.{IsWalk}
use Rattle.debug_walk.specs.Walks.{machines_before, trap_count}

-- the counted steps, and one more behind a trap
abbrev pub places_before : Parts → ℕ
places_before m = m.steps + trap_count m.ended

none_trapped : (e : Option Ended) → is_none e ≡ true → trap_count e ≡ 0
none_trapped None going = refl
none_trapped (Some x) going = cc

pub trap_most : (e : Option Ended) → trap_count e ≤ 1
trap_most None = omega arith
trap_most (Some (Exit code)) = omega arith
trap_most (Some (Trap trap)) = omega arith

-- ---- a step that ends the machine by a trap isn't counted

module _ (m : Parts) (none : trap_count m.ended ≡ 0) where
  abbrev OneMore : Stepped → Type 0
  OneMore t = places_before t.parts ≤ m.steps + 1

  done_more : (a : Action) (input : List ℕ) → OneMore (call_done a m input)
  done_more (fails e) input = omega (arith, none)
  done_more (answers v) input = omega (arith, none)
  done_more (maps memory v) input = omega (arith, none)
  done_more (moves_break memory to) input = omega (arith, none)
  done_more (sets_length bits) input = omega (arith, none)
  done_more (takes ranges) input = omega (arith, none)
  done_more (puts file ranges) input = omega (arith, none)
  done_more (exits code) input = omega arith

  finished_more : (input : List ℕ) (c : Core) (v : Vectors) (memory : Memory) (e : Effect) → OneMore (finished m input c v memory e)
  finished_more input c v memory Next = omega (arith, none)
  finished_more input c v memory (Branch a) = omega (arith, none)
  finished_more input c v memory Call = done_more (action m) input
  finished_more input c v memory (Trapping t) = omega arith

  executed_more : (input : List ℕ) (i : Option Insn) → OneMore (executed m input i)
  executed_more input None = omega arith
  executed_more input (Some i) =
      let d : Done = performed i m.core m.vectors m.memory in
      finished_more input d.core d.vectors d.memory d.effect

  fetched_more : (input : List ℕ) (o : Option ℕ) → OneMore (fetched m input o)
  fetched_more input (Some a) = omega arith
  fetched_more input None = executed_more input (decode (value m.memory m.core.pc 4))

  turn_more : (input : List ℕ) → OneMore (step_from m input)
  turn_more input =
      elim (nat_eq (m.core.pc % 4) 0) as (λ b. OneMore (if b then fetched m input (refused m.memory m.core.pc 4 FetchKind) else quiet (trapped m PcAlign m.core.pc) input)) [
        | true ↦ fetched_more input (refused m.memory m.core.pc 4 FetchKind)
        | false ↦ omega arith
      ]

step_more : (st : State) → goes_on st ≡ true → places_before (step st).parts ≤ st.parts.steps + 1
step_more st going = turn_more st.parts (none_trapped st.parts.ended going) st.input

-- so many steps make at most as many places
until_more : (k : ℕ) (st : State) → goes_on st ≡ true → places_before (until_end st k).parts ≤ st.parts.steps + k
until_more zero st going =
    let e = ap (λ (s : State). places_before s.parts) (until_end_none st) in
    let none = none_trapped st.parts.ended going in
    omega (arith, e, none)
until_more (suc k) st going =
    let one = ap (λ (s : State). places_before s.parts) (until_end_one st k going) in
    elim (goes_on (step st)) as (λ b. goes_on (step st) ≡ b → places_before (until_end st (suc k)).parts ≤ st.parts.steps + suc k) [
      | true ↦ λ h. let rest = until_more k (step st) h in let most = step_most st in omega (arith, one, rest, most)
      | false ↦ λ h.
          let over = ap (λ (s : State). places_before s.parts) (until_end_over (step st) k h) in
          let most = step_more st going in
          omega (arith, one, over, most)
    ] refl

-- ---- a machine that stands before another

pub record IsEarlier (start : State) (k : ℕ) : Type 0 where
  pub going : goes_on (until_end start k) ≡ true
  pub counted : (until_end start k).parts.steps ≡ k

module _ (start : State) (begins : goes_on start ≡ true) (zero_steps : start.parts.steps ≡ 0) where
  earlier_goes : (p k : ℕ) → k < places_before (until_end start p).parts → goes_on (until_end start k) ≡ true
  earlier_goes p k before =
      elim (goes_on (until_end start k)) as (λ b. goes_on (until_end start k) ≡ b → goes_on (until_end start k) ≡ true) [
        | true ↦ λ h. h
        | false ↦ λ h.
            let all = until_more p start begins in
            let within : k ≤ p = omega (arith, before, all, zero_steps) in
            let stays = ap (λ (s : State). places_before s.parts) (sym (again start k p within) ∙ until_end_over (until_end start k) (p - k) h) in
            let few = until_more k start begins in
            absurd (omega (arith, before, stays, few, zero_steps))
      ] refl

  pub is_earlier : (p k : ℕ) → k < places_before (until_end start p).parts → IsEarlier start k
  is_earlier p k before =
      let goes = earlier_goes p k before in
      record {
        going = goes;
        counted = elim (until_end_counts k start) as (λ _. (until_end start k).parts.steps ≡ k) [
          | inl over ↦ let both : true ≡ false = sym goes ∙ over in cc
          | inr counted ↦ omega (arith, counted, zero_steps)
        ];
      }

-- what the run from the start passes behind its end it doesn't
pub goes_before : (start : State) (j k : ℕ) → j ≤ k → goes_on (until_end start k) ≡ true → goes_on (until_end start j) ≡ true
goes_before start j k within going =
    elim (goes_on (until_end start j)) as (λ b. goes_on (until_end start j) ≡ b → goes_on (until_end start j) ≡ true) [
      | true ↦ λ h. h
      | false ↦ λ h.
          let stays = sym (again start j k within) ∙ until_end_over (until_end start j) (k - j) h in
          let both : true ≡ false = sym going ∙ ap (λ (s : State). goes_on s) stays ∙ h in cc
    ] refl

-- ---- in a session

module _ (start : State) (input : List ℕ) (c : Course) (m : MachineState) (t : Trail) (w : IsWalk start input c m t) where
  pub start_goes : goes_on start ≡ true
  start_goes = ap (λ (s : State). goes_on s) (sym (ap (until_end start) w.marks.start_steps ∙ until_end_none start)) ∙ (w.marks.each 0 w.marks.first).going

  pub walk_earlier : (k : ℕ) → k < machines_before c.state.parts → IsEarlier start k
  walk_earlier k before =
      let same = ap places_before w.on.parts in
      is_earlier start start_goes w.none w.on.count k (omega (arith, before, same))
