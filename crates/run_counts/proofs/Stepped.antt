-- What a step that ends the machine counts: an exit counts one, and a trap none.
use Rattle.std.proofs.Common.{◌≡◌, ℕ, ◌+◌, ◌%◌, Bool, true, false, List, Option, Some, None, is_none, nat_eq, if◌then◌else◌, refl, sym, ◌∙◌}
use Rattle.emu_model.specs.declared.access.Kind.TheVariants.{Fetch as FetchKind}
use Rattle.emu_model.specs.declared.trap.Ended.{Ended}
use Rattle.emu_model.specs.declared.trap.Ended.TheVariants.{Exit, Trap}
use Rattle.emu_model.specs.declared.trap.TrapKind.TheVariants.{PcAlign}
use Rattle.emu_model.specs.declared.trap.Effect.{Effect}
use Rattle.emu_model.specs.declared.trap.Effect.TheVariants.{Next, Branch, Call, Trap as Trapping}
use Rattle.emu_model.specs.declared.trap.Trap.{Trap as Cause}
use Rattle.emu_model.specs.Access.{Memory, refused, value}
use Rattle.emu_model.specs.State.{Core, Vectors, Parts, State}
use Rattle.emu_model.specs.Done.{Done}
use Rattle.emu_system.specs.SystemCall.{Action, fails, answers, maps, moves_break, sets_length, takes, puts, exits, Stepped, quiet, call_done, action}
use Rattle.emu_run.specs.declared.insn.Insn.{Insn}
use Rattle.emu_run.specs.Step.{decode, performed, trapped, finished, undefined, executed, fetched, step_from, step}

-- of a machine that goes on
record CountsBy (m : Parts) (t : Stepped) : Type 0 where
  pub exits : (code : ℕ) → t.parts.ended ≡ Some (Exit code) → t.parts.steps ≡ m.steps + 1
  pub traps : (x : Cause) → t.parts.ended ≡ Some (Trap x) → t.parts.steps ≡ m.steps

goes_trapping : (A : Type 0) (m : Parts) (x : Cause) → m.ended ≡ None → m.ended ≡ Some (Trap x) → A
goes_trapping A m x none some = let e : None ≡ Some (Trap x) = sym none ∙ some in cc

trap_exits : (A : Type 0) (x : Cause) (code : ℕ) → Some (Trap x) ≡ Some (Exit code) → A
trap_exits A x code h = cc

exit_traps : (A : Type 0) (x : Cause) (code : ℕ) → Some (Exit code) ≡ Some (Trap x) → A
exit_traps A x code h = cc

done_counts : (a : Action) (m : Parts) (input : List ℕ) → m.ended ≡ None → CountsBy m (call_done a m input)
done_counts (fails e) m input none = record { exits = λ _ _. refl; traps = λ x h. goes_trapping (m.steps + 1 ≡ m.steps) m x none h }
done_counts (answers v) m input none = record { exits = λ _ _. refl; traps = λ x h. goes_trapping (m.steps + 1 ≡ m.steps) m x none h }
done_counts (maps memory v) m input none = record { exits = λ _ _. refl; traps = λ x h. goes_trapping (m.steps + 1 ≡ m.steps) m x none h }
done_counts (moves_break memory to) m input none = record { exits = λ _ _. refl; traps = λ x h. goes_trapping (m.steps + 1 ≡ m.steps) m x none h }
done_counts (sets_length bits) m input none = record { exits = λ _ _. refl; traps = λ x h. goes_trapping (m.steps + 1 ≡ m.steps) m x none h }
done_counts (takes ranges) m input none = record { exits = λ _ _. refl; traps = λ x h. goes_trapping (m.steps + 1 ≡ m.steps) m x none h }
done_counts (puts file ranges) m input none = record { exits = λ _ _. refl; traps = λ x h. goes_trapping (m.steps + 1 ≡ m.steps) m x none h }
done_counts (exits code) m input none = record { exits = λ _ _. refl; traps = λ x h. exit_traps (m.steps + 1 ≡ m.steps) x code h }

finished_counts : (m : Parts) (input : List ℕ) (c : Core) (v : Vectors) (memory : Memory) (e : Effect) → m.ended ≡ None → CountsBy m (finished m input c v memory e)
finished_counts m input c v memory Next none = record { exits = λ _ _. refl; traps = λ x h. goes_trapping (m.steps + 1 ≡ m.steps) m x none h }
finished_counts m input c v memory (Branch a) none = record { exits = λ _ _. refl; traps = λ x h. goes_trapping (m.steps + 1 ≡ m.steps) m x none h }
finished_counts m input c v memory Call none = done_counts (action m) m input none
finished_counts m input c v memory (Trapping t) none = record { exits = λ code h. trap_exits (m.steps ≡ m.steps + 1) t code h; traps = λ _ _. refl }

undefined_counts : (m : Parts) (input : List ℕ) → CountsBy m (undefined m input)
undefined_counts m input = record { exits = λ code h. trap_exits (m.steps ≡ m.steps + 1) _ code h; traps = λ _ _. refl }

executed_counts : (m : Parts) (input : List ℕ) (i : Option Insn) → m.ended ≡ None → CountsBy m (executed m input i)
executed_counts m input None none = undefined_counts m input
executed_counts m input (Some i) none =
    let d : Done = performed i m.core m.vectors m.memory in
    finished_counts m input d.core d.vectors d.memory d.effect none

fetched_counts : (m : Parts) (input : List ℕ) (o : Option ℕ) → m.ended ≡ None → CountsBy m (fetched m input o)
fetched_counts m input (Some a) none = record { exits = λ code h. trap_exits (m.steps ≡ m.steps + 1) _ code h; traps = λ _ _. refl }
fetched_counts m input None none = executed_counts m input (decode (value m.memory m.core.pc 4)) none

turn_counts : (m : Parts) (input : List ℕ) → m.ended ≡ None → CountsBy m (step_from m input)
turn_counts m input none =
    elim (nat_eq (m.core.pc % 4) 0) as (λ b. CountsBy m (if b then fetched m input (refused m.memory m.core.pc 4 FetchKind) else quiet (trapped m PcAlign m.core.pc) input)) [
      | true ↦ fetched_counts m input (refused m.memory m.core.pc 4 FetchKind) none
      | false ↦ record { exits = λ code h. trap_exits (m.steps ≡ m.steps + 1) _ code h; traps = λ _ _. refl }
    ]

pub exit_counts : (st : State) (code : ℕ) → st.parts.ended ≡ None → (step st).parts.ended ≡ Some (Exit code) → (step st).parts.steps ≡ st.parts.steps + 1
exit_counts st code none h = (turn_counts st.parts st.input none).exits code h

pub trap_counts : (st : State) (x : Cause) → st.parts.ended ≡ None → (step st).parts.ended ≡ Some (Trap x) → (step st).parts.steps ≡ st.parts.steps
trap_counts st x none h = (turn_counts st.parts st.input none).traps x h
