-- One step of a context, by that of the machine that has its registers.
use Rattle.std.proofs.Common.{◌≡◌, ◌<◌, ℕ, ◌+◌, ◌%◌, Bool, true, false, List, [], ◌++◌, length, Option, Some, None, IfSome, is_none, is_some, inl, inr, nat_eq, ◌||◌, if◌then◌else◌, refl, sym, ap, subst, ◌∙◌}
use Rattle.emu_model.specs.declared.access.Access.{Access}
use Rattle.emu_model.specs.declared.access.Kind.TheVariants.{Write as ToWrite}
use Rattle.emu_model.specs.Access.{refused, stored}
use Rattle.emu_model.specs.State.{Parts}
use Rattle.emu_system.specs.Gained.{Gains}
use Rattle.emu_run.specs.Step.{accesses, step, step_from}
use Rattle.emu_machine.specs.Ends as machine
use Rattle.emu_machine.specs.Ends.{LeftOf}
use Rattle.emu_run.specs.declared.thread.Standing.TheVariants.{Ready}
use Rattle.emu_run.specs.ThreadCall.{ThreadAction, fails, answers, starts, waits, wakes, clears, leaves, alone, action, action_of, all_gone, thread_call, with_gone, ended_after_exit}
use Rattle.emu_system.specs.SystemCall.{Stepped, call_argument}
use Rattle.emu_run.specs.declared.thread.ThreadCall.{ThreadCall}
use Rattle.emu_run.specs.declared.thread.ThreadCall.TheVariants.{Clone, Futex, Exit as ExitCall, SetTidAddress, Gettid, Alone}
use Rattle.emu_run.specs.Living.{IsLiving, emptied_gone, noted_living, stays_living}
use Rattle.emu_run.specs.Threads.{WorldStepped, WorldState, thread_call_done, makes_call, one, quietly, stepped, stepped_alone, taken_by, with_world, with_input}
use Rattle.emu_run.specs.Worlds.{World, Context, context, is_gone, is_standing_gone, parts_with, apart, with_woken, others_behind, taken_by_context, without_monitors}
use Rattle.guest_contexts.specs.Laid.{world_of}
use Rattle.guest_contexts.proofs.Laid.{joined_is, laid_length, standing_is, stepped_is}
use Rattle.emu_model.specs.declared.trap.Ended.{Ended}
use Rattle.emu_model.specs.declared.trap.Ended.TheVariants.{Exit as Exited, Trap as Trapped}
use Rattle.emu_system.specs.SystemCall.{action as machine_action}
use Rattle.emu_machine.specs.declared.ends.StepEnd.{StepEnd}
use Rattle.emu_machine.specs.declared.ends.StepEnd.TheVariants.{Going}
use Rattle.emu_machine.specs.Ends.{is_undone, step_end}
use Rattle.emu_machine.specs.Machines.{MachineState}
use Rattle.linux_calls.specs.Ends.{Stores}
use Rattle.emu_run.specs.ThreadLaws.{CountsOrEnds, one_turns}
use Rattle.guest_threads.specs.Calls.{IsMade}
use Rattle.guest_threads.specs.Ends.{WorldHeld, IsKept, Becomes, TakesWithin, PutsAlways}
use Rattle.guest_threads.proofs.Composed.{gains_none}
use Rattle.guest_threads.proofs.Views.{held, laid_ready}
use Rattle.guest_threads.specs.Steps.{noted, stepped_as}

-- ---- the same clauses of another function, and of another world

module _ (f g : WorldState → WorldState) (p q new : World) (same : (bytes : List ℕ) → f (with_input p bytes) ≡ g (with_input q bytes)) where
  pub becomes_as : (told left : Option (List ℕ)) (b : Bool) → Becomes f p new told left b → Becomes g q new told left b
  becomes_as None left b h = tt
  becomes_as (Some bytes) left b h = λ fine. subst (λ (s : WorldState). (new ≡ s.world) × (left ≡ Some s.input)) (same bytes) (h fine)

  pub takes_as : (told left : Option (List ℕ)) (b : Bool) → TakesWithin f p told left b → TakesWithin g q told left b
  takes_as None left b h = tt
  takes_as (Some bytes) left b h = λ broken. subst (λ (s : WorldState). LeftOf bytes (length s.input) left) (same bytes) (h broken)

  pub output_as : (ho hn : Option (List ℕ)) (b : Bool) → PutsAlways (λ st. (f st).output) p ho hn b → PutsAlways (λ st. (g st).output) q ho hn b
  output_as ho hn b h = λ bytes. subst (λ (s : WorldState). IfSome ho (λ had. Gains b hn had s.output)) (same bytes) (h bytes)

  pub errors_as : (eo en : Option (List ℕ)) (b : Bool) → PutsAlways (λ st. (f st).errors) p eo en b → PutsAlways (λ st. (g st).errors) q eo en b
  errors_as eo en b h = λ bytes. subst (λ (s : WorldState). IfSome eo (λ had. Gains b en had s.errors)) (same bytes) (h bytes)

-- ---- the step of a machine, as that of the context whose registers it has

module _ (calls : Bool) (m : Parts) (last : ℕ) (cs : List Context) (within : last < length cs) where
  abbrev pub w : World
  w = world_of m last cs

  turned : (bytes : List ℕ) → step_from (parts_with w (context w last)) bytes ≡ step_from m bytes
  turned bytes = ap (λ (x : Parts). step_from x bytes) (joined_is m last cs within)

  pub stepped_becomes : (q : Parts) (new : World) → (context w last).standing ≡ Ready → new ≡ noted calls w last (world_of q last cs)
      → (told left : Option (List ℕ)) → machine.Becomes step m q told left false → Becomes (stepped_as calls) w new told left false
  stepped_becomes q new ready is None left h = tt
  stepped_becomes q new ready is (Some bytes) left h = λ fine.
      let made = h fine in (
        is
            ∙ ap (λ (v : World). noted calls w last v) (stepped_is m last cs within q ready)
            ∙ ap (λ (x : Parts). noted calls w last (apart w last Ready x)) (made.0 ∙ ap (λ (t : Stepped). t.parts) (sym (turned bytes))),
        made.1 ∙ ap (λ (t : Stepped). Some t.input) (sym (turned bytes)),
      )

  pub stepped_breaks : (q : World) (told left : Option (List ℕ)) → Becomes (stepped_as calls) w q told left true
  stepped_breaks q None left = tt
  stepped_breaks q (Some bytes) left = λ (h : true ≡ false). cc

  pub stepped_takes : (told left : Option (List ℕ)) (b : Bool) → machine.TakesWithin step m told left b → TakesWithin (stepped_as calls) w told left b
  stepped_takes None left b h = tt
  stepped_takes (Some bytes) left b h = λ broken. subst (λ (t : Stepped). LeftOf bytes (length t.input) left) (sym (turned bytes)) (h broken)

  pub stepped_output : (ho hn : Option (List ℕ)) (b : Bool) → machine.PutsAlways (λ st. (step st).output) m ho hn b → PutsAlways (λ st. (stepped_as calls st).output) w ho hn b
  stepped_output ho hn b h = λ bytes. subst (λ (t : Stepped). IfSome ho (λ had. Gains b hn had ([] ++ t.output))) (sym (turned bytes)) (h bytes)

  pub stepped_errors : (eo en : Option (List ℕ)) (b : Bool) → machine.PutsAlways (λ st. (step st).errors) m eo en b → PutsAlways (λ st. (stepped_as calls st).errors) w eo en b
  stepped_errors eo en b h = λ bytes. subst (λ (t : Stepped). IfSome eo (λ had. Gains b en had ([] ++ t.errors))) (sym (turned bytes)) (h bytes)

  pub accessed_is : accesses (parts_with w (context w last)) ≡ accesses m
  accessed_is = ap accesses (joined_is m last cs within)

-- ---- a step of context k doesn't look at which context took the last one

action_last : (w : World) (k : ℕ) (name : ThreadCall) → action_of name (context w k).core (taken_by_context k w) k ≡ action_of name (context w k).core w k
action_last w k Clone = refl
action_last w k Futex = refl
action_last w k ExitCall = refl
action_last w k SetTidAddress = refl
action_last w k Gettid = refl
action_last w k Alone = refl

module _ (w : World) (k : ℕ) (input : List ℕ) where
  done_last : (a : ThreadAction)
      → with_world (λ v. taken_by_context k (without_monitors v)) (thread_call_done a (taken_by_context k w) k input) ≡ with_world (λ v. taken_by_context k (without_monitors v)) (thread_call_done a w k input)
  done_last (fails e) = refl
  done_last (answers v) = refl
  done_last starts = refl
  done_last (waits a) = refl
  done_last (wakes a n) = refl
  done_last (clears a) = refl
  done_last leaves =
      elim (nat_eq (context w k).clear 0 || is_some (refused w.memory (context w k).clear 4 ToWrite)) as (λ b.
      with_world (λ v. taken_by_context k (without_monitors v)) (quietly (record (if b then with_gone (taken_by_context k w) k else with_woken (record (with_gone (taken_by_context k w) k) { memory = stored w.memory (context w k).clear 4 0 }) (context w k).clear 1) { steps = w.steps + 1; ended = ended_after_exit (with_gone w k) (call_argument (context w k).core 0 % 256) }) input)
      ≡ with_world (λ v. taken_by_context k (without_monitors v)) (quietly (record (if b then with_gone w k else with_woken (record (with_gone w k) { memory = stored w.memory (context w k).clear 4 0 }) (context w k).clear 1) { steps = w.steps + 1; ended = ended_after_exit (with_gone w k) (call_argument (context w k).core 0 % 256) }) input)) [
        | true ↦ refl
        | false ↦ refl
      ]
  done_last alone = refl

  same_action : action (taken_by_context k w) k ≡ action w k
  same_action = action_last w k (thread_call (context w k).core)

  by_action : with_world (λ v. taken_by_context k (without_monitors v)) (thread_call_done (action (taken_by_context k w) k) (taken_by_context k w) k input) ≡ with_world (λ v. taken_by_context k (without_monitors v)) (thread_call_done (action w k) w k input)
  by_action = ap (λ (a : ThreadAction). with_world (λ v. taken_by_context k (without_monitors v)) (thread_call_done a (taken_by_context k w) k input)) same_action ∙ done_last (action w k)

  pub one_last : one (taken_by_context k w) k input ≡ one w k input
  one_last =
      elim (makes_call (parts_with w (context w k))) as (λ b.
      (if b then with_world (λ v. taken_by_context k (without_monitors v)) (thread_call_done (action (taken_by_context k w) k) (taken_by_context k w) k input) else with_world (λ v. taken_by_context k (others_behind (accesses (parts_with w (context w k))) k v)) (stepped_alone (taken_by_context k w) k input))
      ≡ (if b then with_world (λ v. taken_by_context k (without_monitors v)) (thread_call_done (action w k) w k input) else with_world (λ v. taken_by_context k (others_behind (accesses (parts_with w (context w k))) k v)) (stepped_alone w k input))) [
        | true ↦ by_action
        | false ↦ refl
      ]

-- ---- a step by its parts: w is the world before it, and k its context

module _ (w : World) (k : ℕ) (calls : Bool) (is : calls ≡ makes_call (parts_with w (context w k))) where
  by_calls : (b : Bool) → b ≡ makes_call (parts_with w (context w k)) → (input : List ℕ)
      → one w k input ≡ (if b then with_world (λ v. taken_by_context k (without_monitors v)) (thread_call_done (action w k) w k input) else with_world (λ v. taken_by_context k (others_behind (accesses (parts_with w (context w k))) k v)) (stepped_alone w k input))
  by_calls b e input = ap (λ (x : Bool). if x then with_world (λ v. taken_by_context k (without_monitors v)) (thread_call_done (action w k) w k input) else with_world (λ v. taken_by_context k (others_behind (accesses (parts_with w (context w k))) k v)) (stepped_alone w k input)) (sym e)

  alone_as : (b : Bool) → (b ≡ true → action w k ≡ alone) → (input : List ℕ)
      → (if b then with_world (λ v. taken_by_context k (without_monitors v)) (thread_call_done (action w k) w k input) else with_world (λ v. taken_by_context k (others_behind (accesses (parts_with w (context w k))) k v)) (stepped_alone w k input))
      ≡ with_world (noted b w k) (stepped_alone w k input)
  alone_as true h input = ap (λ (a : ThreadAction). with_world (λ v. taken_by_context k (without_monitors v)) (thread_call_done a w k input)) (h refl)
  alone_as false h input = refl

  -- the step of a machine alone
  pub one_alone : (calls ≡ true → action w k ≡ alone) → (input : List ℕ) → one w k input ≡ with_world (noted calls w k) (stepped_alone w k input)
  one_alone h input = by_calls calls is input ∙ alone_as calls h input

  -- the step of a call that speaks of contexts
  pub one_called : calls ≡ true → (new : World) → ((input : List ℕ) → thread_call_done (action w k) w k input ≡ quietly new input)
      → (input : List ℕ) → one w k input ≡ quietly (taken_by_context k (without_monitors new)) input
  one_called so new done input =
      by_calls true (sym so ∙ is) input ∙ ap (λ (t : WorldStepped). with_world (λ v. taken_by_context k (without_monitors v)) t) (done input)

-- ---- a step of the machine, as the world is seen

pub record StepLeft (calls : Bool) (h : WorldHeld) (new : World) (told left ho hn eo en : Option (List ℕ)) (b : Bool) : Type 0 where
  pub state : Becomes (stepped_as calls) h.world new told left b
  pub input : TakesWithin (stepped_as calls) h.world told left b
  pub output : PutsAlways (λ st. (stepped_as calls st).output) h.world ho hn b
  pub errors : PutsAlways (λ st. (stepped_as calls st).errors) h.world eo en b

module _ (calls : Bool) (s : MachineState) (last : ℕ) (cs : List Context) (h : WorldHeld) (is : held s last cs ≡ h) (within : last < length cs) (ready : (context h.world h.world.last).standing ≡ Ready) (q : Parts) (told left ho hn eo en : Option (List ℕ)) where
  pub stepped_done : (b : Bool) → b ≡ false → (new : World) → new ≡ noted calls (world_of s.parts last cs) last (world_of q last cs)
      → machine.Becomes step s.parts q told left b → machine.TakesWithin step s.parts told left b → machine.PutsAlways (λ st. (step st).output) s.parts ho hn b → machine.PutsAlways (λ st. (step st).errors) s.parts eo en b
      → StepLeft calls h new told left ho hn eo en b
  stepped_done b fine new made st i o e =
      let state : Becomes (stepped_as calls) (world_of s.parts last cs) new told left b =
      subst (λ (x : Bool). Becomes (stepped_as calls) (world_of s.parts last cs) new told left x) (sym fine)
      (stepped_becomes calls s.parts last cs within q new (laid_ready s last cs h is ready) made told left (subst (λ (x : Bool). machine.Becomes step s.parts q told left x) fine st)) in
      subst (λ (x : WorldHeld). StepLeft calls x new told left ho hn eo en b) is (record {
        state = state;
        input = stepped_takes calls s.parts last cs within told left b i;
        output = stepped_output calls s.parts last cs within ho hn b o;
        errors = stepped_errors calls s.parts last cs within eo en b e;
      })

  pub stepped_broken : (b : Bool) → b ≡ true → (new : World)
      → machine.TakesWithin step s.parts told left b → machine.PutsAlways (λ st. (step st).output) s.parts ho hn b → machine.PutsAlways (λ st. (step st).errors) s.parts eo en b
      → StepLeft calls h new told left ho hn eo en b
  stepped_broken b broken new i o e =
      subst (λ (x : WorldHeld). StepLeft calls x new told left ho hn eo en b) is (record {
        state = subst (λ (x : Bool). Becomes (stepped_as calls) (world_of s.parts last cs) new told left x) (sym broken) (stepped_breaks calls s.parts last cs within new told left);
        input = stepped_takes calls s.parts last cs within told left b i;
        output = stepped_output calls s.parts last cs within ho hn b o;
        errors = stepped_errors calls s.parts last cs within eo en b e;
      })

  pub kept_is : machine.IsKept s.parts q told left → IsKept h.world (world_of q last cs) h.world.last told left
  kept_is k = subst (λ (x : WorldHeld). IsKept x.world (world_of q last cs) x.world.last told left) is (record {
    is = ap (λ (x : Parts). world_of x last cs) k.is;
    stored = subst (λ (x : Parts). Stores (machine_action x) s.parts.memory q.memory told left) (sym (joined_is s.parts last cs within)) k.stored;
  })

-- ---- a step of context k of the world h, which is brought into the machine, in v

module _ (h v : WorldHeld) (k : ℕ) (brought : v ≡ record h { world = taken_by_context k h.world }) (calls : Bool) (is : calls ≡ makes_call (parts_with v.world (context v.world v.world.last))) where
  abbrev pub taken : World
  taken = taken_by_context k h.world

  is_taken : calls ≡ makes_call (parts_with taken (context taken k))
  is_taken = is ∙ ap (λ (x : WorldHeld). makes_call (parts_with x.world (context x.world x.world.last))) brought

  pub one_made : (new : WorldHeld) (end : StepEnd) → calls ≡ true → IsMade (action v.world v.world.last) v new end
      → (input : List ℕ) → one h.world k input ≡ quietly (without_monitors new.world) input
  one_made new end so made input =
      let done : thread_call_done (action taken k) taken k input ≡ quietly new.world input =
      subst (λ (x : WorldHeld). thread_call_done (action x.world x.world.last) x.world x.world.last input ≡ quietly new.world input) brought (made.done input) in
      let last : new.world.last ≡ k = made.last ∙ ap (λ (x : WorldHeld). x.world.last) brought in
      sym (one_last h.world k input)
      ∙ one_called taken k calls is_taken so new.world (λ bytes. subst (λ (x : WorldHeld). thread_call_done (action x.world x.world.last) x.world x.world.last bytes ≡ quietly new.world bytes) brought (made.done bytes)) input
      ∙ ap (λ (n : ℕ). quietly (record (without_monitors new.world) { last = n }) input) (sym last)

  pub one_stepped : (calls ≡ true → action v.world v.world.last ≡ alone) → (bytes : List ℕ)
      → stepped_as calls (with_input v.world bytes) ≡ stepped (with_input h.world bytes) k
  one_stepped none bytes =
      ap (λ (x : WorldHeld). stepped_as calls (with_input x.world bytes)) brought
      ∙ ap (λ (t : WorldStepped). taken_by (with_input h.world bytes) t)
      (sym (one_alone taken k calls is_taken (λ so. sym (ap (λ (x : WorldHeld). action x.world x.world.last) brought) ∙ none so) bytes) ∙ one_last h.world k bytes)

-- a step that moves no byte of a stream
module _ (w new : World) (k : ℕ) (e : (input : List ℕ) → one w k input ≡ quietly new input) where
  pub quiet_becomes : (told : Option (List ℕ)) (b : Bool) → Becomes (λ st. stepped st k) w new told told b
  quiet_becomes None b = tt
  quiet_becomes (Some bytes) b = λ fine. (ap (λ (t : WorldStepped). t.world) (sym (e bytes)), ap (λ (t : WorldStepped). Some t.input) (sym (e bytes)))

  pub quiet_takes : (told : Option (List ℕ)) (b : Bool) → b ≡ false → TakesWithin (λ st. stepped st k) w told told b
  quiet_takes None b fine = tt
  quiet_takes (Some bytes) b fine = λ broken. absurd (let h = sym fine ∙ broken in cc)

  pub quiet_output : (ho : Option (List ℕ)) (b : Bool) → PutsAlways (λ st. (stepped st k).output) w ho ho b
  quiet_output ho b = λ bytes. subst (λ (t : WorldStepped). IfSome ho (λ had. Gains b ho had ([] ++ t.output))) (sym (e bytes)) (gains_none b ho)

  pub quiet_errors : (eo : Option (List ℕ)) (b : Bool) → PutsAlways (λ st. (stepped st k).errors) w eo eo b
  quiet_errors eo b = λ bytes. subst (λ (t : WorldStepped). IfSome eo (λ had. Gains b eo had ([] ++ t.errors))) (sym (e bytes)) (gains_none b eo)

  going_none : (x : Option Ended) → Going ≡ step_end x → is_none x ≡ true
  going_none None h = refl
  going_none (Some (Exited code)) h = cc
  going_none (Some (Trapped t)) h = cc

  pub quiet_counted : Going ≡ step_end new.ended → new.steps ≡ w.steps + 1
  quiet_counted going =
      elim (subst (λ (t : WorldStepped). CountsOrEnds w t.world) (e []) (one_turns w k []).counts) [
        | inl over ↦ absurd (let h = sym (going_none new.ended going) ∙ over in cc)
        | inr one_more ↦ one_more
      ]

pub end_done : (e : Option Ended) → is_undone (step_end e) ≡ false
end_done None = refl
end_done (Some (Exited code)) = refl
end_done (Some (Trapped t)) = refl

pub end_is_done : (end : StepEnd) (e : Option Ended) → end ≡ step_end e → is_undone end ≡ false
end_is_done end e is = ap is_undone is ∙ end_done e

-- ---- a machine's step leaves its context where it is

module _ (m q : Parts) (last : ℕ) (cs : List Context) (within : last < length cs) (ready : (context (world_of m last cs) last).standing ≡ Ready) where
  stays : is_gone (context (world_of q last cs) last) ≡ false
  stays = ap is_standing_gone (standing_is q last cs within ∙ sym (standing_is m last cs within) ∙ ready)

  within_laid : last < length (world_of q last cs).contexts
  within_laid = subst (λ (n : ℕ). last < n) (sym (laid_length q last cs)) within

  -- it makes a call, which empties all monitors
  pub lives_called : (new : World) → new ≡ without_monitors (world_of q last cs) → IsLiving new
  lives_called new is = λ _. ap all_gone is ∙ emptied_gone (world_of q last cs) ∙ stays_living (world_of q last cs) last within_laid stays

  -- it makes none
  pub lives_noted : (made : List Access) (new : World) → new ≡ others_behind made last (world_of q last cs) → IsLiving new
  lives_noted made new is = λ _. ap all_gone is ∙ noted_living (world_of q last cs) last within_laid made stays
