-- The calls that speak of contexts, as they are made.
use Rattle.std.proofs.Common.{◌≡◌, ◌<◌, ◌≤◌, ℕ, zero, suc, ◌+◌, ◌-◌, ◌%◌, ◌^◌, Bool, true, false, not, ◌||◌, List, length, Option, Some, None, is_some, nat_eq, if◌then◌else◌, refl, sym, ap, subst, ◌∙◌, arith}
use Rattle.std.proofs.lemmas.List.{get_or-set_same, length-set, set-set}
use Rattle.std.proofs.lemmas.Bool.{eq-eqb, ne_eqb, le-leb, lt-leb}
use Rattle.emu_model.specs.declared.access.Kind.TheVariants.{Read as ToRead, Write as ToWrite}
use Rattle.emu_model.specs.declared.trap.Ended.{Ended}
use Rattle.emu_model.specs.declared.trap.Ended.TheVariants.{Exit as Exited}
use Rattle.emu_model.specs.Access.{Memory, refused, stored, value}
use Rattle.emu_model.specs.State.{Core, Parts}
use Rattle.emu_system.specs.SystemCall.{call_argument, error_answer, returned}
use Rattle.emu_machine.specs.declared.ends.StepEnd.{StepEnd}
use Rattle.emu_machine.specs.declared.ends.StepEnd.TheVariants.{Going}
use Rattle.emu_machine.specs.Ends.{step_end}
use Rattle.emu_run.specs.declared.thread.Standing.TheVariants.{Ready, Waiting, Gone}
use Rattle.emu_run.specs.declared.thread.ThreadErrno.{ThreadErrno}
use Rattle.emu_run.specs.declared.thread.ThreadErrno.TheVariants.{EAGAIN, EFAULT, EINVAL, ENOSYS}
use Rattle.emu_run.specs.declared.thread.ThreadCall.{ThreadCall}
use Rattle.emu_run.specs.ThreadCall.{action, action_of, thread_call, started, started_core, clears_child, parent_told, with_started, starting, futex, waiting, operation, ThreadAction, fails, answers, starts, waits, wakes, clears, leaves, thread_id, answered, error_number, wait_made, wake_made, clear_made, leave_made, start_made, cleared, with_gone, all_gone, ended_after_exit}
use Rattle.emu_run.specs.Threads.{thread_call_done, quietly}
use Rattle.emu_run.specs.Worlds.{World, Context, context, no_context, parts_with, with_context, with_woken, wake_count}
use Rattle.guest_contexts.proofs.Laid.{woken_ready}
use Rattle.emu_run.specs.Living.{woken_length}
use Rattle.emu_machine.specs.Contexts.{ended_with}
use Rattle.guest_threads.specs.Calls.{IsCalling, IsMade, are_unknown, is_parent_refused}
use Rattle.guest_threads.specs.Started.{started_context}
use Rattle.guest_threads.specs.Ends.{WorldHeld, has_ended}

unended_by : (e : Option Ended) (failed : Bool) → (is_some e || failed) ≡ false → e ≡ None
unended_by None failed h = refl
unended_by (Some x) failed h = cc

pub unended_of : (h : WorldHeld) → has_ended h ≡ false → h.world.ended ≡ None
unended_of h going = unended_by h.world.ended h.failed going

unfailed_by : (e : Option Ended) (failed : Bool) → (is_some e || failed) ≡ false → failed ≡ false
unfailed_by None failed h = h
unfailed_by (Some x) failed h = cc

pub unfailed_of : (h : WorldHeld) → has_ended h ≡ false → h.failed ≡ false
unfailed_of h going = unfailed_by h.world.ended h.failed going

-- an action that is no step of a machine alone, by the world that it leaves
pub made_by : (a : ThreadAction) (old new : WorldHeld) (end : StepEnd) (w : World) → ((input : List ℕ) → thread_call_done a old.world old.world.last input ≡ quietly w input)
    → new ≡ record old { world = w } → w.last ≡ old.world.last → end ≡ step_end w.ended → IsMade a old new end
made_by a old new end w done is last ends = record {
  last = ap (λ (x : WorldHeld). x.world.last) is ∙ last;
  done = λ input. done input ∙ ap (λ (x : WorldHeld). quietly x.world input) (sym is);
  failed = ap (λ (x : WorldHeld). x.failed) is;
  end = ends ∙ ap (λ (x : WorldHeld). step_end x.world.ended) (sym is);
}

-- clearing a word counts no step, and doesn't end the world
cleared_kept : (w : World) (a : ℕ) → ((cleared w a).steps ≡ w.steps) × ((cleared w a).ended ≡ w.ended)
cleared_kept w a =
    elim (nat_eq a 0 || is_some (refused w.memory a 4 ToWrite)) as (λ b. ((if b then w else with_woken (record w { memory = stored w.memory a 4 0 }) a 1).steps ≡ w.steps) × ((if b then w else with_woken (record w { memory = stored w.memory a 4 0 }) a 1).ended ≡ w.ended)) [
      | true ↦ (refl, refl)
      | false ↦ (refl, refl)
    ]

cleared_last : (w : World) (a : ℕ) → (cleared w a).last ≡ w.last
cleared_last w a =
    elim (nat_eq a 0 || is_some (refused w.memory a 4 ToWrite)) as (λ b. (if b then w else with_woken (record w { memory = stored w.memory a 4 0 }) a 1).last ≡ w.last) [
      | true ↦ refl
      | false ↦ refl
    ]

-- a context that is started, with these in place of its caller's arguments
abbrev started_by : World → Context → ℕ → ℕ → ℕ → ℕ → Context
started_by w caller flags stack tls clear = record {
  core = started_core (returned (parts_with w caller) 0).core flags stack tls;
  vectors = (returned (parts_with w caller) 0).vectors;
  clear = if clears_child flags then clear else 0;
  standing = Ready;
}

started_is : (w : World) (k id : ℕ) → k < length w.contexts → (flags stack tls clear : ℕ)
    → started_context (context (answered (parent_told w (context w k).core) k id) k) flags stack tls clear ≡ started_by w (context w k) flags stack tls clear
started_is w k id within flags stack tls clear =
    let c : Context = context w k in
    let r : Parts = returned (parts_with (parent_told w c.core) c) id in
    let behind : Context = record c { core = r.core; vectors = r.vectors; standing = Ready } in
    ap (λ (d : Context). started_context d flags stack tls clear) (get_or-set_same w.contexts k behind no_context within)
    ∙ ap (λ (x : List ℕ). record (started_by w c flags stack tls clear) { core = started_core (record (returned (parts_with w c) 0).core { x = x }) flags stack tls }) (set-set c.core.x 0 (id % 2 ^ 64) 0)

module _ (h : WorldHeld) (calling : IsCalling h) where
  none : h.world.ended ≡ None
  none = unended_of h calling.going

  goes_on : Going ≡ step_end h.world.ended
  goes_on = ap step_end (sym none)

  pub made_answer : (v : ℕ) (new : WorldHeld) → new ≡ record h { world = answered h.world h.world.last v } → IsMade (answers v) h new Going
  made_answer v new is = made_by (answers v) h new Going (answered h.world h.world.last v) (λ input. refl) is refl goes_on

  pub made_failure : (e : ThreadErrno) (v : ℕ) (new : WorldHeld) → v ≡ error_answer (error_number e) → new ≡ record h { world = answered h.world h.world.last v } → IsMade (fails e) h new Going
  made_failure e v new same is =
      made_by (fails e) h new Going (answered h.world h.world.last v) (λ input. ap (λ (x : ℕ). quietly (answered h.world h.world.last x) input) (sym same)) is refl goes_on

  -- the context stands so behind the answer 0
  pub made_wait : (a : ℕ) (mid new : WorldHeld) → mid ≡ record h { world = answered h.world h.world.last 0 }
      → new ≡ record mid { world = with_context mid.world mid.world.last (record (context mid.world mid.world.last) { standing = Waiting a }) }
      → IsMade (waits a) h new Going
  made_wait a mid new is stands =
      let w : World = h.world in
      let k : ℕ = w.last in
      let c : Context = record (context w k) { core = (returned (parts_with w (context w k)) 0).core; vectors = (returned (parts_with w (context w k)) 0).vectors; standing = Ready } in
      made_by (waits a) h new Going (wait_made w k a) (λ input. refl) (
      stands
      ∙ ap (λ (x : WorldHeld). record x { world = with_context x.world x.world.last (record (context x.world x.world.last) { standing = Waiting a }) }) is
      ∙ ap (λ (d : Context). record h { world = with_context (answered w k 0) k (record d { standing = Waiting a }) }) (get_or-set_same w.contexts k c no_context calling.within)
      ∙ ap (λ (l : List Context). record h { world = record (answered w k 0) { contexts = l } }) (set-set w.contexts k c (record c { standing = Waiting a })))
      refl goes_on

  -- the contexts that wait are woken, and then it returns
  pub woken_calling : (a n : ℕ) (mid : WorldHeld) → mid ≡ record h { world = with_woken h.world a n } → IsCalling mid
  woken_calling a n mid is = subst (λ (x : WorldHeld). IsCalling x) (sym is) (record {
    going = calling.going;
    room = calling.room;
    within = subst (λ (n : ℕ). h.world.last < n) (sym (woken_length a n h.world.contexts)) calling.within;
    ready = woken_ready a n h.world.last h.world.contexts calling.ready;
  })

  pub made_wake : (a n count : ℕ) (mid new : WorldHeld) → mid ≡ record h { world = with_woken h.world a n } → count ≡ wake_count a n h.world.contexts
      → new ≡ record mid { world = answered mid.world mid.world.last count } → IsMade (wakes a n) h new Going
  made_wake a n count mid new woke counted is =
      made_by (wakes a n) h new Going (wake_made h.world h.world.last a n) (λ input. refl)
      (is ∙ ap (λ (x : WorldHeld). record x { world = answered x.world x.world.last count }) woke
      ∙ ap (λ (v : ℕ). record h { world = answered (with_woken h.world a n) h.world.last v }) counted)
      refl goes_on

  -- its clear address is set, and then it returns
  pub cleared_calling : (a : ℕ) (mid : WorldHeld) → mid ≡ record h { world = with_context h.world h.world.last (record (context h.world h.world.last) { clear = a }) }
      → IsCalling mid
  cleared_calling a mid is = subst (λ (x : WorldHeld). IsCalling x) (sym is) (record {
    going = calling.going;
    room = calling.room;
    within = subst (λ (n : ℕ). h.world.last < n) (sym (length-set h.world.contexts h.world.last (record (context h.world h.world.last) { clear = a }))) calling.within;
    ready = ap (λ (c : Context). c.standing) (get_or-set_same h.world.contexts h.world.last (record (context h.world h.world.last) { clear = a }) no_context calling.within) ∙ calling.ready;
  })

  pub made_clear : (a v : ℕ) (mid new : WorldHeld) → mid ≡ record h { world = with_context h.world h.world.last (record (context h.world h.world.last) { clear = a }) }
      → v ≡ thread_id h.world.last → new ≡ record mid { world = answered mid.world mid.world.last v } → IsMade (clears a) h new Going
  made_clear a v mid new set_so id is =
      made_by (clears a) h new Going (clear_made h.world h.world.last a) (λ input. refl)
      (is ∙ ap (λ (x : WorldHeld). record x { world = answered x.world x.world.last v }) set_so
      ∙ ap (λ (x : ℕ). record h { world = answered (with_context h.world h.world.last (record (context h.world h.world.last) { clear = a })) h.world.last x }) id)
      refl goes_on

  pub made_id : (v : ℕ) (new : WorldHeld) → v ≡ thread_id h.world.last → new ≡ record h { world = answered h.world h.world.last v } → IsMade (answers (thread_id h.world.last)) h new Going
  made_id v new id is = made_answer (thread_id h.world.last) new (is ∙ ap (λ (x : ℕ). record h { world = answered h.world h.world.last x }) id)

  -- it leaves: it is gone, its word is cleared, and the step is counted
  pub made_leave : (code : Option ℕ) (end : StepEnd) (one two new : WorldHeld) → one ≡ record h { world = with_gone h.world h.world.last }
      → two ≡ record one { world = cleared one.world (context one.world one.world.last).clear }
      → new ≡ record two { world = record two.world { steps = two.world.steps + 1; ended = ended_with code two.world.ended } }
      → ended_with code None ≡ ended_after_exit (with_gone h.world h.world.last) (call_argument (context h.world h.world.last).core 0 % 256)
      → end ≡ step_end (ended_with code None) → IsMade leaves h new end
  made_leave code end one two new gone clear counted by ends =
      let w : World = h.world in
      let k : ℕ = w.last in
      let g : World = with_gone w k in
      let a : ℕ = (context w k).clear in
      let kept = cleared_kept g a in
      let same : (context g k).clear ≡ a = ap (λ (c : Context). c.clear) (get_or-set_same w.contexts k (record (context w k) { standing = Gone }) no_context calling.within) in
      let ended : ended_with code (cleared g a).ended ≡ ended_after_exit g (call_argument (context w k).core 0 % 256) =
      ap (λ (e : Option Ended). ended_with code e) (kept.1 ∙ none) ∙ by in
      made_by leaves h new end (leave_made w k) (λ input. refl)
      (counted
      ∙ ap (λ (x : WorldHeld). record x { world = record x.world { steps = x.world.steps + 1; ended = ended_with code x.world.ended } }) (
      clear ∙ ap (λ (x : WorldHeld). record x { world = cleared x.world (context x.world x.world.last).clear }) gone
      ∙ ap (λ (n : ℕ). record h { world = cleared g n }) same)
      ∙ ap (λ (n : ℕ). record h { world = record (cleared g a) { steps = n + 1; ended = ended_with code (cleared g a).ended } }) kept.0
      ∙ ap (λ (e : Option Ended). record h { world = record (cleared g a) { steps = w.steps + 1; ended = e } }) ended)
      (cleared_last g a) (ends ∙ ap step_end by)

  -- what the last step ends the world with
  pub ended_all : (g : World) (code x : ℕ) → all_gone g ≡ true → code ≡ x → ended_with (Some code) None ≡ ended_after_exit g x
  ended_all g code x all is = ap (λ (n : ℕ). Some (Exited n)) is ∙ sym (ap (λ (b : Bool). if b then Some (Exited x) else g.ended) all)

  pub ended_some : (x : ℕ) → all_gone (with_gone h.world h.world.last) ≡ false → ended_with None None ≡ ended_after_exit (with_gone h.world h.world.last) x
  ended_some x some = sym none ∙ sym (ap (λ (b : Bool). if b then Some (Exited x) else h.world.ended) some)

  pub gone_room : (one two : WorldHeld) → one ≡ record h { world = with_gone h.world h.world.last } → two ≡ record one { world = cleared one.world (context one.world one.world.last).clear }
      → two.world.steps < 2 ^ 64 - 1
  gone_room one two gone clear =
      let e : two.world.steps ≡ h.world.steps =
      ap (λ (x : WorldHeld). x.world.steps) (clear ∙ ap (λ (x : WorldHeld). record x { world = cleared x.world (context x.world x.world.last).clear }) gone)
      ∙ (cleared_kept (with_gone h.world h.world.last) (context (with_gone h.world h.world.last) h.world.last).clear).0 in
      subst (λ (n : ℕ). n < 2 ^ 64 - 1) (sym e) calling.room

  -- a context is started: the parent's word is told, it returns, and the other one is added
  pub told_calling : (one : WorldHeld) → one ≡ record h { world = parent_told h.world (context h.world h.world.last).core } → IsCalling one
  told_calling one is = subst (λ (x : WorldHeld). IsCalling x) (sym is) (record { going = calling.going; room = calling.room; within = calling.within; ready = calling.ready })

  pub made_start : (id flags stack tls clear : ℕ) (one two new : WorldHeld) (c : Context) → id ≡ thread_id (length h.world.contexts)
      → flags ≡ call_argument (context h.world h.world.last).core 0 → stack ≡ call_argument (context h.world h.world.last).core 1 → tls ≡ call_argument (context h.world h.world.last).core 3 → clear ≡ call_argument (context h.world h.world.last).core 4
      → one ≡ record h { world = parent_told h.world (context h.world h.world.last).core } → two ≡ record one { world = answered one.world one.world.last id }
      → c ≡ started_context (context two.world two.world.last) flags stack tls clear → new ≡ record two { world = with_started two.world c }
      → IsMade starts h new Going
  made_start id flags stack tls clear one two new c is_id f s t a told back start add =
      let w : World = h.world in
      let k : ℕ = w.last in
      let caller : Context = context w k in
      let p : World = parent_told w caller.core in
      let two_is : two ≡ record h { world = answered p k (thread_id (length w.contexts)) } =
      back ∙ ap (λ (x : WorldHeld). record x { world = answered x.world x.world.last id }) told ∙ ap (λ (n : ℕ). record h { world = answered p k n }) is_id in
      let c_is : c ≡ started w caller caller.core =
      start
      ∙ ap (λ (x : WorldHeld). started_context (context x.world x.world.last) flags stack tls clear) two_is
      ∙ started_is w k (thread_id (length w.contexts)) calling.within flags stack tls clear
      ∙ ap (λ (n : ℕ). started_by w caller n stack tls clear) f
      ∙ ap (λ (n : ℕ). started_by w caller (call_argument caller.core 0) n tls clear) s
      ∙ ap (λ (n : ℕ). started_by w caller (call_argument caller.core 0) (call_argument caller.core 1) n clear) t
      ∙ ap (λ (n : ℕ). started_by w caller (call_argument caller.core 0) (call_argument caller.core 1) (call_argument caller.core 3) n) a in
      made_by starts h new Going (start_made w k) (λ input. refl)
      (add
      ∙ ap (λ (x : WorldHeld). record x { world = with_started x.world c }) two_is
      ∙ ap (λ (x : Context). record h { world = with_started (answered p k (thread_id (length w.contexts))) x }) c_is)
      refl goes_on

-- ---- what the tests of a call come to

pub made_as : (a b : ThreadAction) (old new : WorldHeld) (end : StepEnd) → a ≡ b → IsMade b old new end → IsMade a old new end
made_as a b old new end is made = subst (λ (x : ThreadAction). IsMade x old new end) (sym is) made

chosen : {A : Type 0} (b : Bool) (x y : A) → b ≡ true → (if b then x else y) ≡ x
chosen {A} b x y h = ap (λ (c : Bool). if c then x else y) h

other : {A : Type 0} (b : Bool) (x y : A) → b ≡ false → (if b then x else y) ≡ y
other {A} b x y h = ap (λ (c : Bool). if c then x else y) h

module _ (c : Core) (w : World) where
  pub starting_unknown : are_unknown (call_argument c 0) ≡ true → starting c w ≡ fails EINVAL
  starting_unknown h = chosen _ _ _ h

  pub starting_full : are_unknown (call_argument c 0) ≡ false → 64 ≤ length w.contexts → starting c w ≡ fails EAGAIN
  starting_full h full = other _ _ _ h ∙ chosen _ _ _ (le-leb 64 (length w.contexts) full)

  pub starting_refused : are_unknown (call_argument c 0) ≡ false → length w.contexts < 64 → is_parent_refused c w ≡ true → starting c w ≡ fails EFAULT
  starting_refused h room refused_so = other _ _ _ h ∙ other _ _ _ (lt-leb 64 (length w.contexts) room) ∙ chosen _ _ _ refused_so

  pub starting_starts : are_unknown (call_argument c 0) ≡ false → length w.contexts < 64 → is_parent_refused c w ≡ false → starting c w ≡ starts
  starting_starts h room told = other _ _ _ h ∙ other _ _ _ (lt-leb 64 (length w.contexts) room) ∙ other _ _ _ told

-- the action of a call by its name
pub named : (w : World) (k : ℕ) (found name : ThreadCall) → found ≡ thread_call (context w k).core → found ≡ name → action w k ≡ action_of name (context w k).core w k
named w k found name found_so is = ap (λ (n : ThreadCall). action_of n (context w k).core w k) (sym found_so ∙ is)

many : (op : ℕ) → 1 < op → not (nat_eq op 0 || nat_eq op 1) ≡ true
many op h =
    let a : nat_eq op 0 ≡ false = ne_eqb op 0 (λ e. omega (arith, h, e)) in
    let b : nat_eq op 1 ≡ false = ne_eqb op 1 (λ e. omega (arith, h, e)) in
    rw (a, b) refl

few : (op : ℕ) → op ≤ 1 → not (nat_eq op 0 || nat_eq op 1) ≡ false
few zero h = refl
few (suc zero) h = refl
few (suc (suc n)) h = absurd (omega (arith, h))

is_not : (a b : ℕ) → (a ≡ b → ⊥) → not (nat_eq a b) ≡ true
is_not a b h = ap not (ne_eqb a b h)

is_no_other : (a b : ℕ) → a ≡ b → not (nat_eq a b) ≡ false
is_no_other a b h = ap not (eq-eqb a b h)

module _ (c : Core) (m : Memory) where
  pub futex_unknown : 1 < operation (call_argument c 1) → futex c m ≡ fails ENOSYS
  futex_unknown h = chosen _ _ _ (many (operation (call_argument c 1)) h)

  pub futex_unaligned : operation (call_argument c 1) ≤ 1 → (call_argument c 0 % 4 ≡ 0 → ⊥) → futex c m ≡ fails EINVAL
  futex_unaligned h off = other _ _ _ (few (operation (call_argument c 1)) h) ∙ chosen _ _ _ (is_not (call_argument c 0 % 4) 0 off)

  pub futex_waits : operation (call_argument c 1) ≡ 0 → call_argument c 0 % 4 ≡ 0 → futex c m ≡ waiting c m
  futex_waits h on =
      other _ _ _ (few (operation (call_argument c 1)) (omega (arith, h))) ∙ other _ _ _ (is_no_other (call_argument c 0 % 4) 0 on)
      ∙ chosen _ _ _ (eq-eqb (operation (call_argument c 1)) 0 h)

  pub futex_wakes : operation (call_argument c 1) ≤ 1 → (operation (call_argument c 1) ≡ 0 → ⊥) → call_argument c 0 % 4 ≡ 0 → futex c m ≡ wakes (call_argument c 0) (call_argument c 2 % 2 ^ 32)
  futex_wakes h some on =
      other _ _ _ (few (operation (call_argument c 1)) h) ∙ other _ _ _ (is_no_other (call_argument c 0 % 4) 0 on)
      ∙ other _ _ _ (ne_eqb (operation (call_argument c 1)) 0 some)

  pub waiting_refused : is_some (refused m (call_argument c 0) 4 ToRead) ≡ true → waiting c m ≡ fails EFAULT
  waiting_refused h = chosen _ _ _ h

  pub waiting_timed : is_some (refused m (call_argument c 0) 4 ToRead) ≡ false → (call_argument c 3 ≡ 0 → ⊥) → waiting c m ≡ fails ENOSYS
  waiting_timed h some = other _ _ _ h ∙ chosen _ _ _ (is_not (call_argument c 3) 0 some)

  pub waiting_changed : is_some (refused m (call_argument c 0) 4 ToRead) ≡ false → call_argument c 3 ≡ 0 → (value m (call_argument c 0) 4 ≡ call_argument c 2 % 2 ^ 32 → ⊥) → waiting c m ≡ fails EAGAIN
  waiting_changed h none differs = other _ _ _ h ∙ other _ _ _ (is_no_other (call_argument c 3) 0 none) ∙ chosen _ _ _ (is_not _ _ differs)

  pub waiting_waits : is_some (refused m (call_argument c 0) 4 ToRead) ≡ false → call_argument c 3 ≡ 0 → value m (call_argument c 0) 4 ≡ call_argument c 2 % 2 ^ 32 → waiting c m ≡ waits (call_argument c 0)
  waiting_waits h none same = other _ _ _ h ∙ other _ _ _ (is_no_other (call_argument c 3) 0 none) ∙ other _ _ _ (is_no_other _ _ same)
