-- A call that reads the input puts nothing, and one that writes to a file puts nothing to any other file: so a step that one stream broke off leaves
-- the other sinks as they were, and what they hold is all that the steps before it put.
use Rattle.std.proofs.Common.{◌≡◌, ◌≤◌, ◌⊎◌, inl, inr, ℕ, Bool, true, false, if◌then◌else◌, nat_eq, nat_lt, List, [], ◌∷◌, Option, refl, sym, ap, subst, ◌∙◌, arith, ◌+◌, ◌*◌}
use Rattle.std.specs.List.{list_any}
use Rattle.emu_model.specs.declared.access.Access.{Access}
use Rattle.emu_model.specs.declared.access.Kind.{Kind}
use Rattle.emu_model.specs.declared.access.Kind.TheVariants.{Read as ToRead, Write as ToWrite}
use Rattle.emu_model.specs.Access.{Memory}
use Rattle.emu_model.specs.State.{Core, Parts}
use Rattle.emu_system.specs.declared.system_call.Errno.TheVariants.{EBADF, EFAULT, EINVAL}
use Rattle.emu_system.specs.declared.system_call.Range.{Range}
use Rattle.emu_system.specs.SystemCall.{Action, answers, call_argument, action, action_of, buffer, call_name, cut_to, entries, fails, file_of, is_denied, is_sink, is_too_long, most_bytes, puts, takes, with_buffer, with_entries, with_vector}
use Rattle.linux_calls.specs.Ends.{does_put}
use Rattle.linux_calls.specs.Names.{NamesRead, NamesWrite}
use Rattle.emu_run.specs.Run.{run}
use Rattle.emu_run.specs.Step.{step}
use Rattle.emu_machine.specs.Advances.{IsAhead}
use Rattle.emu_machine.specs.declared.ends.StepEnd.{StepEnd}
use Rattle.emu_machine.specs.declared.ends.StepEnd.TheVariants.{ReadFault, WriteFault, ErrorsFault}
use Rattle.emu_machine.specs.declared.ends.RunEnd.{RunEnd}
use Rattle.emu_machine.specs.declared.ends.RunEnd.TheVariants.{ReadFault as RunReadFault, WriteFault as RunWriteFault, ErrorsFault as RunErrorsFault}
use Rattle.emu_machine.specs.Ends.{Puts, is_broken_off, is_undone, run_end_of}
use Rattle.emu_machine.proofs.Advanced.{leads_ahead, not_both}
use Rattle.emu_machine.proofs.Composed.{leads_start}
use Rattle.emu_machine.proofs.Runs.{LeadsRun, Ran, last_step, run_counts, run_spends}

-- ---- what a call puts nothing to

-- whichever is chosen
chosen : (file : ℕ) (b : Bool) (x y : Action) → does_put file x ≡ false → does_put file y ≡ false → does_put file (if b then x else y) ≡ false
chosen file true x y p q = p
chosen file false x y p q = q

module _ (file : ℕ) (kind : Kind) (moves : List Range → Action) (none : (ranges : List Range) → does_put file (moves ranges) ≡ false) (m : Memory) where
  by_buffer : (c : Core) → does_put file (with_buffer kind moves c m) ≡ false
  by_buffer c =
      chosen file (nat_eq (call_argument c 2) 0) (answers 0) (if is_denied m kind (buffer c) then fails EFAULT else moves (buffer c ∷ [])) refl
      (chosen file (is_denied m kind (buffer c)) (fails EFAULT) (moves (buffer c ∷ [])) refl (none (buffer c ∷ [])))

  by_entries : (ranges : List Range) → does_put file (with_entries kind moves ranges m) ≡ false
  by_entries ranges =
      chosen file (list_any is_too_long ranges) (fails EINVAL) (if list_any (is_denied m kind) (cut_to most_bytes ranges) then fails EFAULT else moves (cut_to most_bytes ranges)) refl
      (chosen file (list_any (is_denied m kind) (cut_to most_bytes ranges)) (fails EFAULT) (moves (cut_to most_bytes ranges)) refl (none (cut_to most_bytes ranges)))

  by_vector : (c : Core) → does_put file (with_vector kind moves c m) ≡ false
  by_vector c =
      chosen file (nat_lt 1024 (call_argument c 2)) (fails EINVAL)
      (if is_denied m ToRead (record { address = call_argument c 1; length = 16 * call_argument c 2 }) then fails EFAULT else with_entries kind moves (entries m (call_argument c 1) (call_argument c 2)) m) refl
      (chosen file (is_denied m ToRead (record { address = call_argument c 1; length = 16 * call_argument c 2 })) (fails EFAULT) (with_entries kind moves (entries m (call_argument c 1) (call_argument c 2)) m) refl
      (by_entries (entries m (call_argument c 1) (call_argument c 2))))

module _ (file : ℕ) (p : Parts) where
  abbrev PutsNone : ℕ → Type 0
  PutsNone number = does_put file (action_of (call_name number) p.core p.vectors p.memory p.brk) ≡ false

  -- a call that reads the input puts nothing
  pub read_puts_none : NamesRead p.core → does_put file (action p) ≡ false
  read_puts_none names =
      elim names.call as (λ _. does_put file (action p) ≡ false) [
        | inl is ↦ subst PutsNone (sym is) (chosen file (nat_eq (file_of p.core) 0) (with_buffer ToWrite takes p.core p.memory) (fails EBADF) (by_buffer file ToWrite takes (λ ranges. refl) p.memory p.core) refl)
        | inr is ↦ subst PutsNone (sym is) (chosen file (nat_eq (file_of p.core) 0) (with_vector ToWrite takes p.core p.memory) (fails EBADF) (by_vector file ToWrite takes (λ ranges. refl) p.memory p.core) refl)
      ]

  -- and one that writes to a file puts nothing to another
  pub write_puts_none : (to : ℕ) → nat_eq to file ≡ false → NamesWrite p.core to → does_put file (action p) ≡ false
  write_puts_none to other names =
      let none : (ranges : List Range) → does_put file (puts (file_of p.core) ranges) ≡ false = λ ranges. ap (λ (n : ℕ). nat_eq n file) names.to ∙ other in
      elim names.call as (λ _. does_put file (action p) ≡ false) [
        | inl is ↦ subst PutsNone (sym is) (chosen file (is_sink (file_of p.core)) (with_buffer ToRead (puts (file_of p.core)) p.core p.memory) (fails EBADF) (by_buffer file ToRead (puts (file_of p.core)) none p.memory p.core) refl)
        | inr is ↦ subst PutsNone (sym is) (chosen file (is_sink (file_of p.core)) (with_vector ToRead (puts (file_of p.core)) p.core p.memory) (fails EBADF) (by_vector file ToRead (puts (file_of p.core)) none p.memory p.core) refl)
      ]

-- ---- the answers

pub either : (A B C : Type 0) → (A → C) → (B → C) → A ⊎ B → C
either A B C f g (inl a) = f a
either A B C f g (inr b) = g b

pub each_way : (A B C D : Type 0) → (A → C) → (B → D) → A ⊎ B → C ⊎ D
each_way A B C D f g (inl a) = inl (f a)
each_way A B C D f g (inr b) = inr (g b)

module _ (r : StepEnd) where
  pub output_undone : (r ≡ ReadFault) ⊎ (r ≡ ErrorsFault) → is_undone r ≡ true
  output_undone = either (r ≡ ReadFault) (r ≡ ErrorsFault) (is_undone r ≡ true) (λ e. ap is_undone e) (λ e. ap is_undone e)

  pub errors_undone : (r ≡ ReadFault) ⊎ (r ≡ WriteFault) → is_undone r ≡ true
  errors_undone = either (r ≡ ReadFault) (r ≡ WriteFault) (is_undone r ≡ true) (λ e. ap is_undone e) (λ e. ap is_undone e)

  -- the last step's fault by the run's
  module _ (x : RunEnd) (is : x ≡ run_end_of r) where
    pub output_fault : (x ≡ RunReadFault) ⊎ (x ≡ RunErrorsFault) → (r ≡ ReadFault) ⊎ (r ≡ ErrorsFault)
    output_fault (inl e) = inl (last_step r x RunReadFault is e)
    output_fault (inr e) = inr (last_step r x RunErrorsFault is e)

    pub errors_fault : (x ≡ RunReadFault) ⊎ (x ≡ RunWriteFault) → (r ≡ ReadFault) ⊎ (r ≡ WriteFault)
    errors_fault (inl e) = inl (last_step r x RunReadFault is e)
    errors_fault (inr e) = inr (last_step r x RunWriteFault is e)

-- a run that isn't broken off
module _ (x : RunEnd) (A : Type 0) (fine : is_broken_off x ≡ false) where
  pub no_output_fault : (x ≡ RunReadFault) ⊎ (x ≡ RunErrorsFault) → A
  no_output_fault = either (x ≡ RunReadFault) (x ≡ RunErrorsFault) A (λ e. not_both (is_broken_off x) A fine (ap is_broken_off e)) (λ e. not_both (is_broken_off x) A fine (ap is_broken_off e))

  pub no_errors_fault : (x ≡ RunReadFault) ⊎ (x ≡ RunWriteFault) → A
  no_errors_fault = either (x ≡ RunReadFault) (x ≡ RunWriteFault) A (λ e. not_both (is_broken_off x) A fine (ap is_broken_off e)) (λ e. not_both (is_broken_off x) A fine (ap is_broken_off e))

-- ---- a run, step after step, whatever its budget

abbrev pub LeadsAny : Parts → Parts → Option (List ℕ) → Option (List ℕ) → Option (List ℕ) → Option (List ℕ) → Option (List ℕ) → Option (List ℕ) → Type 0
LeadsAny old now told left held_old held_now errs_old errs_now = (budget : ℕ) → now.steps ≤ budget → LeadsRun budget old now told left held_old held_now errs_old errs_now

pub any_start : (old : Parts) (told held errs : Option (List ℕ)) → LeadsAny old old told told held held errs errs
any_start old told held errs budget h = leads_start (λ s. run s budget) old told held errs

module _ (old o p : Parts) (log_o log_p : List Access) (ahead : IsAhead o p log_o log_p) (told left ho hp eo ep : Option (List ℕ)) (any : LeadsAny old o told left ho hp eo ep) where
  -- steps that are no calls
  pub any_ahead : LeadsAny old p told left ho hp eo ep
  any_ahead budget h =
      let after = ahead.after in
      leads_ahead budget old o p log_o log_o log_p ahead told left ho hp eo ep h (any budget (omega (arith, after, h)))

  -- and then one that counts
  pub any_counts : (q : Parts) (left_q hq eq : Option (List ℕ)) → q.steps ≡ p.steps + 1 → Ran step p q left left_q hp hq ep eq false → LeadsAny old q told left_q ho hq eo eq
  any_counts q left_q hq eq counted ran budget h =
      run_counts budget old p q told left left_q ho hp hq eo ep eq (any_ahead budget (omega (arith, counted, h))) ahead.goes (omega (arith, counted, h)) counted ran

  -- and then one that leaves a sink as it was: the sink has what the run of the steps counted puts
  module _ (q : Parts) (same : q.steps ≡ p.steps) where
    there : Ran (λ s. run s p.steps) old p told left ho hp eo ep false
    there = run_spends p.steps old p told left ho hp eo ep (any_ahead p.steps (omega arith)) (omega arith)

    pub output_whole : (hq : Option (List ℕ)) → hq ≡ hp → Puts (λ st. (run st q.steps).output) old told ho hq false
    output_whole hq kept =
        subst (λ (n : ℕ). Puts (λ st. (run st n).output) old told ho hq false) (sym same)
        (subst (λ (h : Option (List ℕ)). Puts (λ st. (run st p.steps).output) old told ho h false) (sym kept) there.output)

    pub errors_whole : (eq : Option (List ℕ)) → eq ≡ ep → Puts (λ st. (run st q.steps).errors) old told eo eq false
    errors_whole eq kept =
        subst (λ (n : ℕ). Puts (λ st. (run st n).errors) old told eo eq false) (sym same)
        (subst (λ (e : Option (List ℕ)). Puts (λ st. (run st p.steps).errors) old told eo e false) (sym kept) there.errors)
