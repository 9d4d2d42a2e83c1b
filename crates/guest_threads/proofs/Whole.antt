-- A run of a world whose last step wasn't done: a sink that didn't fail has what the run of the steps counted puts.
use Rattle.std.proofs.Common.{◌≡◌, ◌≤◌, ◌⊎◌, ℕ, Bool, true, false, List, Option, sym, ap, subst, ◌∙◌, arith}
use Rattle.emu_machine.specs.declared.ends.StepEnd.{StepEnd}
use Rattle.emu_machine.specs.declared.ends.StepEnd.TheVariants.{Going, ReadFault, WriteFault, ErrorsFault}
use Rattle.emu_machine.proofs.Advanced.{not_both}
use Rattle.emu_machine.proofs.Spared.{each_way, either}
use Rattle.emu_run.specs.declared.thread.SchedulePlace.{SchedulePlace}
use Rattle.emu_run.specs.Threads.{first_place, threads}
use Rattle.emu_run.specs.Worlds.{World}
use Rattle.guest_threads.specs.declared.ends.WorldEnd.{WorldEnd}
use Rattle.guest_threads.specs.declared.ends.WorldEnd.TheVariants.{ReadFault as WorldReadFault, WriteFault as WorldWriteFault, ErrorsFault as WorldErrorsFault}
use Rattle.guest_threads.specs.Ends.{Puts, is_broken_off, world_end_of}
use Rattle.guest_threads.proofs.Composed.{leads_start}
use Rattle.guest_threads.proofs.Runs.{LeadsRun, Ran, errors_of, read_of, run_spends, write_of}

-- ---- the answers

-- a run that isn't broken off
module _ (x : WorldEnd) (A : Type 0) (fine : is_broken_off x ≡ false) where
  pub no_output_fault : (x ≡ WorldReadFault) ⊎ (x ≡ WorldErrorsFault) → A
  no_output_fault =
      either (x ≡ WorldReadFault) (x ≡ WorldErrorsFault) A (λ e. not_both (is_broken_off x) A fine (ap is_broken_off e)) (λ e. not_both (is_broken_off x) A fine (ap is_broken_off e))

  pub no_errors_fault : (x ≡ WorldReadFault) ⊎ (x ≡ WorldWriteFault) → A
  no_errors_fault =
      either (x ≡ WorldReadFault) (x ≡ WorldWriteFault) A (λ e. not_both (is_broken_off x) A fine (ap is_broken_off e)) (λ e. not_both (is_broken_off x) A fine (ap is_broken_off e))

-- the last step's fault by the run's
module _ (w : World) (r : StepEnd) (other : r ≡ Going → ⊥) (x : WorldEnd) (is : x ≡ world_end_of w r) where
  pub output_fault : (x ≡ WorldReadFault) ⊎ (x ≡ WorldErrorsFault) → (r ≡ ReadFault) ⊎ (r ≡ ErrorsFault)
  output_fault = each_way (x ≡ WorldReadFault) (x ≡ WorldErrorsFault) (r ≡ ReadFault) (r ≡ ErrorsFault) (λ e. read_of w r other (sym is ∙ e)) (λ e. errors_of w r other (sym is ∙ e))

  pub errors_fault : (x ≡ WorldReadFault) ⊎ (x ≡ WorldWriteFault) → (r ≡ ReadFault) ⊎ (r ≡ WriteFault)
  errors_fault = each_way (x ≡ WorldReadFault) (x ≡ WorldWriteFault) (r ≡ ReadFault) (r ≡ WriteFault) (λ e. read_of w r other (sym is ∙ e)) (λ e. write_of w r other (sym is ∙ e))

-- ---- a run, step after step, whatever its budget

abbrev pub LeadsAny : List (ℕ × ℕ) → SchedulePlace → World → World → Option (List ℕ) → Option (List ℕ) → Option (List ℕ) → Option (List ℕ) → Option (List ℕ) → Option (List ℕ) → Type 0
LeadsAny schedule place old now told left held_old held_now errs_old errs_now =
    (budget : ℕ) → now.steps ≤ budget → LeadsRun schedule budget place old now told left held_old held_now errs_old errs_now

module _ (schedule : List (ℕ × ℕ)) (old : World) where
  pub any_start : (told held errs : Option (List ℕ)) → LeadsAny schedule first_place old old told told held held errs errs
  any_start told held errs budget h = leads_start (λ s. threads schedule budget s) old told held errs

  -- the next step left a sink as it was
  module _ (place : SchedulePlace) (p q : World) (told left ho hp eo ep : Option (List ℕ)) (any : LeadsAny schedule place old p told left ho hp eo ep) (same : q.steps ≡ p.steps) where
    there : Ran (λ s. threads schedule p.steps s) old p told left ho hp eo ep false
    there = run_spends schedule p.steps place old p told left ho hp eo ep (any p.steps (omega arith)) (omega arith)

    pub output_whole : (hq : Option (List ℕ)) → hq ≡ hp → Puts (λ st. (threads schedule q.steps st).output) old told ho hq false
    output_whole hq kept =
        subst (λ (n : ℕ). Puts (λ st. (threads schedule n st).output) old told ho hq false) (sym same)
        (subst (λ (h : Option (List ℕ)). Puts (λ st. (threads schedule p.steps st).output) old told ho h false) (sym kept) there.output)

    pub errors_whole : (eq : Option (List ℕ)) → eq ≡ ep → Puts (λ st. (threads schedule q.steps st).errors) old told eo eq false
    errors_whole eq kept =
        subst (λ (n : ℕ). Puts (λ st. (threads schedule n st).errors) old told eo eq false) (sym same)
        (subst (λ (e : Option (List ℕ)). Puts (λ st. (threads schedule p.steps st).errors) old told eo e false) (sym kept) there.errors)
