-- The answers of steps, by their names.
use Rattle.std.proofs.Common.{◌≡◌, false, Option, Some, None, is_none, refl, sym}
use Rattle.emu_model.specs.declared.trap.Ended.{Ended}
use Rattle.emu_model.specs.declared.trap.Ended.TheVariants.{Exit, Trap}
use Rattle.emu_machine.specs.declared.ends.StepEnd.{StepEnd}
use Rattle.emu_machine.specs.declared.ends.StepEnd.TheVariants.{Going, Exit as StepExit, Trap as StepTrap, ReadFault as StepReadFault, WriteFault as StepWriteFault, ErrorsFault as StepErrorsFault}
use Rattle.emu_machine.specs.Ends.{is_undone, step_end}
use Rattle.guest_threads.specs.declared.went.Went.{Went}
use Rattle.guest_threads.specs.declared.went.Went.TheVariants.{On, Over, ReadFault, WriteFault, ErrorsFault}
use Rattle.guest_threads.specs.Named.{last_end, went_by}
use Rattle.guest_threads.proofs.Runs.{not_going}

-- an answer is found again by its name
pub end_same : (end : StepEnd) (e : Option Ended) → (is_undone end ≡ false → end ≡ step_end e) → last_end (went_by end) e ≡ end
end_same Going e done = refl
end_same (StepExit code) e done = sym (done refl)
end_same (StepTrap t) e done = sym (done refl)
end_same StepReadFault e done = refl
end_same StepWriteFault e done = refl
end_same StepErrorsFault e done = refl

-- the name of an end is that of a world that has ended
pub over_ended : (end : StepEnd) (e : Option Ended) → (is_undone end ≡ false → end ≡ step_end e) → went_by end ≡ Over → is_none e ≡ false
over_ended Going e done is = cc
over_ended (StepExit code) e done is = not_going e (StepExit code) (done refl) (λ (x : StepExit code ≡ Going). cc)
over_ended (StepTrap t) e done is = not_going e (StepTrap t) (done refl) (λ (x : StepTrap t ≡ Going). cc)
over_ended StepReadFault e done is = cc
over_ended StepWriteFault e done is = cc
over_ended StepErrorsFault e done is = cc

-- no other name goes on
pub not_on : (w : Went) (e : Option Ended) → (w ≡ On → ⊥) → (w ≡ Over → is_none e ≡ false) → last_end w e ≡ Going → ⊥
not_on On e other over is = other refl
not_on Over None other over is = let h = over refl in absurd (cc)
not_on Over (Some (Exit code)) other over is = absurd (cc)
not_on Over (Some (Trap t)) other over is = absurd (cc)
not_on ReadFault e other over is = absurd (cc)
not_on WriteFault e other over is = absurd (cc)
not_on ErrorsFault e other over is = absurd (cc)
