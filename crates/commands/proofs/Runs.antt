-- What the parts of a run promise, put together: its report and its image.
use Rattle.std.proofs.Common.{◌≡◌, ℕ, List, ◌++◌, Option, Some, Result, Ok, Err, refl, sym, ap₂, subst}
use Rattle.io_gate.specs.Pieces.{PutsAll}
use Rattle.emu_model.specs.State.{Core, Vectors, Parts}
use Rattle.emu_system.specs.Image.{Image}
use Rattle.emu_system.specs.Start.{opening, with_input}
use Rattle.emu_system.specs.declared.image.ElfFault.{ElfFault}
use Rattle.emu_run.specs.Run.{run}
use Rattle.emu_run.specs.Registers.{scalar_lines, vector_lines, register_lines}
use Rattle.command_model.specs.Refusals.{image_line}
use Rattle.command_lines.specs.Outcome.{Outcome, outcome_of_run, outcome_of_image}
use Rattle.command_lines.specs.declared.ending.Ending.{Ending}
use Rattle.command_lines.specs.declared.ending.Ending.TheVariants.{ImageRefused}
use Rattle.commands.specs.Endings.{ended_by}
use Rattle.commands.specs.Meets.{Now, now, Meets}
use Rattle.commands.proofs.Meetings.{line_meets}

-- ---- the report

pub registers_text : (m : Parts) (core : Core) (v : Vectors) → core ≡ m.core → v ≡ m.vectors → scalar_lines core v.bits ++ vector_lines v ≡ register_lines m
registers_text m core v c w = ap₂ (λ (x : Core) (y : Vectors). scalar_lines x y.bits ++ vector_lines y) c w

-- ---- the image

module _ (file : List ℕ) (args : List (List ℕ)) (bits budget pages : ℕ) (r : Result Image ElfFault) (old : Now) where
  abbrev pub of_image : List ℕ → Option Outcome
  of_image i = Some (outcome_of_image file args i bits budget pages r)

  pub refused_image : {T E : Type 0} (fault : ElfFault) (new : Option (List ℕ)) (put : Result T E) (result : Ending) → Err fault ≡ r → result ≡ ended_by put (ImageRefused fault) → PutsAll old.errors new (image_line fault) put
      → Meets of_image result old (now old.input old.output new)
  refused_image fault new put result is by puts =
      subst (λ (x : Ending). Meets of_image x old (now old.input old.output new)) (sym by)
      (subst (λ (x : Result Image ElfFault). Meets (λ i. Some (outcome_of_image file args i bits budget pages x)) (ended_by put (ImageRefused fault)) old (now old.input old.output new)) is
      (line_meets (ImageRefused fault) (image_line fault) old.input old.output old.errors new put refl puts))

  pub opened_image : (image : Image) (m : Parts) (new : Now) (result : Ending) → Ok image ≡ r → m ≡ opening file image args bits pages
      → Meets (λ i. Some (outcome_of_run i (run (with_input m i) budget))) result old new → Meets of_image result old new
  opened_image image m new result is of meets =
      subst (λ (x : Result Image ElfFault). Meets (λ i. Some (outcome_of_image file args i bits budget pages x)) result old new) is
      (subst (λ (x : Parts). Meets (λ i. Some (outcome_of_run i (run (with_input x i) budget))) result old new) of meets)
