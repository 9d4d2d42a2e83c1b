-- What the parts of the command `load` promise, put together.
use Rattle.std.proofs.Common.{◌≡◌, ℕ, List, Option, Some, Result, Ok, Err, refl, sym, ap, subst, ◌∙◌}
use Rattle.io_gate.specs.Pieces.{PutsAll}
use Rattle.command_model.specs.Refusals.{image_line, listing_line}
use Rattle.emu_system.specs.Image.{Image, elf}
use Rattle.emu_system.specs.declared.image.ElfFault.{ElfFault}
use Rattle.command_lines.specs.Outcome.{outcome_of_load, outcome_of_loaded}
use Rattle.command_lines.specs.declared.ending.Ending.{Ending}
use Rattle.command_lines.specs.declared.ending.Ending.TheVariants.{ImageRefused, ListingRefused}
use Rattle.listing_model.specs.declared.fault.ListingFault.{ListingFault}
use Rattle.command_model.specs.Load.{load_pages, load_text}
use Rattle.commands.specs.Endings.{done_by, ended_by}
use Rattle.commands.specs.Meets.{now, Meets, Now}
use Rattle.commands.proofs.Meetings.{line_meets, output_meets}

module _ (file : List ℕ) (r : Result Image ElfFault) (input output errors : Option (List ℕ)) where
  -- the lines were put
  pub lines_put : {T E : Type 0} (image : Image) (lines : List ℕ) (new : Option (List ℕ)) (put : Result T E) (result : Ending) → Ok image ≡ r → lines ≡ load_text file image → result ≡ done_by put → PutsAll output new lines put
      → Meets (λ _. Some (outcome_of_loaded file r)) result (now input output errors) (now input new errors)
  lines_put image lines new put result is text by puts =
      subst (λ (x : Ending). Meets (λ _. Some (outcome_of_loaded file r)) x (now input output errors) (now input new errors)) (sym by)
      (subst (λ (x : Result Image ElfFault). Meets (λ _. Some (outcome_of_loaded file x)) (done_by put) (now input output errors) (now input new errors)) is
      (output_meets (load_text file image) input output errors new put (subst (λ (xs : List ℕ). PutsAll output new xs put) text puts)))

  -- the program is refused
  pub program_refused : {T E : Type 0} (fault : ElfFault) (new : Option (List ℕ)) (put : Result T E) (result : Ending) → Err fault ≡ r → result ≡ ended_by put (ImageRefused fault) → PutsAll errors new (image_line fault) put
      → Meets (λ _. Some (outcome_of_loaded file r)) result (now input output errors) (now input output new)
  program_refused fault new put result is by puts =
      subst (λ (x : Ending). Meets (λ _. Some (outcome_of_loaded file r)) x (now input output errors) (now input output new)) (sym by)
      (subst (λ (x : Result Image ElfFault). Meets (λ _. Some (outcome_of_loaded file x)) (ended_by put (ImageRefused fault)) (now input output errors) (now input output new)) is
      (line_meets (ImageRefused fault) (image_line fault) input output errors new put refl puts))

module _ (r : Result (List ℕ) ListingFault) where
  -- the listing made a file
  pub file_loaded : (file bytes : List ℕ) (result : Ending) (old new : Now) → r ≡ Ok file → bytes ≡ file → Meets (λ _. Some (outcome_of_loaded bytes (elf bytes load_pages))) result old new → Meets (λ _. Some (outcome_of_load r)) result old new
  file_loaded file bytes result old new is same meets = subst (λ (x : Result (List ℕ) ListingFault). Meets (λ _. Some (outcome_of_load x)) result old new) (ap (λ (xs : List ℕ). Ok xs) same ∙ sym is) meets

  -- the listing is refused
  pub load_refused : {T E : Type 0} (input output errors : Option (List ℕ)) (fault : ListingFault) (new : Option (List ℕ)) (put : Result T E) (result : Ending) → r ≡ Err fault → result ≡ ended_by put (ListingRefused fault)
      → PutsAll errors new (listing_line fault) put → Meets (λ _. Some (outcome_of_load r)) result (now input output errors) (now input output new)
  load_refused input output errors fault new put result is by puts =
      subst (λ (x : Ending). Meets (λ _. Some (outcome_of_load r)) x (now input output errors) (now input output new)) (sym by)
      (subst (λ (x : Result (List ℕ) ListingFault). Meets (λ _. Some (outcome_of_load x)) (ended_by put (ListingRefused fault)) (now input output errors) (now input output new)) (sym is)
      (line_meets (ListingRefused fault) (listing_line fault) input output errors new put refl puts))

-- the line of a refusal was put, whatever name it goes by
pub puts_line : {T E : Type 0} (old new : Option (List ℕ)) (put : Result T E) (passed fault : ListingFault) → PutsAll old new (listing_line passed) put → passed ≡ fault → PutsAll old new (listing_line fault) put
puts_line old new put passed fault puts same = subst (λ (x : ListingFault). PutsAll old new (listing_line x) put) same puts
