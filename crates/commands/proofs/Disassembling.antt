-- What the parts of the command `dis` promise, put together.
use Rattle.std.proofs.Common.{◌≡◌, ℕ, List, Option, Some, Result, Ok, Err, refl, sym, subst}
use Rattle.io_gate.specs.Pieces.{PutsAll}
use Rattle.command_model.specs.Refusals.{image_line}
use Rattle.emu_system.specs.Image.{Image}
use Rattle.emu_system.specs.declared.image.ElfFault.{ElfFault}
use Rattle.asm_text.specs.Disassembly.{dis_of}
use Rattle.command_lines.specs.Outcome.{outcome_of_words}
use Rattle.command_lines.specs.declared.ending.Ending.{Ending}
use Rattle.command_lines.specs.declared.ending.Ending.TheVariants.{ImageRefused}
use Rattle.commands.specs.Endings.{done_by, ended_by}
use Rattle.commands.specs.Meets.{now, Meets}
use Rattle.commands.proofs.Meetings.{line_meets, output_meets}

module _ (file : List ℕ) (r : Result Image ElfFault) (input output errors : Option (List ℕ)) where
  -- the instructions were put
  pub words_put : {T E : Type 0} (image : Image) (new : Option (List ℕ)) (put : Result T E) (result : Ending) → Ok image ≡ r → result ≡ done_by put → PutsAll output new (dis_of file image) put
      → Meets (λ _. Some (outcome_of_words file r)) result (now input output errors) (now input new errors)
  words_put image new put result is by puts =
      subst (λ (x : Ending). Meets (λ _. Some (outcome_of_words file r)) x (now input output errors) (now input new errors)) (sym by)
      (subst (λ (x : Result Image ElfFault). Meets (λ _. Some (outcome_of_words file x)) (done_by put) (now input output errors) (now input new errors)) is
      (output_meets (dis_of file image) input output errors new put puts))

  -- the program is refused
  pub words_refused : {T E : Type 0} (fault : ElfFault) (new : Option (List ℕ)) (put : Result T E) (result : Ending) → Err fault ≡ r → result ≡ ended_by put (ImageRefused fault) → PutsAll errors new (image_line fault) put
      → Meets (λ _. Some (outcome_of_words file r)) result (now input output errors) (now input output new)
  words_refused fault new put result is by puts =
      subst (λ (x : Ending). Meets (λ _. Some (outcome_of_words file r)) x (now input output errors) (now input output new)) (sym by)
      (subst (λ (x : Result Image ElfFault). Meets (λ _. Some (outcome_of_words file x)) (ended_by put (ImageRefused fault)) (now input output errors) (now input output new)) is
      (line_meets (ImageRefused fault) (image_line fault) input output errors new put refl puts))
