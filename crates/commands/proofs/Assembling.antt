-- What the parts of the command `asm` promise, put together.
use Rattle.std.proofs.Common.{◌≡◌, ℕ, ◌+◌, List, take, count_by, Option, Some, Result, Ok, Err, refl, sym, ap, subst, ◌∙◌}
use Rattle.std.specs.Str.{IsUtf8}
use Rattle.std.specs.Str.Lossy.{utf8_valid_len}
use Rattle.asm_image.specs.Assembly.{IsMade}
use Rattle.asm_image.specs.declared.assembly.AsmError.{AsmError}
use Rattle.asm_image.specs.declared.assembly.AsmError.TheVariants.{Refused}
use Rattle.io_gate.specs.Pieces.{PutsAll}
use Rattle.command_model.specs.Refusals.{listing_line}
use Rattle.line_words.specs.Lines.{is_newline}
use Rattle.asm_text.specs.Statements.{statements}
use Rattle.listing_model.specs.Image.{image_of, image_of_bytes}
use Rattle.listing_model.specs.declared.fault.ListingFault.{ListingFault}
use Rattle.listing_model.specs.declared.fault.ListingWhy.TheVariants.{NotUtf8}
use Rattle.command_lines.specs.Outcome.{outcome_of_listing}
use Rattle.command_lines.specs.declared.ending.Ending.{Ending}
use Rattle.command_lines.specs.declared.ending.Ending.TheVariants.{ListingRefused}
use Rattle.commands.specs.Endings.{done_by, ended_by}
use Rattle.commands.specs.Meets.{now, Meets}
use Rattle.commands.proofs.Meetings.{line_meets, output_meets}
use Rattle.commands.proofs.TextFiles.{of_text, of_no_text}

abbrev pub bad_listing : ℕ → Result (List ℕ) ListingFault
bad_listing line = Err (record { line = line; why = NotUtf8 })

pub text_listing : (bytes text : List ℕ) → text ≡ bytes → IsUtf8 bytes → image_of statements text ≡ image_of_bytes statements bytes
text_listing bytes text same is = ap (image_of statements) same ∙ sym (of_text bytes (image_of statements bytes) (bad_listing (1 + count_by is_newline (take (utf8_valid_len bytes) bytes))) is)

pub no_listing : (bytes : List ℕ) (place : ℕ) → place ≡ utf8_valid_len bytes → (IsUtf8 bytes → ⊥) → image_of_bytes statements bytes ≡ bad_listing (1 + count_by is_newline (take place bytes))
no_listing bytes place at none =
    of_no_text bytes (image_of statements bytes) (bad_listing (1 + count_by is_newline (take (utf8_valid_len bytes) bytes))) none
    ∙ ap (λ (n : ℕ). bad_listing (1 + count_by is_newline (take n bytes))) (sym at)

pub is_refused : (r : Result (List ℕ) ListingFault) (error : AsmError) (fault : ListingFault) → error ≡ Refused fault → IsMade (Err error) r → r ≡ Err fault
is_refused r error fault is made = subst (λ (e : AsmError). IsMade (Err e) r) is made

module _ (r : Result (List ℕ) ListingFault) (input output errors : Option (List ℕ)) where
  -- the file was put
  pub made_listing : {T E : Type 0} (file bytes : List ℕ) (new : Option (List ℕ)) (put : Result T E) (result : Ending) → r ≡ Ok file → bytes ≡ file → result ≡ done_by put → PutsAll output new bytes put
      → Meets (λ _. Some (outcome_of_listing r)) result (now input output errors) (now input new errors)
  made_listing file bytes new put result is same by puts =
      subst (λ (x : Ending). Meets (λ _. Some (outcome_of_listing r)) x (now input output errors) (now input new errors)) (sym by)
      (subst (λ (x : Result (List ℕ) ListingFault). Meets (λ _. Some (outcome_of_listing x)) (done_by put) (now input output errors) (now input new errors)) (ap (λ (xs : List ℕ). Ok xs) same ∙ sym is)
      (output_meets bytes input output errors new put puts))

  -- the listing is refused
  pub refused_listing : {T E : Type 0} (fault : ListingFault) (new : Option (List ℕ)) (put : Result T E) (result : Ending) → r ≡ Err fault → result ≡ ended_by put (ListingRefused fault) → PutsAll errors new (listing_line fault) put
      → Meets (λ _. Some (outcome_of_listing r)) result (now input output errors) (now input output new)
  refused_listing fault new put result is by puts =
      subst (λ (x : Ending). Meets (λ _. Some (outcome_of_listing r)) x (now input output errors) (now input output new)) (sym by)
      (subst (λ (x : Result (List ℕ) ListingFault). Meets (λ _. Some (outcome_of_listing x)) (ended_by put (ListingRefused fault)) (now input output errors) (now input output new)) (sym is)
      (line_meets (ListingRefused fault) (listing_line fault) input output errors new put refl puts))
