-- What the parts of a line of two files promise, put together, whatever the second file is: the image, and its refusal.
use Rattle.std.proofs.Common.{◌≡◌, ℕ, Bool, true, false, List, [], get_or, length, Option, Some, None, Result, Ok, Err, IfSome, cond, nat_le, refl, sym, ap, subst, ◌∙◌}
use Rattle.std.specs.FinMap.{get}
use Rattle.io_gate.specs.Images.{whole_file}
use Rattle.io_gate.specs.Pieces.{PutsAll}
use Rattle.io_gate.specs.declared.images.ImagesError.TheVariants as images
use Rattle.command_model.specs.Refusals.{image_line}
use Rattle.command_lines.specs.Outcome.{Outcome, Files, file_at, file_limit, refusal}
use Rattle.command_lines.specs.declared.ending.Ending.{Ending}
use Rattle.command_lines.specs.declared.ending.Ending.TheVariants.{ImageRefused}
use Rattle.emu_system.specs.Image.{Image}
use Rattle.emu_system.specs.Start.{opening}
use Rattle.emu_system.specs.declared.image.ElfFault.{ElfFault}
use Rattle.commands.specs.declared.program.Program.{Program}
use Rattle.commands.specs.declared.two_files.SecondFile.{SecondFile}
use Rattle.commands.specs.declared.two_files.SecondFile.TheVariants.{Script, Schedule}
use Rattle.commands.specs.Endings.{ended_by}
use Rattle.commands.specs.Promises.{settles_by}
use Rattle.commands.specs.Meets.{Now, now, MeetsBy}
use Rattle.commands.specs.Lines.{file_goes_back, text_goes_back, IsBackward, IsForward}
use Rattle.commands.specs.SecondFiles.{ends_by, file_reads_first, outcome_by, outcome_from, text_reads_first, TakesBefore, TakesLater}
use Rattle.commands.proofs.MayEnd.{kind_put}
use Rattle.commands.proofs.Meetings.{line_meets}
use Rattle.commands.proofs.NamedFiles.{found_file_by, over, same_outcome}
use Rattle.commands.proofs.Settled.{refused_either}

pub refuses_kind : {T E : Type 0} (second : SecondFile) (put : Result T E) (fault : ElfFault) → ends_by second (ended_by put (ImageRefused fault)) ≡ true
refuses_kind Script put fault = kind_put (ends_by Script) put (ImageRefused fault) refl refl
refuses_kind Schedule put fault = kind_put (ends_by Schedule) put (ImageRefused fault) refl refl

-- ---- whether the input is read first, by the text of the second file and by the file

found_text : (b : Bool) (found text : List ℕ) → cond b (Ok found) (Err images.TooLong) ≡ Ok text → found ≡ text
found_text true found text e = cc
found_text false found text e = cc

found_goes_back : (o : Option (List ℕ)) (text : List ℕ) → whole_file o file_limit ≡ Ok text → text_goes_back text ≡ file_goes_back o
found_goes_back None text whole = cc
found_goes_back (Some found) text whole = ap text_goes_back (sym (found_text (nat_le (length found) file_limit) found text whole))

pub found_reads : (second : SecondFile) (o : Option (List ℕ)) (text : List ℕ) → whole_file o file_limit ≡ Ok text → text_reads_first second text ≡ file_reads_first second o
found_reads Script o text whole = found_goes_back o text whole
found_reads Schedule o text whole = refl

forward_text : (told : Option Files) (name text : List ℕ) → IfSome told (λ files. whole_file (get files name) file_limit ≡ Ok text) → IsForward told name → text_goes_back text ≡ false
forward_text None name text whole forward = absurd forward
forward_text (Some files) name text whole forward = found_goes_back (get files name) text whole ∙ forward

backward_text : (told : Option Files) (name text : List ℕ) → IfSome told (λ files. whole_file (get files name) file_limit ≡ Ok text) → IsBackward told name → text_goes_back text ≡ true
backward_text None name text whole back = absurd back
backward_text (Some files) name text whole back = found_goes_back (get files name) text whole ∙ back

pub before_text : (second : SecondFile) (told : Option Files) (name text : List ℕ) → IfSome told (λ files. whole_file (get files name) file_limit ≡ Ok text) → TakesBefore second told name → text_reads_first second text ≡ true
before_text Script told name text whole before = backward_text told name text whole before
before_text Schedule told name text whole before = absurd before

pub later_text : (second : SecondFile) (told : Option Files) (name text : List ℕ) → IfSome told (λ files. whole_file (get files name) file_limit ≡ Ok text) → TakesLater second told name → text_reads_first second text ≡ false
later_text Script told name text whole later = forward_text told name text whole later
later_text Schedule told name text whole later = refl

-- the second file was read, which put nothing
pub found_second : (second : SecondFile) (next : Files → List ℕ → List ℕ → Option Outcome) (told : Option Files) (words : List (List ℕ)) (place : ℕ) (name bytes items : List ℕ) (i o e still : Option (List ℕ)) (new : Now) (result : Ending)
    → name ≡ get_or words place [] → bytes ≡ items → still ≡ e → IfSome told (λ files. whole_file (get files name) file_limit ≡ Ok items)
    → IfSome told (λ files. MeetsBy (settles_by (text_reads_first second bytes)) (next files bytes) result (now i o still) new)
    → IfSome told (λ files. MeetsBy (settles_by (file_reads_first second (file_at words files place))) (over next words place files) result (now i o e) new)
found_second second next None words place name bytes items i o e still new result named are kept found meets = tt
found_second second next (Some files) words place name bytes items i o e still new result named are kept found meets =
    let whole : whole_file (file_at words files place) file_limit ≡ Ok bytes = ap (λ (n : List ℕ). whole_file (get files n) file_limit) (sym named) ∙ found ∙ ap (λ (xs : List ℕ). Ok xs) (sym are) in
    subst (λ (b : Bool). MeetsBy (settles_by b) (over next words place files) result (now i o e) new) (found_reads second (file_at words files place) bytes whole)
    (found_file_by (λ _. settles_by (text_reads_first second bytes)) next (Some files) words place name bytes items i o e still new result named are kept found meets)

-- and its input isn't read first
pub read_later : (second : SecondFile) (told : Option Files) (words : List (List ℕ)) (place : ℕ) (name bytes items : List ℕ) → name ≡ get_or words place [] → bytes ≡ items
    → IfSome told (λ files. whole_file (get files name) file_limit ≡ Ok items) → TakesLater second told (get_or words place []) → text_reads_first second bytes ≡ false
read_later second told words place name bytes items named are found later =
    later_text second told name bytes
    (subst (λ (xs : List ℕ). IfSome told (λ files. whole_file (get files name) file_limit ≡ Ok xs)) (sym are) found)
    (subst (λ (n : List ℕ). TakesLater second told n) (sym named) later)

-- and its input is read first
pub read_before : (second : SecondFile) (told : Option Files) (words : List (List ℕ)) (place : ℕ) (name bytes items : List ℕ) → name ≡ get_or words place [] → bytes ≡ items
    → IfSome told (λ files. whole_file (get files name) file_limit ≡ Ok items) → TakesBefore second told (get_or words place []) → text_reads_first second bytes ≡ true
read_before second told words place name bytes items named are found before =
    before_text second told name bytes
    (subst (λ (xs : List ℕ). IfSome told (λ files. whole_file (get files name) file_limit ≡ Ok xs)) (sym are) found)
    (subst (λ (n : List ℕ). TakesBefore second told n) (sym named) before)

module _ (bytes text : List ℕ) (args : List (List ℕ)) (p : Program) where
  pub refused_is : (second : SecondFile) (fault : ElfFault) (i : List ℕ) → refusal (ImageRefused fault) (image_line fault) ≡ outcome_by second bytes text args i p (Err fault)
  refused_is Script fault i = refl
  refused_is Schedule fault i = refl

  pub accepted_is : (second : SecondFile) (image : Image) (i : List ℕ) → outcome_from second text i p.budget (opening bytes image args p.length p.pages) ≡ outcome_by second bytes text args i p (Ok image)
  accepted_is Script image i = refl
  accepted_is Schedule image i = refl

  module _ (second : SecondFile) (b : Bool) (r : Result Image ElfFault) (old : Now) where
    abbrev pub by_image : List ℕ → Option Outcome
    by_image i = Some (outcome_by second bytes text args i p r)

    pub refused_by : {T E : Type 0} (fault : ElfFault) (new : Option (List ℕ)) (put : Result T E) (result : Ending) → Err fault ≡ r → result ≡ ended_by put (ImageRefused fault) → PutsAll old.errors new (image_line fault) put
        → MeetsBy (settles_by b) by_image result old (now old.input old.output new)
    refused_by fault new put result is by puts =
        subst (λ (x : Ending). MeetsBy (settles_by b) by_image x old (now old.input old.output new)) (sym by)
        (subst (λ (x : Result Image ElfFault). MeetsBy (settles_by b) (λ i. Some (outcome_by second bytes text args i p x)) (ended_by put (ImageRefused fault)) old (now old.input old.output new)) is
        (same_outcome (λ _. Some (refusal (ImageRefused fault) (image_line fault))) (λ i. Some (outcome_by second bytes text args i p (Err fault))) (ended_by put (ImageRefused fault)) old (now old.input old.output new)
        (λ i. ap (λ (o : Outcome). Some o) (refused_is second fault i))
        (refused_either b (λ _. Some (refusal (ImageRefused fault) (image_line fault))) (ended_by put (ImageRefused fault)) old (now old.input old.output new) (λ _. refl)
        (line_meets (ImageRefused fault) (image_line fault) old.input old.output old.errors new put refl puts))))

    pub accepted_by : (image : Image) (new : Now) (result : Ending) → Ok image ≡ r
        → MeetsBy (settles_by b) (λ i. Some (outcome_from second text i p.budget (opening bytes image args p.length p.pages))) result old new → MeetsBy (settles_by b) by_image result old new
    accepted_by image new result is meets =
        subst (λ (x : Result Image ElfFault). MeetsBy (settles_by b) (λ i. Some (outcome_by second bytes text args i p x)) result old new) is
        (same_outcome (λ i. Some (outcome_from second text i p.budget (opening bytes image args p.length p.pages))) (λ i. Some (outcome_by second bytes text args i p (Ok image))) result old new
        (λ i. ap (λ (o : Outcome). Some o) (accepted_is second image i)) meets)
