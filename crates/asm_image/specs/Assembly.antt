-- What whole listings give.
use Rattle.std.specs.Prelude.{◌≡◌, ℕ, List, Option, Some, None, Result, Ok, Err, length}
use Rattle.std.specs.Global.{Vec}
use Rattle.asm_image.specs.declared.assembly.AsmError.{AsmError}
use Rattle.asm_image.specs.declared.assembly.AsmError.TheVariants as error
use Rattle.asm_image.specs.declared.draft.Draft.{Draft}
use Rattle.asm_image.specs.declared.draft.Hole.{Hole}
use Rattle.asm_image.specs.declared.draft.Stop.{Stop}
use Rattle.asm_image.specs.declared.draft.Stop.TheVariants as stop
use Rattle.asm_image.specs.Draft.{IsDraft}
use Rattle.asm_image.specs.Filling.{ArePieces}
use Rattle.asm_tokens.specs.declared.fault.AsmFault.{AsmFault}
use Rattle.listing_model.specs.declared.fault.ListingFault.{ListingFault}
use Rattle.listing_model.specs.Faults.{refusal}
use Rattle.listing_model.specs.Layout.{Labeled, Layout}

-- a fault of a line, as what stops its placing
abbrev pub IsStop : AsmFault → Stop → Type 0
IsStop f (stop.Refused why) = refusal f ≡ Some why
IsStop f stop.OutOfMemory = refusal f ≡ None

-- what stops the placing of a line, as the error of the listing
abbrev pub stopped_at : ℕ → Stop → AsmError
stopped_at n (stop.Refused why) = error.Refused (record { line = n; why = why })
stopped_at n stop.OutOfMemory = error.OutOfMemory

-- a draft of what the definitions make of some lines; or they refuse one, or memory is wanting
abbrev pub IsDrafted : {I : Type 0} → (I → Type 0) → Result (Draft I) AsmError → Result (Layout I) ListingFault → Type 0
IsDrafted {I = I} h (Ok d) r = (l : Layout I) × (r ≡ Ok l) × IsDraft h d l
IsDrafted h (Err (error.Refused f)) r = r ≡ Err f
IsDrafted h (Err error.OutOfMemory) r = Unit {0}

-- the file that the definitions make; or they refuse the listing, or memory is wanting
abbrev pub IsMade : Result (Vec ℕ) AsmError → Result (List ℕ) ListingFault → Type 0
IsMade (Ok v) r = r ≡ Ok v.items
IsMade (Err (error.Refused f)) r = r ≡ Err f
IsMade (Err error.OutOfMemory) r = Unit {0}

-- the parts of a draft that holds a layout
pub record ArePartsOf {I : Type 0} (l : Layout I) (code values : List ℕ) (labels : List Labeled) (entry : Option (List ℕ)) (holes : List (Hole I)) (bss : ℕ) : Type 0 where
  pub pieces : ArePieces l.pieces code values holes
  pub code_size : l.code_size ≡ length code
  pub labels_are : labels ≡ l.labels
  pub entry_is : entry ≡ l.entry
  pub bss_is : bss ≡ l.bss_size
