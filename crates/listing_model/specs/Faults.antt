-- What the reading of a line answers, as the definitions refuse it.
use Rattle.std.specs.Prelude.{◌≡◌, Option, Some, None, Result, Ok, Err, IfSome}
use Rattle.asm_tokens.specs.declared.fault.AsmFault.{AsmFault}
use Rattle.asm_tokens.specs.declared.fault.AsmFault.TheVariants as fault
use Rattle.listing_model.specs.declared.fault.ListingWhy.{ListingWhy}
use Rattle.listing_model.specs.declared.fault.ListingWhy.TheVariants.{LongLine, BadLabel, UnknownName, BadOperands, OutOfRange}

-- the refusal that a fault is; want of memory is none
abbrev pub refusal : AsmFault → Option ListingWhy
refusal fault.LongLine = Some LongLine
refusal fault.BadLabel = Some BadLabel
refusal fault.UnknownName = Some UnknownName
refusal fault.BadOperands = Some BadOperands
refusal fault.OutOfRange = Some OutOfRange
refusal fault.OutOfMemory = None

-- A call answers what a definition gives: its value, or its refusal, or want of memory.
abbrev pub Answers : {A : Type 0} → Result A AsmFault → Result A ListingWhy → Type 0
Answers (Ok x) r = r ≡ Ok x
Answers (Err e) r = IfSome (refusal e) (λ why. r ≡ Err why)
