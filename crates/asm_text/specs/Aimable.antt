-- Instructions with a target have one in their text.
use Rattle.listing_model.specs.declared.line.Body.{Body}
use Rattle.listing_model.specs.declared.line.Body.TheVariants.{Nothing, Plain, Aimed, Directive}

abbrev pub IsAimable : {I : Type 0} → (I → Type 0) → Body I → Type 0
IsAimable has_target Nothing = Unit {0}
IsAimable has_target (Plain i) = Unit {0}
IsAimable has_target (Aimed i t) = has_target i
IsAimable has_target (Directive d) = Unit {0}
