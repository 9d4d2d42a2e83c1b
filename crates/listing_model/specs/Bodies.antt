-- What is read of a line's statement, as its body.
use Rattle.std.specs.Prelude.{Option, Ok, Result}
use Rattle.asm_tokens.specs.declared.target.Target.{Target}
use Rattle.line_words.specs.Refusals.{and_then}
use Rattle.listing_model.specs.declared.directive.Directive.{Directive}
use Rattle.listing_model.specs.declared.fault.ListingWhy.{ListingWhy}
use Rattle.listing_model.specs.declared.line.Body.{Body}
use Rattle.listing_model.specs.declared.line.Body.TheVariants as body
use Rattle.listing_model.specs.LineOf.{instruction}
use Rattle.listing_model.specs.Statements.{Statements}

module _ {I : Type 0} (s : Statements I) where
  abbrev pub instruction_body : Result (I × Option Target) ListingWhy → Result (Body I) ListingWhy
  instruction_body p = and_then p (λ p. Ok (instruction s p.0 p.1))

  abbrev pub directive_body : Result Directive ListingWhy → Result (Body I) ListingWhy
  directive_body d = and_then d (λ d. Ok (body.Directive d))
