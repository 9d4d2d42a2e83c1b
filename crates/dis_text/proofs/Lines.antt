-- The line of a text that begins with a name and no label.
use Rattle.std.proofs.Common.{◌≡◌, ℕ, ◌≤◌, if◌then◌else◌, Bool, false, Option, Some, None, Result, Ok, Err, List, [], ◌∷◌, length, nat_lt, ap, ◌∙◌, arith}
use Rattle.std.proofs.lemmas.Bool.{le-ltb}
use Rattle.asm_tokens.specs.Tokens.{tokens}
use Rattle.asm_tokens.specs.declared.target.Target.{Target}
use Rattle.listing_model.specs.declared.directive.DirectiveName.{DirectiveName}
use Rattle.listing_model.specs.declared.fault.ListingWhy.{ListingWhy}
use Rattle.listing_model.specs.declared.fault.ListingWhy.TheVariants.{LongLine, BadLabel}
use Rattle.listing_model.specs.Directives.{directive_named, is_label}
use Rattle.listing_model.specs.Bodies.{instruction_body}
use Rattle.listing_model.specs.LineOf.{instruction, named, body_of, with_label, line_of_tokens, line_of}
use Rattle.listing_model.specs.Statements.{Statements}
use Rattle.text_print.proofs.Tokens.{begins_with_colon}

module _ {I : Type 0} (s : Statements I) where
  -- a name with no colon behind it, which is no directive's
  by_tokens : (name : List ℕ) (ts : List (List ℕ)) → directive_named name ≡ None → begins_with_colon ts ≡ false
      → line_of_tokens s (name ∷ ts) ≡ with_label s None (instruction_body s (s.reads name ts))
  by_tokens name [] d c = ap (λ (o : Option DirectiveName). with_label s None (named s o name [])) d
  by_tokens name (u ∷ us) d c =
      ap (λ (b : Bool). if b then (if is_label name then with_label s (Some name) (body_of s us) else Err BadLabel) else with_label s None (body_of s (name ∷ u ∷ us))) c
      ∙ ap (λ (o : Option DirectiveName). with_label s None (named s o name (u ∷ us))) d

  pub line_is : (text name : List ℕ) (ts : List (List ℕ)) → tokens text ≡ name ∷ ts → length text ≤ 96 → directive_named name ≡ None → begins_with_colon ts ≡ false
      → line_of s text ≡ with_label s None (instruction_body s (s.reads name ts))
  line_is text name ts t l d c =
      let e : nat_lt 256 (length text) ≡ false = le-ltb 256 (length text) (omega (arith, l)) in
      ap (λ (b : Bool). if b then Err LongLine else line_of_tokens s (tokens text)) e ∙ ap (line_of_tokens s) t ∙ by_tokens name ts d c

  -- what a statement is read as
  pub line_read : (text name : List ℕ) (ts : List (List ℕ)) (i : I) (t : Option Target) → tokens text ≡ name ∷ ts → length text ≤ 96 → directive_named name ≡ None
      → begins_with_colon ts ≡ false → s.reads name ts ≡ Ok (i, t) → line_of s text ≡ Ok (record { label = None; body = instruction s i t })
  line_read text name ts i t e l d c r = line_is text name ts e l d c ∙ ap (λ (x : Result (I × Option Target) ListingWhy). with_label s None (instruction_body s x)) r
