-- What a line says. A label and its colon are as in GNU as's manual, 'Labels'; all else is this project's own choice,
-- as docs/MANUAL.md has it under "Listings".
use Rattle.std.specs.Prelude.{ℕ, if◌then◌else◌, List, [], ◌∷◌, Option, Some, None, Result, Ok, Err, length, nat_lt}
use Rattle.std.specs.Option.{option_map_or}
use Rattle.asm_tokens.specs.declared.target.Target.{Target}
use Rattle.line_words.specs.Refusals.{and_then}
use Rattle.listing_model.specs.declared.directive.DirectiveName.{DirectiveName}
use Rattle.listing_model.specs.declared.fault.ListingWhy.{ListingWhy}
use Rattle.listing_model.specs.declared.fault.ListingWhy.TheVariants.{LongLine, BadLabel}
use Rattle.listing_model.specs.declared.line.Body.{Body}
use Rattle.listing_model.specs.declared.line.Body.TheVariants as body
use Rattle.listing_model.specs.declared.line.Line.{Line}
use Rattle.listing_model.specs.Directives.{directive_named, directive_of, is_label}
use Rattle.listing_model.specs.Statements.{Statements}
use Rattle.asm_tokens.specs.Layout.{is_sign}
use Rattle.asm_tokens.specs.Tokens.{tokens}

abbrev pub colon : ℕ
colon = 58

module _ {I : Type 0} (s : Statements I) where
  abbrev pub instruction : I → Option Target → Body I
  instruction i t = option_map_or (body.Aimed i) t (body.Plain i)

  -- a statement of a name: a directive, or else an instruction
  abbrev pub named : Option DirectiveName → List ℕ → List (List ℕ) → Result (Body I) ListingWhy
  named None name ts = and_then (s.reads name ts) (λ p. Ok (instruction p.0 p.1))
  named (Some d) name ts = and_then (directive_of d ts) (λ d. Ok (body.Directive d))

  abbrev pub body_of : List (List ℕ) → Result (Body I) ListingWhy
  body_of [] = Ok body.Nothing
  body_of (t ∷ ts) = named (directive_named t) t ts

  abbrev pub with_label : Option (List ℕ) → Result (Body I) ListingWhy → Result (Line I) ListingWhy
  with_label l b = and_then b (λ b. Ok (record { label = l; body = b }))

  -- a label is a first token with a colon behind it
  abbrev pub line_of_tokens : List (List ℕ) → Result (Line I) ListingWhy
  line_of_tokens [] = Ok (record { label = None; body = body.Nothing })
  line_of_tokens (t ∷ []) = with_label None (body_of (t ∷ []))
  line_of_tokens (t ∷ u ∷ ts) =
      if is_sign colon u then (if is_label t then with_label (Some t) (body_of ts) else Err BadLabel)
      else with_label None (body_of (t ∷ u ∷ ts))

  -- what a line says, or why it is refused
  abbrev pub line_of : List ℕ → Result (Line I) ListingWhy
  line_of text = if nat_lt 256 (length text) then Err LongLine else line_of_tokens (tokens text)
