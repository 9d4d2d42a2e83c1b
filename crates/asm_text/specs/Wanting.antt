-- Lines of which something is copied, so that there may be no memory for them: a label, a list of numbers, a string, the label of an
-- entry, or one that a statement ends in.
use Rattle.std.specs.Prelude.{◌≡◌, ℕ, Bool, true, false, List, [], ◌∷◌, Option, Some, None, Result, Ok}
use Rattle.asm_tokens.specs.declared.target.Target.{Target}
use Rattle.asm_tokens.specs.declared.target.Target.TheVariants.{Label}
use Rattle.listing_model.specs.declared.directive.DirectiveName.{DirectiveName}
use Rattle.listing_model.specs.declared.directive.DirectiveName.TheVariants.{Code, Data, Byte, Half, Word, Quad, Ascii, Zero, Align, Bss, Entry}
use Rattle.listing_model.specs.declared.fault.ListingWhy.{ListingWhy}
use Rattle.listing_model.specs.Directives.{directive_named, is_label}
use Rattle.listing_model.specs.LineOf.{colon}
use Rattle.listing_model.specs.Statements.{Statements}
use Rattle.asm_tokens.specs.Layout.{is_sign}

-- A statement is read as an instruction with a label as its target.
pub record SaysLabel {I : Type 0} (said : Result (I × Option Target) ListingWhy) : Type 0 where
  pub insn : I
  pub label : List ℕ
  pub is : said ≡ Ok (insn, Some (Label label))

-- a directive that has a list, a string or an entry
abbrev pub is_copied : DirectiveName → Bool
is_copied Code = false
is_copied Data = false
is_copied Byte = true
is_copied Half = true
is_copied Word = true
is_copied Quad = true
is_copied Ascii = true
is_copied Zero = false
is_copied Align = false
is_copied Bss = false
is_copied Entry = true

module _ {I : Type 0} (s : Statements I) where
  abbrev pub IsNamedCopied : Option DirectiveName → List ℕ → List (List ℕ) → Type 0
  IsNamedCopied None name ts = SaysLabel (s.reads name ts)
  IsNamedCopied (Some d) name ts = is_copied d ≡ true

  -- something of a statement
  abbrev pub IsBodyCopied : List (List ℕ) → Type 0
  IsBodyCopied [] = ⊥
  IsBodyCopied (t ∷ ts) = IsNamedCopied (directive_named t) t ts

  abbrev pub IsLabelOrBodyCopied : Bool → List ℕ → List (List ℕ) → Type 0
  IsLabelOrBodyCopied true t ts = is_label t ≡ true
  IsLabelOrBodyCopied false t ts = IsBodyCopied (t ∷ ts)

  -- something of a line: the label before its colon, or something of its statement
  abbrev pub IsLineCopied : List (List ℕ) → Type 0
  IsLineCopied [] = ⊥
  IsLineCopied (t ∷ []) = IsBodyCopied (t ∷ [])
  IsLineCopied (t ∷ u ∷ ts) = IsLabelOrBodyCopied (is_sign colon u) t (u ∷ ts)
