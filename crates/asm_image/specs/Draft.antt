-- What a draft says of the layout that the definitions make of the same lines.
use Rattle.std.specs.Prelude.{◌≡◌, ℕ, ◌+◌, ◌^◌, ◌<◌, true, false, if◌then◌else◌, List, [], ◌∷◌, ◌++◌, ◌%◌, ◌==◌, ◌≤◌, Option, Some, None, Result, Ok, Err, length, replicate, sum_by}
use Rattle.asm_image.specs.declared.draft.Draft.{Draft}
use Rattle.asm_image.specs.declared.draft.Gap.{Gap}
use Rattle.asm_image.specs.declared.draft.Gap.TheVariants.{Aim, Address, Mention}
use Rattle.asm_image.specs.declared.draft.Hole.{Hole}
use Rattle.asm_image.specs.declared.draft.Stop.{Stop}
use Rattle.asm_image.specs.declared.labels.Place.{Place}
use Rattle.asm_image.specs.declared.draft.Stop.TheVariants.{Refused, OutOfMemory}
use Rattle.listing_model.specs.declared.fault.ListingWhy.{ListingWhy}
use Rattle.listing_model.specs.declared.fault.ListingWhy.TheVariants.{InstructionInData, LabelTwice, Misaligned, TooLarge}
use Rattle.listing_model.specs.declared.directive.Directive.{Directive}
use Rattle.listing_model.specs.declared.directive.Directive.TheVariants as directive
use Rattle.listing_model.specs.declared.line.Body.{Body}
use Rattle.listing_model.specs.declared.line.Body.TheVariants as body
use Rattle.listing_model.specs.declared.line.Section.{Section}
use Rattle.listing_model.specs.declared.line.Section.TheVariants.{Code}
use Rattle.listing_model.specs.Layout.{Piece, bytes, aimed, address, mention, Placed, Labeled, Layout, size, is_data, is_instruction, is_twice, here, placed_from, with_line, is_too_large}
use Rattle.listing_model.specs.Statements.{Statements}

-- ---- bytes and holes of pieces

-- the bytes of a piece, zeros where something is to be filled in
abbrev pub drafted : {I : Type 0} → Piece I → List ℕ
drafted (bytes bs) = bs
drafted (aimed i t) = replicate 4 0
drafted (address n) = replicate 8 0
drafted (mention n) = []

-- a byte list that stands in a section, as another section has it
abbrev pub in_code : Section → List ℕ → List ℕ
in_code s bs = if is_data s then [] else bs

abbrev pub in_data : Section → List ℕ → List ℕ
in_data s bs = if is_data s then bs else []

abbrev pub drafted_code : {I : Type 0} → List (Placed I) → List ℕ
drafted_code [] = []
drafted_code (p ∷ ps) = in_code p.section (drafted p.piece) ++ drafted_code ps

abbrev pub drafted_data : {I : Type 0} → List (Placed I) → List ℕ
drafted_data [] = []
drafted_data (p ∷ ps) = in_data p.section (drafted p.piece) ++ drafted_data ps

abbrev pub hole : {I : Type 0} → Placed I → Gap I → Hole I
hole p g = record { line = p.line; place = record { section = p.section; at = p.place }; gap = g }

abbrev pub holes : {I : Type 0} → Placed I → Piece I → List (Hole I)
holes p (bytes bs) = []
holes p (aimed i t) = hole p (Aim i t) ∷ []
holes p (address n) = hole p (Address n) ∷ []
holes p (mention n) = hole p (Mention n) ∷ []

abbrev pub holes_of : {I : Type 0} → List (Placed I) → List (Hole I)
holes_of [] = []
holes_of (p ∷ ps) = holes p p.piece ++ holes_of ps

-- ---- a draft and a layout

-- pieces stand one behind the other in each section, behind so many bytes of code and of data
abbrev pub InOrder : {I : Type 0} → ℕ → ℕ → List (Placed I) → Type 0
InOrder c d [] = Unit {0}
InOrder c d (p ∷ ps) =
    (p.place ≡ (if is_data p.section then d else c))
    × InOrder (c + (if is_data p.section then 0 else size p.piece)) (d + (if is_data p.section then size p.piece else 0)) ps

-- an instruction with a target has one in its text
abbrev pub IsAimablePiece : {I : Type 0} → (I → Type 0) → Piece I → Type 0
IsAimablePiece has_target (bytes bs) = Unit {0}
IsAimablePiece has_target (aimed i t) = has_target i
IsAimablePiece has_target (address n) = Unit {0}
IsAimablePiece has_target (mention n) = Unit {0}

abbrev pub AreAimable : {I : Type 0} → (I → Type 0) → List (Placed I) → Type 0
AreAimable has_target [] = Unit {0}
AreAimable has_target (p ∷ ps) = IsAimablePiece has_target p.piece × AreAimable has_target ps

-- the draft holds what the layout says
pub record IsDraft {I : Type 0} (has_target : I → Type 0) (d : Draft I) (l : Layout I) : Type 0 where
  pub code : d.code.items ≡ drafted_code l.pieces
  pub values : d.values.items ≡ drafted_data l.pieces
  pub code_size : l.code_size ≡ length (drafted_code l.pieces)
  pub data_size : l.data_size ≡ length (drafted_data l.pieces)
  pub bss : d.bss ≡ l.bss_size
  pub section : d.section ≡ l.section
  pub labels : d.labels ≡ l.labels
  pub entry : d.entry ≡ l.entry
  pub holes : d.holes.items ≡ holes_of l.pieces
  pub in_order : InOrder 0 0 l.pieces
  pub aimable : AreAimable has_target l.pieces

-- where the draft's next byte stands in its section
abbrev pub place_in : {I : Type 0} → Draft I → ℕ
place_in d = if is_data d.section then length d.values.items else length d.code.items

-- these bytes stand at the draft's next byte, these holes behind its own, and nothing else has changed
pub record Puts {I : Type 0} (old new : Draft I) (bs : List ℕ) (hs : List (Hole I)) : Type 0 where
  pub code : new.code.items ≡ old.code.items ++ in_code old.section bs
  pub values : new.values.items ≡ old.values.items ++ in_data old.section bs
  pub bss : new.bss ≡ old.bss
  pub section : new.section ≡ old.section
  pub labels : new.labels ≡ old.labels
  pub entry : new.entry ≡ old.entry
  pub holes : new.holes.items ≡ old.holes.items ++ hs

abbrev pub label_here : {I : Type 0} → Option (List ℕ) → Draft I → List Labeled
label_here None d = []
label_here (Some n) d = record { name = n; section = d.section; place = place_in d } ∷ []

-- a hole of a line at the draft's next byte
abbrev pub hole_at : {I : Type 0} → ℕ → Draft I → Gap I → Hole I
hole_at n d g = record { line = n; place = record { section = d.section; at = place_in d }; gap = g }

-- memory is wanting, or n bytes more at a place are too many for a section
abbrev pub IsFull : ℕ → ℕ → Stop → Type 0
IsFull place n (Refused why) = (why ≡ TooLarge) × (2 ^ 24 < place + n)
IsFull place n OutOfMemory = Unit {0}

pub record IsEmptyDraft {I : Type 0} (d : Draft I) : Type 0 where
  pub code : d.code.items ≡ []
  pub values : d.values.items ≡ []
  pub bss : d.bss ≡ 0
  pub section : d.section ≡ Code
  pub labels : d.labels ≡ []
  pub entry : d.entry ≡ None
  pub holes : d.holes.items ≡ []

-- ---- lines

-- pieces of line n behind a layout
abbrev pub with_pieces : {I : Type 0} → ℕ → List (Piece I) → Layout I → Layout I
with_pieces n ps l = record l {
  pieces = l.pieces ++ placed_from n l.section (here l) ps;
  code_size = l.code_size + (if is_data l.section then 0 else sum_by size ps);
  data_size = l.data_size + (if is_data l.section then sum_by size ps else 0);
}

-- the layout with the body of line n more
abbrev pub with_body : {I : Type 0} → Statements I → ℕ → Layout I → Body I → Layout I
with_body s n l b = with_line s n l (record { label = None; body = b })

-- the draft holds a layout of a size that is allowed; or it is too large, or memory is wanting
abbrev pub IsPut : {I : Type 0} → (I → Type 0) → Result (Unit {0}) Stop → Draft I → Layout I → Type 0
IsPut h (Ok u) d l = IsDraft h d l
IsPut h (Err (Refused why)) d l = (why ≡ TooLarge) × (is_too_large l ≡ true)
IsPut h (Err OutOfMemory) d l = Unit {0}

-- the draft holds what the definitions make of one line more; or they refuse it, or memory is wanting
abbrev pub IsPlaced : {I : Type 0} → (I → Type 0) → Result (Unit {0}) Stop → Draft I → Result (Layout I) ListingWhy → Type 0
IsPlaced {I = I} h (Ok u) d r = (l : Layout I) × (r ≡ Ok l) × IsDraft h d l
IsPlaced h (Err (Refused why)) d r = r ≡ Err why
IsPlaced h (Err OutOfMemory) d r = Unit {0}

-- numbers have at most 8 bytes
abbrev pub IsSizedDirective : Directive → Type 0
IsSizedDirective (directive.Numbers n ts) = n ≤ 8
IsSizedDirective d = Unit {0}

abbrev pub IsSized : {I : Type 0} → Body I → Type 0
IsSized (body.Directive d) = IsSizedDirective d
IsSized b = Unit {0}

-- an entry is the first
abbrev pub IsFirstEntry : {I : Type 0} → Draft I → Body I → Type 0
IsFirstEntry d (body.Directive (directive.Entry n)) = d.entry ≡ None
IsFirstEntry d b = Unit {0}

-- whether an instruction may stand at a place
abbrev pub misplaced_at : Place → Option ListingWhy
misplaced_at p = if is_data p.section then Some InstructionInData else (if p.at % 4 == 0 then None else Some Misaligned)

-- whether a body may stand at a place
abbrev pub body_misplaced : {I : Type 0} → Body I → Place → Option ListingWhy
body_misplaced b p = if is_instruction b then misplaced_at p else None

-- nothing is refused, or just this
abbrev pub ChecksPlace : Option ListingWhy → Result (Unit {0}) Stop → Type 0
ChecksPlace o (Ok u) = o ≡ None
ChecksPlace o (Err (Refused why)) = o ≡ Some why
ChecksPlace o (Err OutOfMemory) = ⊥

-- the label of a line stands at the next byte, and nothing else has changed; or it stands already, or memory is wanting
pub record HasLabel {I : Type 0} (old new : Draft I) (label : Option (List ℕ)) : Type 0 where
  pub code : new.code.items ≡ old.code.items
  pub values : new.values.items ≡ old.values.items
  pub bss : new.bss ≡ old.bss
  pub section : new.section ≡ old.section
  pub labels : new.labels ≡ old.labels ++ label_here label old
  pub new_label : is_twice label old.labels ≡ false
  pub entry : new.entry ≡ old.entry
  pub holes : new.holes.items ≡ old.holes.items

abbrev pub AddsLabel : {I : Type 0} → Draft I → Draft I → Option (List ℕ) → Result (Unit {0}) Stop → Type 0
AddsLabel old new label (Ok u) = HasLabel old new label
AddsLabel old new label (Err (Refused why)) = (why ≡ LabelTwice) × (is_twice label old.labels ≡ true)
AddsLabel old new label (Err OutOfMemory) = Unit {0}
