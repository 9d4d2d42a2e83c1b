-- Where the lines of a listing stand, and the first of them that can't stand where it would. It is this project's own
-- choice, as docs/MANUAL.md has it under "Directives" and "Refused listings".
use Rattle.std.specs.Prelude.{ℕ, ◌+◌, ◌-◌, ◌%◌, ◌^◌, ◌==◌, ◌&&◌, ◌||◌, not, Bool, true, false, if◌then◌else◌, List, [], ◌∷◌, ◌++◌, Option, Some, None, Result, Ok, Err, length, map, nat_lt, replicate, sum_by, is_some, find}
use Rattle.std.specs.Option.{option_map_or, option_or}
use Rattle.std.specs.Str.{bytes_eq}
use Rattle.byteorder.specs.Endian.{little_bytes}
use Rattle.asm_tokens.specs.declared.target.Target.{Target}
use Rattle.line_words.specs.Refusals.{and_then}
use Rattle.asm_tokens.specs.declared.target.Target.TheVariants.{Label, Address}
use Rattle.listing_model.specs.declared.directive.Directive.{Directive}
use Rattle.listing_model.specs.declared.directive.Directive.TheVariants.{Code, Data, Numbers, Ascii, Zero, Align, Bss, Entry}
use Rattle.listing_model.specs.declared.fault.ListingFault.{ListingFault}
use Rattle.listing_model.specs.declared.fault.ListingWhy.{ListingWhy}
use Rattle.listing_model.specs.declared.fault.ListingWhy.TheVariants.{SecondEntry, LabelTwice, InstructionInData, Misaligned, TooLarge}
use Rattle.listing_model.specs.declared.line.Body.{Body}
use Rattle.listing_model.specs.declared.line.Body.TheVariants as body
use Rattle.listing_model.specs.declared.line.Line.{Line}
use Rattle.listing_model.specs.declared.line.Section.{Section}
use Rattle.listing_model.specs.declared.line.Section.TheVariants.{Code as InCode, Data as InData}
use Rattle.listing_model.specs.LineOf.{line_of}
use Rattle.listing_model.specs.Statements.{Statements}

-- ---- what lines leave

pub data Piece (I : Type 0) : Type 0 where
  -- bytes that are known
  bytes : List ℕ → Piece I
  -- an instruction whose target is still to be put in
  aimed : I → Target → Piece I
  -- the address of a label, in 8 bytes
  address : List ℕ → Piece I
  -- a label that has to stand somewhere, in no bytes
  mention : List ℕ → Piece I

-- a piece of a line, at a place of a section
pub record Placed (I : Type 0) : Type 0 where
  pub line : ℕ
  pub section : Section
  pub place : ℕ
  pub piece : Piece I

-- a label at a place of a section
pub record Labeled : Type 0 where
  pub name : List ℕ
  pub section : Section
  pub place : ℕ

-- what some lines leave: their pieces and labels in order, the section of the next line, bytes of code, of data, and of
-- memory behind the data, and the entry's label
pub record Layout (I : Type 0) : Type 0 where
  pub pieces : List (Placed I)
  pub labels : List Labeled
  pub section : Section
  pub code_size : ℕ
  pub data_size : ℕ
  pub bss_size : ℕ
  pub entry : Option (List ℕ)

abbrev pub empty_layout : {I : Type 0} → Layout I
empty_layout =
    record { pieces = []; labels = []; section = InCode; code_size = 0; data_size = 0; bss_size = 0; entry = None }

-- the first label of a name
abbrev pub label_named : List ℕ → List Labeled → Option Labeled
label_named n ls = find (λ l. bytes_eq n l.name) ls

-- ---- pieces

-- bytes of a piece
abbrev pub size : {I : Type 0} → Piece I → ℕ
size (bytes bs) = length bs
size (aimed i t) = 4
size (address n) = 8
size (mention n) = 0

-- a number in n bytes, or the address of a label
abbrev pub number_piece : {I : Type 0} → ℕ → Target → Piece I
number_piece n (Address x) = bytes (little_bytes n x)
number_piece n (Label l) = address l

-- bytes from a place up to a multiple of n
abbrev pub padding : ℕ → ℕ → ℕ
padding n place = (n - place % n) % n

-- what a directive leaves at a place
abbrev pub directive_pieces : {I : Type 0} → Directive → ℕ → List (Piece I)
directive_pieces Code place = []
directive_pieces Data place = []
directive_pieces (Numbers n ts) place = map (number_piece n) ts
directive_pieces (Ascii text) place = bytes text ∷ []
directive_pieces (Zero n) place = bytes (replicate n 0) ∷ []
directive_pieces (Align n) place = bytes (replicate (padding n place) 0) ∷ []
directive_pieces (Bss n) place = []
directive_pieces (Entry l) place = mention l ∷ []

abbrev pub pieces_of : {I : Type 0} → Statements I → Body I → ℕ → List (Piece I)
pieces_of s body.Nothing place = []
pieces_of s (body.Plain i) place = bytes (little_bytes 4 (s.word i)) ∷ []
pieces_of s (body.Aimed i t) place = aimed i t ∷ []
pieces_of s (body.Directive d) place = directive_pieces d place

-- pieces of a line one behind the other, the first at a place
abbrev pub placed_from : {I : Type 0} → ℕ → Section → ℕ → List (Piece I) → List (Placed I)
placed_from n s place [] = []
placed_from n s place (p ∷ ps) =
    record { line = n; section = s; place = place; piece = p } ∷ placed_from n s (place + size p) ps

-- ---- what a line changes

abbrev pub section_after : {I : Type 0} → Section → Body I → Section
section_after s (body.Directive Code) = InCode
section_after s (body.Directive Data) = InData
section_after s b = s

abbrev pub bss_of : {I : Type 0} → Body I → ℕ
bss_of (body.Directive (Bss n)) = n
bss_of b = 0

abbrev pub entry_of : {I : Type 0} → Body I → Option (List ℕ)
entry_of (body.Directive (Entry l)) = Some l
entry_of b = None

abbrev pub is_instruction : {I : Type 0} → Body I → Bool
is_instruction body.Nothing = false
is_instruction (body.Plain i) = true
is_instruction (body.Aimed i t) = true
is_instruction (body.Directive d) = false

abbrev pub is_data : Section → Bool
is_data InCode = false
is_data InData = true

-- where the next byte of the section stands in it
abbrev pub here : {I : Type 0} → Layout I → ℕ
here l = if is_data l.section then l.data_size else l.code_size

abbrev pub label_at : {I : Type 0} → Option (List ℕ) → Layout I → List Labeled
label_at None l = []
label_at (Some n) l = record { name = n; section = l.section; place = here l } ∷ []

-- the layout with line n more: its label and its pieces stand at the next byte of the section so far
abbrev pub with_line : {I : Type 0} → Statements I → ℕ → Layout I → Line I → Layout I
with_line s n l line =
    let ps = pieces_of s line.body (here l) in
    let more = sum_by size ps in
    record {
      pieces = l.pieces ++ placed_from n l.section (here l) ps;
      labels = l.labels ++ label_at line.label l;
      section = section_after l.section line.body;
      code_size = l.code_size + (if is_data l.section then 0 else more);
      data_size = l.data_size + (if is_data l.section then more else 0);
      bss_size = l.bss_size + bss_of line.body;
      entry = option_or l.entry (entry_of line.body);
    }

-- ---- refusals

abbrev pub is_twice : Option (List ℕ) → List Labeled → Bool
is_twice n ls = option_map_or (λ n. is_some (label_named n ls)) n false

-- why a line can't stand behind a layout
abbrev pub misplaced : {I : Type 0} → Layout I → Line I → Option ListingWhy
misplaced l line =
    if is_some (entry_of line.body) && is_some l.entry then Some SecondEntry
    else (if is_twice line.label l.labels then Some LabelTwice
    else (if is_instruction line.body && is_data l.section then Some InstructionInData
    else (if is_instruction line.body && not (here l % 4 == 0) then Some Misaligned else None)))

-- over 16 MiB of code or of data, or over 1 GiB of memory behind it
abbrev pub is_too_large : {I : Type 0} → Layout I → Bool
is_too_large l = nat_lt (2 ^ 24) l.code_size || (nat_lt (2 ^ 24) l.data_size || nat_lt (2 ^ 30) l.bss_size)

abbrev pub no_larger : {I : Type 0} → Layout I → Result (Layout I) ListingWhy
no_larger l = if is_too_large l then Err TooLarge else Ok l

abbrev pub unless_misplaced : {I : Type 0} → Option ListingWhy → Layout I → Result (Layout I) ListingWhy
unless_misplaced (Some e) l = Err e
unless_misplaced None l = no_larger l

abbrev pub at_line : {A : Type 0} → ℕ → Result A ListingWhy → Result A ListingFault
at_line n (Err e) = Err (record { line = n; why = e })
at_line n (Ok x) = Ok x

-- ---- all lines

module _ {I : Type 0} (s : Statements I) where
  abbrev pub placed_line : ℕ → Layout I → Result (Line I) ListingWhy → Result (Layout I) ListingWhy
  placed_line n l line = and_then line (λ line. unless_misplaced (misplaced l line) (with_line s n l line))

  -- the lines from line n on behind a layout, up to the first that is refused
  abbrev pub laid_out : ℕ → Result (Layout I) ListingFault → List (List ℕ) → Result (Layout I) ListingFault
  laid_out n r [] = r
  laid_out n (Err e) (text ∷ texts) = Err e
  laid_out n (Ok l) (text ∷ texts) = laid_out (n + 1) (at_line n (placed_line n l (line_of s text))) texts
