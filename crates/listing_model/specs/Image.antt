-- What a listing makes: the file, or the first refusal. The order of the refusals is this project's own choice, as
-- docs/MANUAL.md has it under "Refused listings".
use Rattle.std.specs.Prelude.{ℕ, ◌+◌, ◌==◌, if◌then◌else◌, List, [], ◌∷◌, ◌++◌, Option, Some, Result, Ok, Err, length, nat_lt, ok_or, option_map, option_and_then, unwrap_or}
use Rattle.std.specs.Str.{is_utf8}
use Rattle.byteorder.specs.Endian.{little_bytes}
use Rattle.line_words.specs.Refusals.{and_then}
use Rattle.asm_tokens.specs.declared.target.Target.TheVariants.{Label, Address}
use Rattle.listing_model.specs.declared.fault.ListingFault.{ListingFault}
use Rattle.listing_model.specs.declared.fault.ListingWhy.{ListingWhy}
use Rattle.listing_model.specs.declared.fault.ListingWhy.TheVariants.{NotUtf8, TooManyLines, UnknownLabel, TooFar, NoCode}
use Rattle.listing_model.specs.declared.line.Section.{Section}
use Rattle.listing_model.specs.declared.line.Section.TheVariants as section
use Rattle.listing_model.specs.File.{code_base, data_base, file_of}
use Rattle.listing_model.specs.Layout.{Piece, bytes, aimed, address, mention, Placed, Labeled, Layout, label_named, empty_layout, laid_out}
use Rattle.listing_model.specs.Lines.{lines_of, bad_line}
use Rattle.listing_model.specs.Statements.{Statements}

-- ---- addresses

-- where a section begins in memory, with so many bytes of code
abbrev pub base : ℕ → Section → ℕ
base code_size section.Code = code_base
base code_size section.Data = data_base code_size

abbrev pub label_address : ℕ → Labeled → ℕ
label_address code_size l = base code_size l.section + l.place

-- the address of a label
abbrev pub address_of : ℕ → List Labeled → List ℕ → Option ℕ
address_of code_size ls n = option_map (label_address code_size) (label_named n ls)

-- ---- pieces with the addresses of labels filled in

module _ {I : Type 0} (s : Statements I) where
  -- an instruction at an address, aimed at another
  abbrev pub aimed_at : I → ℕ → Option ℕ → Result (List ℕ) ListingWhy
  aimed_at i pc a =
      and_then (ok_or a UnknownLabel) (λ a. ok_or (option_map (λ j. little_bytes 4 (s.word j)) (s.aimed i pc a)) TooFar)

  -- the bytes of a piece at an address, where labels have these addresses
  abbrev pub piece_bytes : (List ℕ → Option ℕ) → ℕ → Piece I → Result (List ℕ) ListingWhy
  piece_bytes labels pc (bytes bs) = Ok bs
  piece_bytes labels pc (aimed i (Address a)) = aimed_at i pc (Some a)
  piece_bytes labels pc (aimed i (Label n)) = aimed_at i pc (labels n)
  piece_bytes labels pc (address n) = ok_or (option_map (little_bytes 8) (labels n)) UnknownLabel
  piece_bytes labels pc (mention n) = ok_or (option_map (λ a. []) (labels n)) UnknownLabel

-- ---- the bytes of all pieces

-- the bytes of the code and of the data
pub record Contents : Type 0 where
  pub code : List ℕ
  pub values : List ℕ

abbrev pub in_front : Section → List ℕ → Contents → Contents
in_front section.Code bs c = record c { code = bs ++ c.code }
in_front section.Data bs c = record c { values = bs ++ c.values }

-- a piece of line n in front of others: a refusal of the first comes first
abbrev pub piece_before : ℕ → Section → Result (List ℕ) ListingWhy
    → Result Contents ListingFault → Result Contents ListingFault
piece_before n t (Err e) r = Err (record { line = n; why = e })
piece_before n t (Ok bs) (Err e) = Err e
piece_before n t (Ok bs) (Ok c) = Ok (in_front t bs c)

module _ {I : Type 0} (s : Statements I) where
  abbrev pub contents_of : ℕ → (List ℕ → Option ℕ) → List (Placed I) → Result Contents ListingFault
  contents_of code_size labels [] = Ok (record { code = []; values = [] })
  contents_of code_size labels (p ∷ ps) =
      piece_before p.line p.section (piece_bytes s labels (base code_size p.section + p.place) p.piece)
      (contents_of code_size labels ps)

  -- the address of the entry, or of the first instruction where none is named
  abbrev pub entry_address : Layout I → ℕ
  entry_address l = unwrap_or (option_and_then (address_of l.code_size l.labels) l.entry) code_base

  abbrev pub file_with : Layout I → Result Contents ListingFault → Result (List ℕ) ListingFault
  file_with l contents =
      and_then contents (λ c. if length c.code == 0 then Err (record { line = 0; why = NoCode })
      else Ok (file_of (entry_address l) c.code c.values l.bss_size))

  abbrev pub file_from : Result (Layout I) ListingFault → Result (List ℕ) ListingFault
  file_from layout =
      and_then layout (λ l. file_with l (contents_of l.code_size (address_of l.code_size l.labels) l.pieces))

  -- what the text of a listing makes
  abbrev pub image_of : List ℕ → Result (List ℕ) ListingFault
  image_of text =
      if nat_lt 1_000_000 (length (lines_of text)) then Err (record { line = 1_000_001; why = TooManyLines })
      else file_from (laid_out s 1 (Ok empty_layout) (lines_of text))

  -- what the bytes of a listing make
  abbrev pub image_of_bytes : List ℕ → Result (List ℕ) ListingFault
  image_of_bytes listing =
      if is_utf8 listing then image_of listing else Err (record { line = bad_line listing; why = NotUtf8 })
