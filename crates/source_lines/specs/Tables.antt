-- What the text of a table of source lines says: its rows, or its first refusal. `table` is the whole of it. The form
-- is this project's own choice, as docs/DEBUGGING.md has it under "Lines of the source".
--
-- A line without a byte and a comment are skipped. Each other line is a row, `ADDRESS FILE LINE` or `ADDRESS -`: the
-- code from this address on, up to that of the next row, is of this line of this file, or of none that is known. Lines
-- of files are counted from 1, and addresses don't fall from row to row.
use Rattle.std.specs.Prelude.{ℕ, ◌+◌, ◌-◌, ◌^◌, Bool, false, ◌&&◌, ◌||◌, List, [], ◌∷◌, ◌++◌, length, map, codes}
use Rattle.std.specs.Prelude.{get_or, Option, Some, None, nat_eq, nat_le, nat_lt, Result, Ok, Err, if◌then◌else◌}
use Rattle.std.specs.List.{ends_with, find}
use Rattle.std.specs.Option.{option_map, option_map_or}
use Rattle.std.specs.Str.{bytes_eq}
use Rattle.line_words.specs.Lines.{lines, words, is_empty, is_comment, number_of_word}
use Rattle.line_words.specs.Refusals.{and_then, read_lines}
use Rattle.source_lines.specs.declared.rows.Row.{Row}
use Rattle.source_lines.specs.declared.rows.SourcePlace.{SourcePlace}
use Rattle.source_lines.specs.declared.rows.TableFault.{TableFault}
use Rattle.source_lines.specs.declared.rows.TableWhy.{TableWhy}
use Rattle.source_lines.specs.declared.rows.TableWhy.TheVariants.{TooManyLines, MissingWord, BadAddress, BadLine}
use Rattle.source_lines.specs.declared.rows.TableWhy.TheVariants.{ExtraWord, OutOfOrder}

-- a line of a file
pub record SourceLine : Type 0 where
  pub file : List ℕ
  pub line : ℕ

-- from this address on, of this line, or of none that is known
pub record LineRow : Type 0 where
  pub address : ℕ
  pub place : Option SourceLine

-- ---- a row

abbrev pub address : List ℕ → Result ℕ TableWhy
address word = option_map_or Ok (number_of_word word) (Err BadAddress)

abbrev pub numbered : List ℕ → Option ℕ → Result (Option SourceLine) TableWhy
numbered file None = Err BadLine
numbered file (Some line) = if nat_le 1 line then Ok (Some (record { file = file; line = line })) else Err BadLine

-- a file and a line's number, behind the address
abbrev pub line_of : List (List ℕ) → Result (Option SourceLine) TableWhy
line_of words =
    if nat_lt (length words) 3 then Err MissingWord
    else (if nat_lt 3 (length words) then Err ExtraWord
    else numbered (get_or words 1 []) (number_of_word (get_or words 2 [])))

abbrev pub place_of : List (List ℕ) → Result (Option SourceLine) TableWhy
place_of words =
    if bytes_eq (get_or words 1 []) (codes "-") then (if nat_lt 2 (length words) then Err ExtraWord else Ok None)
    else line_of words

abbrev pub row_of : List (List ℕ) → Result LineRow TableWhy
row_of words =
    if nat_lt (length words) 2 then Err MissingWord
    else and_then (address (get_or words 0 [])) (λ address.
    and_then (place_of words) (λ place. Ok (record { address = address; place = place })))

-- ---- the lines one after the other

abbrev pub has_no_row : List ℕ → Bool
has_no_row line = is_empty line || is_comment line

-- below the address of the last row, if there is one
abbrev pub is_below_last : List LineRow → ℕ → Bool
is_below_last rows address = nat_lt address (get_or (map (λ row. row.address) rows) (length rows - 1) 0)

-- a line behind the rows of those before it
abbrev pub followed : List LineRow → LineRow → Result (List LineRow) TableWhy
followed rows row = if is_below_last rows row.address then Err OutOfOrder else Ok (rows ++ row ∷ [])

abbrev pub read_line : List LineRow → List ℕ → Result (List LineRow) TableWhy
read_line rows line = if has_no_row line then Ok rows else and_then (row_of (words line)) (followed rows)

abbrev pub fault_at : TableWhy → ℕ → TableFault
fault_at why number = record { line = number; why = why }

abbrev pub most_lines : ℕ
most_lines = 1000000

-- the table of a text
abbrev pub table : List ℕ → Result (List LineRow) TableFault
table text =
    if nat_lt most_lines (length (lines text)) then Err (fault_at TooManyLines (most_lines + 1))
    else read_lines fault_at read_line [] 1 (lines text)

-- ---- as code has them

abbrev pub seen_line : SourcePlace → SourceLine
seen_line place = record { file = place.file.now; line = place.line }

abbrev pub seen_place : Option SourcePlace → Option SourceLine
seen_place None = None
seen_place (Some place) = Some (seen_line place)

abbrev pub seen_place_read : Result (Option SourcePlace) TableWhy → Result (Option SourceLine) TableWhy
seen_place_read (Ok place) = Ok (seen_place place)
seen_place_read (Err why) = Err why

abbrev pub seen : Row → LineRow
seen row = record { address = row.address; place = seen_place row.place }

abbrev pub seen_read : Result Row TableWhy → Result LineRow TableWhy
seen_read (Ok row) = Ok (seen row)
seen_read (Err why) = Err why

-- ---- of which line an address is, and where a line begins

-- the line of the last row that doesn't stand above an address
abbrev pub line_from : Option SourceLine → ℕ → List Row → Option SourceLine
line_from before address [] = before
line_from before address (row ∷ rows) =
    line_from (if nat_le row.address address then seen_place row.place else before) address rows

abbrev pub line_at : ℕ → List Row → Option SourceLine
line_at address rows = line_from None address rows

-- the address of that row, or the address itself
abbrev pub address_from : ℕ → ℕ → List Row → ℕ
address_from before address [] = before
address_from before address (row ∷ rows) =
    address_from (if nat_le row.address address then row.address else before) address rows

abbrev pub address_at : ℕ → List Row → ℕ
address_at address rows = address_from address address rows

-- the address of the first row above an address, or the greatest address
abbrev pub address_behind : ℕ → List Row → ℕ
address_behind address rows =
    option_map_or (λ row. row.address) (find (λ row. nat_lt address row.address) rows) (2 ^ 64 - 1)

-- the byte in front of so many last ones
abbrev pub byte_before : List ℕ → ℕ → ℕ
byte_before path count = if nat_lt count (length path) then get_or path (length path - 1 - count) 0 else 0

-- by its path, or by what stands at its end behind a slash
abbrev pub is_file_named : List ℕ → List ℕ → Bool
is_file_named path name =
    bytes_eq path name || (ends_with nat_eq path name && nat_eq (byte_before path (length name)) 47)

abbrev pub is_line : List ℕ → ℕ → SourceLine → Bool
is_line file line place = nat_eq place.line line && is_file_named place.file file

abbrev pub is_row_of : List ℕ → ℕ → Row → Bool
is_row_of file line row = option_map_or (is_line file line) (seen_place row.place) false

-- the address of the first row of a line
abbrev pub address_of_line : List ℕ → ℕ → List Row → Option ℕ
address_of_line file line rows = option_map (λ row. row.address) (find (is_row_of file line) rows)
