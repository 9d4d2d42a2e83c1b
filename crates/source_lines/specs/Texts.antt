-- The lines of a program's source as text.
use Rattle.std.specs.Prelude.{ℕ, ◌+◌, ◌-◌, Bool, ◌&&◌, List, [], ◌∷◌, ◌++◌, codes, flat_map, Option, Some, None, nat_eq}
use Rattle.std.specs.Prelude.{nat_le, nat_lt, if◌then◌else◌}
use Rattle.std.specs.Fmt.{decimal}
use Rattle.std.specs.List.{find}
use Rattle.std.specs.Option.{option_map_or}
use Rattle.std.specs.Str.{bytes_eq}
use Rattle.line_words.specs.Lines.{is_empty}
use Rattle.source_lines.specs.declared.rows.Row.{Row}
use Rattle.source_lines.specs.declared.texts.NumberedLine.{NumberedLine}
use Rattle.source_lines.specs.declared.texts.SourceFile.{SourceFile}
use Rattle.source_lines.specs.Tables.{SourceLine, line_at}

abbrev pub newline : List ℕ
newline = codes "\n"

-- ---- the lines of a text with their numbers

pub record TextLine : Type 0 where
  pub number : ℕ
  pub text : List ℕ

abbrev pub numbered_from : ℕ → List (List ℕ) → List TextLine
numbered_from number [] = []
numbered_from number (line ∷ lines) = (record { number = number; text = line }) ∷ numbered_from (number + 1) lines

abbrev pub seen_numbered : NumberedLine → TextLine
seen_numbered line = record { number = line.number; text = line.text.now }

-- ---- the text of a line, where its file is there

abbrev pub is_numbered : ℕ → NumberedLine → Bool
is_numbered number line = nat_eq line.number number

abbrev pub numbered_text : ℕ → List NumberedLine → List ℕ
numbered_text number lines = option_map_or (λ line. line.text.now) (find (is_numbered number) lines) []

abbrev pub is_named : List ℕ → SourceFile → Bool
is_named name file = bytes_eq file.name.now name

abbrev pub line_text : List SourceFile → SourceLine → List ℕ
line_text files place =
    option_map_or (λ file. numbered_text place.line file.lines.items) (find (is_named place.file) files) []

-- ---- `spoil.c:12  a[62] = 1000;`

abbrev pub line_name : SourceLine → List ℕ
line_name place = place.file ++ codes ":" ++ decimal place.line

-- a line behind its name or number
abbrev pub text_behind : List ℕ → List ℕ
text_behind line = if is_empty line then newline else codes "  " ++ line ++ newline

abbrev pub text_of : List SourceFile → SourceLine → List ℕ
text_of files place = codes "  " ++ line_name place ++ text_behind (line_text files place)

abbrev pub text_or_none : List SourceFile → Option SourceLine → List ℕ
text_or_none files None = []
text_or_none files (Some place) = text_of files place

-- the line that the code at an address is of
abbrev pub source_text : List SourceFile → List Row → ℕ → List ℕ
source_text files rows address = text_or_none files (line_at address rows)

-- ---- ten lines of a file from one on

abbrev pub is_listed : ℕ → ℕ → Bool
is_listed first number = nat_le first number && nat_lt (number - first) 10

abbrev pub mark : ℕ → ℕ → List ℕ
mark here number = if nat_eq here number then codes "=> " else codes "   "

abbrev pub listed_text : ℕ → ℕ → NumberedLine → List ℕ
listed_text first here line =
    if is_listed first line.number
    then mark here line.number ++ decimal line.number ++ text_behind line.text.now else []

abbrev pub listing_in : ℕ → ℕ → List NumberedLine → List ℕ
listing_in first here lines = flat_map (listed_text first here) lines

abbrev pub file_listing : List ℕ → ℕ → ℕ → SourceFile → List ℕ
file_listing name first here file = if is_named name file then listing_in first here file.lines.items else []

-- of the file of a name
abbrev pub listing : List SourceFile → List ℕ → ℕ → ℕ → List ℕ
listing files name first here = flat_map (file_listing name first here) files
