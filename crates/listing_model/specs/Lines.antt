-- The lines of a listing. They are this project's own choice, as docs/MANUAL.md has them under "Listings".
use Rattle.std.specs.Prelude.{ℕ, ◌+◌, ◌==◌, if◌then◌else◌, List, [], ◌∷◌, count_by, take}
use Rattle.std.specs.List.{onto_first}
use Rattle.std.specs.Str.Lossy.{utf8_valid_len}

abbrev pub newline : ℕ
newline = 10

-- the lines that end with a newline, and a last one without it
abbrev pub lines_of : List ℕ → List (List ℕ)
lines_of [] = []
lines_of (c ∷ cs) = if c == newline then [] ∷ lines_of cs else onto_first c (lines_of cs)

-- the number, from 1, of the line of the first byte that isn't UTF-8
abbrev pub bad_line : List ℕ → ℕ
bad_line bytes = 1 + count_by (λ c. c == newline) (take (utf8_valid_len bytes) bytes)
