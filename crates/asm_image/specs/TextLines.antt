-- Lines of a text by their places.
use Rattle.std.specs.Prelude.{◌≡◌, ℕ, ◌+◌, ◌==◌, not, nat_lt, if◌then◌else◌, Bool, ◌<◌, ◌≤◌, List, ◌∷◌, drop, length, slice_range}
use Rattle.std.specs.Str.{IsCharBoundary}
use Rattle.listing_model.specs.Lines.{lines_of, newline}

-- the line that begins at a place ends before `past`, and the next begins behind its newline
pub record IsLine (text : List ℕ) (start past : ℕ) : Type 0 where
  pub after : start ≤ past
  pub within : past ≤ length text
  pub is : lines_of (drop start text) ≡ slice_range text start past ∷ lines_of (drop (past + 1) text)
  pub cut : IsCharBoundary text past
  pub next_cut : past < length text → IsCharBoundary text (past + 1)

-- bytes of a line
abbrev pub in_line : ℕ → Bool
in_line c = not (c == newline)

-- where the next line begins behind one that ends at a place
abbrev pub start_behind : List ℕ → ℕ → ℕ
start_behind text past = if nat_lt past (length text) then past + 1 else past
