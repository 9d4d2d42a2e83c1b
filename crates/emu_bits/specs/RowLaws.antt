-- What makes a row one of its line, and the law that no word is in two rows of a table.
use Rattle.std.specs.Prelude.{◌≡◌, ℕ, zero, suc, ◌^◌, ◌<◌, Bool, Option, Some, None, List, [], ◌∷◌, length, IsTrue}
use Rattle.emu_bits.specs.Rows.{Place, width, Line, Row, row_in, decode}

-- its condition
abbrev pub meets : {F : Type 0} → Row F → Bool
meets r = r.line.holds r.number r.values

-- Values that fit their places.
abbrev pub Fit : List Place → List ℕ → Type 0
Fit [] [] = Unit {0}
Fit [] (v ∷ vs) = ⊥
Fit (p ∷ ps) [] = ⊥
Fit (p ∷ ps) (v ∷ vs) = (v < 2 ^ width p) × Fit ps vs

-- A row of a line with values that fit and meet the condition.
pub record IsRow {F : Type 0} (r : Row F) : Type 0 where
  pub numbered : r.number < length r.line.words
  pub fits : Fit r.line.places r.values
  pub met : IsTrue (meets r)

-- the same without the condition
pub record IsShape {F : Type 0} (r : Row F) : Type 0 where
  pub numbered : r.number < length r.line.words
  pub fits : Fit r.line.places r.values

-- the line at a place of some lines
abbrev pub line_at : {F : Type 0} → List (Line F) → ℕ → Option (Line F)
line_at [] k = None
line_at (l ∷ ls) zero = Some l
line_at (l ∷ ls) (suc k) = line_at ls k

-- Each word of a row of a line decodes to that row.
pub record OneRow {F : Type 0} (ls : List (Line F)) : Type 0 where
  pub at : (k : ℕ) (l : Line F) (w : ℕ) (r : Row F) → line_at ls k ≡ Some l → row_in l w ≡ Some r → decode ls w ≡ Some r
