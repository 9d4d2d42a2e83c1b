-- Some lines of a table, one after the other.
use Rattle.std.specs.Prelude.{ℕ, List, take, drop}
use Rattle.text_model.specs.Reading.{Pattern}
use Rattle.text_model.specs.Writing.{flat}

-- the patterns of so many lines from one on
abbrev pub some_lines : ℕ → ℕ → List (List Pattern) → List Pattern
some_lines first count pss = flat (take count (drop first pss))
