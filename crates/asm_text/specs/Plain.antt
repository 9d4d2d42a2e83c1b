-- Strings read part by part.
use Rattle.std.specs.Prelude.{◌≡◌, ℕ, ◌<◌, ◌==◌, ◌||◌, not, Bool, false, List, ◌++◌, Option, Some, None, drop, option_map}
use Rattle.std.specs.Str.{IsCharBoundary}
use Rattle.listing_model.specs.Directives.{contents}
use Rattle.asm_tokens.specs.Tokens.{quote, backslash}

-- a byte of a string that stands for itself
abbrev pub is_plain : ℕ → Bool
is_plain c = not (c == quote || c == backslash)

-- what stands in a string behind these bytes of its text
abbrev pub prepended : List ℕ → Option (List ℕ) → Option (List ℕ)
prepended xs o = option_map (λ ys. xs ++ ys) o

-- the string's text goes on at `next`, or has ended
abbrev pub GoesOn : List ℕ → ℕ → List ℕ → Option ℕ → Type 0
GoesOn token start part None = contents false (drop start token) ≡ Some part
GoesOn token start part (Some next) =
    (start < next) × IsCharBoundary token next × (contents false (drop start token) ≡ prepended part (contents false (drop next token)))

-- the text of a part of a string is added to the text so far
pub record AddsPart (token : List ℕ) (start : ℕ) (old new : List ℕ) (next : Option ℕ) : Type 0 where
  pub part : List ℕ
  pub added : new ≡ old ++ part
  pub rest : GoesOn token start part next
